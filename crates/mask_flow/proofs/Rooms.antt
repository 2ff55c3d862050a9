-- Places with room for statements that stand in each other so deep, and what their masks' statements name.
use Rattle.std.proofs.Common.{◌≡◌, ℕ, ◌+◌, ◌*◌, ◌<◌, ◌≤◌, true, List, arith}
use Rattle.std.specs.Prelude.{nat_lt}
use Rattle.std.proofs.lemmas.Bool.{lt-ltb}
use Rattle.item_ir.specs.declared.form.Val.{Val}
use Rattle.lane_ir.specs.Valid.{Counts, is_body}
use Rattle.mask_flow.specs.declared.place.Place.{Place}
use Rattle.mask_flow.specs.Masked.{or_top, round_of, loop_of, branch, scope, turning, in_round, leaves_to, settles, opens, chooses, tests, small_numbers, picks, id}

pub record Room (c : Counts) (n h : ℕ) (at : Place) : Type 0 where
  pub item : n ≤ at.value
  pub values : at.value + (5 * h + 6) ≤ c.vals
  pub variables : at.var + 2 * h ≤ c.vars
  pub top : at.top < c.vars
  pub rounds : (x : ℕ) → x < c.vars → or_top at.round x < c.vars
  pub loops : (x : ℕ) → x < c.vars → or_top at.in_loop x < c.vars
  pub scopes : at.in_scope < c.vars

pub fewer : (c : Counts) (n h m : ℕ) (at : Place) → h ≤ m → Room c n m at → Room c n h at
fewer c n h m at le r = record {
  item = r.item;
  values = let v = r.values in omega (arith, v, le);
  variables = let v = r.variables in omega (arith, v, le);
  top = r.top;
  rounds = r.rounds;
  loops = r.loops;
  scopes = r.scopes;
}

-- what a place in a statement has room for
module _ (c : Counts) (n h m : ℕ) (at : Place) (le : h ≤ m) (r : Room c n (m + 1) at) where
  pub branch_room : Room c n h (branch at)
  branch_room =
      let v = r.values in
      let u = r.variables in
      let i = r.item in
      record {
        item = omega (arith, i);
        values = omega (arith, v, le);
        variables = omega (arith, u, le);
        top = omega (arith, u);
        rounds = r.rounds;
        loops = r.loops;
        scopes = r.scopes;
      }

  pub scope_room : Room c n h (scope at)
  scope_room =
      let v = r.values in
      let u = r.variables in
      record {
        item = r.item;
        values = omega (arith, v, le);
        variables = omega (arith, u, le);
        top = omega (arith, u);
        rounds = λ x lt. lt;
        loops = λ x lt. lt;
        scopes = omega (arith, u);
      }

  pub turning_room : Room c n h (turning at)
  turning_room =
      let v = r.values in
      let u = r.variables in
      record {
        item = r.item;
        values = omega (arith, v, le);
        variables = omega (arith, u, le);
        top = omega (arith, u);
        rounds = r.rounds;
        loops = λ x lt. omega (arith, u);
        scopes = r.scopes;
      }

  pub round_room : Room c n h (in_round at)
  round_room =
      let v = r.values in
      let u = r.variables in
      record {
        item = r.item;
        values = omega (arith, v, le);
        variables = omega (arith, u, le);
        top = omega (arith, u);
        rounds = λ x lt. omega (arith, u);
        loops = λ x lt. omega (arith, u);
        scopes = r.scopes;
      }

pub value_named : (c : Counts) (n h : ℕ) (at : Place) → Room c n h at → (i : ℕ) → i < 6 → nat_lt (at.value + i) c.vals ≡ true
value_named c n h at r i lt = let v = r.values in lt-ltb (at.value + i) c.vals (omega (arith, v, lt))

pub first_named : (c : Counts) (n h : ℕ) (at : Place) → Room c n h at → nat_lt at.value c.vals ≡ true
first_named c n h at r = let v = r.values in lt-ltb at.value c.vals (omega (arith, v))

pub top_named : (c : Counts) (n h : ℕ) (at : Place) → Room c n h at → nat_lt at.top c.vars ≡ true
top_named c n h at r = lt-ltb at.top c.vars r.top

module _ (c : Counts) (n h : ℕ) (at : Place) (r : Room c n h at) where
  pub leaves_named : (end : ℕ) → end < c.vars → is_body c (leaves_to end at) ≡ true
  unfolding leaves_to
  leaves_named end lt = simp (first_named c n h at r, value_named c n h at r 1 (omega arith), top_named c n h at r, lt-ltb end c.vars lt)

  pub settles_named : is_body c (settles at) ≡ true
  unfolding settles
  settles_named =
      simp (
        first_named c n h at r,
        value_named c n h at r 1 (omega arith),
        value_named c n h at r 2 (omega arith),
        value_named c n h at r 3 (omega arith),
        value_named c n h at r 4 (omega arith),
        value_named c n h at r 5 (omega arith),
        top_named c n h at r,
        lt-ltb (round_of at) c.vars (r.rounds at.top r.top),
        lt-ltb (loop_of at) c.vars (r.loops at.top r.top),
        lt-ltb at.in_scope c.vars r.scopes,
      )

  pub chooses_named : (x : Val) → nat_lt x.0 c.vals ≡ true → at.var < c.vars → is_body c (chooses at x) ≡ true
  unfolding chooses
  chooses_named x e lt =
      simp (
        e,
        first_named c n h at r,
        value_named c n h at r 1 (omega arith),
        value_named c n h at r 2 (omega arith),
        value_named c n h at r 3 (omega arith),
        value_named c n h at r 4 (omega arith),
        top_named c n h at r,
        lt-ltb at.var c.vars lt,
      )

  pub tests_named : (x : Val) → nat_lt x.0 c.vals ≡ true → at.var < c.vars → is_body c (tests at x) ≡ true
  unfolding tests
  tests_named x e lt = simp (e, first_named c n h at r, value_named c n h at r 1 (omega arith), value_named c n h at r 2 (omega arith), lt-ltb at.var c.vars lt)

  pub opens_named : (var outer : ℕ) → var < c.vars → outer < c.vars → is_body c (opens at.value var outer) ≡ true
  unfolding opens
  opens_named var outer lt le = simp (first_named c n h at r, value_named c n h at r 1 (omega arith), lt-ltb var c.vars lt, lt-ltb outer c.vars le)

  pub picks_named : (x dim : Val) (ids : List Val) (i : ℕ) → ((j : ℕ) → nat_lt (id ids j).0 c.vals ≡ true) → nat_lt x.0 c.vals ≡ true → nat_lt dim.0 c.vals ≡ true
      → is_body c (picks at.value x dim ids i) ≡ true
  unfolding picks small_numbers
  picks_named x dim ids i low e g =
      simp (
        e,
        g,
        low i,
        low (i + 1),
        low (i + 2),
        first_named c n h at r,
        value_named c n h at r 1 (omega arith),
        value_named c n h at r 2 (omega arith),
        value_named c n h at r 3 (omega arith),
        value_named c n h at r 4 (omega arith),
      )
