-- A prolog holds definitions alone, of its own values.
use Rattle.std.proofs.Common.{◌≡◌, ℕ, ◌+◌, ◌<◌, ◌≤◌, Bool, true, false, List, [], ◌∷◌, ◌++◌, refl, lit<, arith}
use Rattle.std.specs.Prelude.{◌&&◌, ◌||◌, nat_le, nat_lt}
use Rattle.std.proofs.lemmas.Bool.{and_from, and_parts, lt-ltb, le-leb}
use Rattle.q_lane.specs.declared.operations.BinOp.{BinOp}
use Rattle.q_lane.specs.declared.operations.BinOp.TheVariants as op
use Rattle.lane_ir.specs.declared.form.LaneStmt.{LaneStmt}
use Rattle.lane_ir.specs.Valid.{counted, is_val, are_vals, is_stmt, is_body}
use Rattle.lane_mapper.specs.declared.uses.Uses.{Uses}
use Rattle.lane_mapper.specs.Definitions.{are_definitions, defines_within, define_within}
use Rattle.lane_mapper.specs.Prolog.{live_part, global_sizes, global_ids, group_sizes, each_id, where_used, in_groups, ids_part, prolog, val, ids_from}

by_uses : (k : ℕ) (a b c : Bool) → are_definitions (prolog k (record { global = a; local = b; group = c })) ≡ true
unfolding live_part global_sizes global_ids group_sizes each_id
by_uses k true true true = refl
by_uses k true true false = refl
by_uses k true false true = refl
by_uses k true false false = refl
by_uses k false true true = refl
by_uses k false true false = refl
by_uses k false false true = refl
by_uses k false false false = refl

pub prolog_defines : (k : ℕ) (u : Uses) → are_definitions (prolog k u) ≡ true
prolog_defines k u = by_uses k u.global u.local u.group

module _ (k : ℕ) where
  -- value k + n is one of them
  own : (n : ℕ) → n < 21 → (rest : Bool) → rest ≡ true → ((nat_le k (k + n) && nat_lt (k + n) (k + 21)) && rest) ≡ true
  own n lt rest e = and_from _ rest (and_from (nat_le k (k + n)) (nat_lt (k + n) (k + 21)) (le-leb k (k + n) (omega arith)) (lt-ltb (k + n) (k + 21) (omega arith))) e

  first_own : (rest : Bool) → rest ≡ true → ((nat_le k k && nat_lt k (k + 21)) && rest) ≡ true
  first_own rest e = and_from _ rest (and_from (nat_le k k) (nat_lt k (k + 21)) (le-leb k k (omega arith)) (lt-ltb k (k + 21) (omega arith))) e

  live_own : define_within k (k + 21) (live_part k) ≡ true
  unfolding live_part
  live_own = first_own _ (own 1 (lit< tt) _ (own 2 (lit< tt) true refl))

  sizes_own : define_within k (k + 21) (global_sizes k) ≡ true
  unfolding global_sizes
  sizes_own = own 3 (lit< tt) _ (own 4 (lit< tt) _ (own 5 (lit< tt) _ (own 6 (lit< tt) _ (own 7 (lit< tt) true refl))))

  global_own : define_within k (k + 21) (global_ids k) ≡ true
  unfolding global_ids
  global_own = own 8 (lit< tt) _ (own 9 (lit< tt) _ (own 10 (lit< tt) _ (own 11 (lit< tt) true refl)))

  group_own : define_within k (k + 21) (group_sizes k) ≡ true
  unfolding group_sizes
  group_own = own 12 (lit< tt) _ (own 13 (lit< tt) _ (own 14 (lit< tt) true refl))

  each_own : (o : BinOp) (n : ℕ) → n + 2 < 21 → define_within k (k + 21) (each_id o (k + n) k) ≡ true
  unfolding each_id
  each_own o n lt =
      and_from _ _ (and_from _ _ (le-leb k (k + n) (omega arith)) (lt-ltb (k + n) (k + 21) (omega arith)))
      (and_from _ _ (and_from _ _ (le-leb k (k + n + 1) (omega arith)) (lt-ltb (k + n + 1) (k + 21) (omega arith)))
      (and_from _ _ (and_from _ _ (le-leb k (k + n + 2) (omega arith)) (lt-ltb (k + n + 2) (k + 21) (omega arith))) refl))

  both_own : (a b : List LaneStmt) → define_within k (k + 21) a ≡ true → define_within k (k + 21) b ≡ true → define_within k (k + 21) (a ++ b) ≡ true
  both_own [] b h g = g
  both_own (s ∷ a) b h g =
      let p = and_parts (defines_within k (k + 21) s) (define_within k (k + 21) a) h in
      and_from (defines_within k (k + 21) s) (define_within k (k + 21) (a ++ b)) p.0 (both_own a b p.1 g)

  used_own : (b : Bool) (l : List LaneStmt) → define_within k (k + 21) l ≡ true → define_within k (k + 21) (where_used b l) ≡ true
  used_own true l h = h
  used_own false l h = refl

  pub prolog_own : (u : Uses) → define_within k (k + 21) (prolog k u) ≡ true
  prolog_own u =
      both_own (live_part k) (ids_part k u) live_own
      (both_own (where_used (u.global || in_groups u) (global_sizes k ++ global_ids k)) _ (used_own (u.global || in_groups u) _ (both_own (global_sizes k) (global_ids k) sizes_own global_own))
      (both_own (where_used (in_groups u) (group_sizes k)) _ (used_own (in_groups u) _ group_own)
      (both_own (where_used u.local (each_id (op.Rem false) (k + 15) k)) _ (used_own u.local _ (each_own (op.Rem false) 15 (lit< tt))) (used_own u.group _ (each_own (op.Div false) 18 (lit< tt))))))

-- they name its values alone
module _ (k : ℕ) where
  below : (n : ℕ) → n < 21 → nat_lt (k + n) (k + 21) ≡ true
  below n lt = lt-ltb (k + n) (k + 21) (omega arith)

  first_below : nat_lt k (k + 21) ≡ true
  first_below = lt-ltb k (k + 21) (omega arith)

  live_named : is_body (counted (k + 21) 0 0 0) (live_part k) ≡ true
  unfolding live_part
  live_named = simp (first_below, below 1 (lit< tt), below 2 (lit< tt))

  sizes_named : is_body (counted (k + 21) 0 0 0) (global_sizes k) ≡ true
  unfolding global_sizes
  sizes_named = simp (below 3 (lit< tt), below 4 (lit< tt), below 5 (lit< tt), below 6 (lit< tt), below 7 (lit< tt))

  global_named : is_body (counted (k + 21) 0 0 0) (global_ids k) ≡ true
  unfolding global_ids
  global_named = simp (first_below, below 6 (lit< tt), below 7 (lit< tt), below 8 (lit< tt), below 9 (lit< tt), below 10 (lit< tt), below 11 (lit< tt))

  group_named : is_body (counted (k + 21) 0 0 0) (group_sizes k) ≡ true
  unfolding group_sizes
  group_named = simp (below 3 (lit< tt), below 4 (lit< tt), below 5 (lit< tt), below 12 (lit< tt), below 13 (lit< tt), below 14 (lit< tt))

  each_named : (o : BinOp) (to : ℕ) → to + 2 < k + 21 → is_body (counted (k + 21) 0 0 0) (each_id o to k) ≡ true
  unfolding each_id
  each_named o to lt =
      let a : nat_lt to (k + 21) ≡ true = lt-ltb to (k + 21) (omega arith) in
      let b : nat_lt (to + 1) (k + 21) ≡ true = lt-ltb (to + 1) (k + 21) (omega arith) in
      let d : nat_lt (to + 2) (k + 21) ≡ true = lt-ltb (to + 2) (k + 21) lt in
      simp (a, b, d, below 8 (lit< tt), below 10 (lit< tt), below 11 (lit< tt), below 12 (lit< tt), below 13 (lit< tt), below 14 (lit< tt))

  both_named : (a b : List LaneStmt) → is_body (counted (k + 21) 0 0 0) a ≡ true → is_body (counted (k + 21) 0 0 0) b ≡ true → is_body (counted (k + 21) 0 0 0) (a ++ b) ≡ true
  both_named [] b h g = g
  both_named (s ∷ a) b h g =
      let p = and_parts (is_stmt (counted (k + 21) 0 0 0) s) (is_body (counted (k + 21) 0 0 0) a) h in
      and_from (is_stmt (counted (k + 21) 0 0 0) s) (is_body (counted (k + 21) 0 0 0) (a ++ b)) p.0 (both_named a b p.1 g)

  used_named : (b : Bool) (l : List LaneStmt) → is_body (counted (k + 21) 0 0 0) l ≡ true → is_body (counted (k + 21) 0 0 0) (where_used b l) ≡ true
  used_named true l h = h
  used_named false l h = refl

  pub prolog_named : (u : Uses) → is_body (counted (k + 21) 0 0 0) (prolog k u) ≡ true
  prolog_named u =
      both_named (live_part k) (ids_part k u) live_named
      (both_named (where_used (u.global || in_groups u) (global_sizes k ++ global_ids k)) _ (used_named (u.global || in_groups u) _ (both_named (global_sizes k) (global_ids k) sizes_named global_named))
      (both_named (where_used (in_groups u) (group_sizes k)) _ (used_named (in_groups u) _ group_named)
      (both_named (where_used u.local (each_id (op.Rem false) (k + 15) k)) _ (used_named u.local _ (each_named (op.Rem false) (k + 15) (omega arith))) (used_named u.group _ (each_named (op.Div false) (k + 18) (omega arith))))))

  pub ids_named : (is_val (counted (k + 21) 0 0 0) (val (k + 2)) && are_vals (counted (k + 21) 0 0 0) (ids_from k)) ≡ true
  ids_named =
      simp (below 2 (lit< tt), below 8 (lit< tt), below 10 (lit< tt), below 11 (lit< tt), below 15 (lit< tt), below 16 (lit< tt), below 17 (lit< tt), below 18 (lit< tt), below 19 (lit< tt), below 20 (lit< tt))
