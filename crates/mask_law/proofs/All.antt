-- Every statement, in all lanes.
use Rattle.std.proofs.Common.{◌≡◌, ℕ, ◌+◌, ◌<◌, inl, inr, Bool, true, false, List, [], ◌∷◌, refl, sym, ap, subst, arith}
use Rattle.std.specs.Prelude.{nat_lt, ◌==◌, not, ◌&&◌, ◌||◌}
use Rattle.std.proofs.lemmas.Bool.{and_parts, ltb-true, eqb-true}
use Rattle.item_ir.specs.Valid.{Counts, Around, in_scope as scope_around, in_loop as loop_around, at_edge, Known, known_after, known_row, is_def, is_stmt, is_row}
use Rattle.item_ir.specs.IrMeaning.{World as ItemWorld, State as Item, Run as Ran, Ends as Done, Flow, Next, run as run_item, run_row}
use Rattle.item_ir.specs.declared.form.Stmt.{Stmt, Row_of-Stmt, end_of-Stmt, more_of-Stmt}
use Rattle.item_ir.specs.declared.form.Stmt.TheVariants.{Let, Set, Store, SetElement, Clear, If', Loop', Scope', Leave, Break, Continue}
use Rattle.lane_ir.specs.LaneMeaning.{World}
use Rattle.mask_flow.specs.declared.place.Place.{Place}
use Rattle.mask_flow.specs.Masked.{masked, masked_row, branches, loops}
use Rattle.mask_law.specs.Stacks.{Entry, In_scope, branch, in_scope, in_loop, in_round, place}
use Rattle.mask_law.specs.Masks.{after, column, flow_has, has}
use Rattle.mask_law.specs.Weights.{weight, weight_row}
use Rattle.mask_law.specs.Worlds.{Ids, SameWorld, asks, asks_row}
use Rattle.mask_law.specs.Lanes.{LaneRel, total, Open, row_of}
use Rattle.mask_law.specs.Flows.{FlowsTo}
use Rattle.mask_law.specs.Constructs.{LeavesMasked, AllMasked}
use Rattle.mask_law.proofs.Branched.{if_keeps}
use Rattle.mask_law.proofs.Fitting.{fits_row, open_branch, open_scope, open_round, open_edge}
use Rattle.mask_law.proofs.Flows.{flows_row}
use Rattle.mask_law.proofs.Growth.{row_grows}
use Rattle.mask_law.proofs.Loops.{loop_keeps}
use Rattle.mask_law.proofs.PlacesWithin.{branch_at, turning_at, round_within}
use Rattle.mask_law.proofs.Scoped.{scope_keeps}
use Rattle.mask_law.proofs.Sequence.{Keeps, both_keep}
use Rattle.mask_law.proofs.Turns.{total_same}

-- ---- the values that are known

pub still_known : (a : Stmt) (known : Known) (j : ℕ) → known j ≡ true → known_after known a j ≡ true
still_known (Let x e) known j h = by (j == x.0) (known j) h
  where
    by : (a b : Bool) → b ≡ true → (a || b) ≡ true
    by true b i = refl
    by false b i = i
still_known (Set u x) known j h = h
still_known (Store t a x) known j h = h
still_known (SetElement r i x) known j h = h
still_known (Clear r) known j h = h
still_known (If' x n a m b) known j h = h
still_known (Loop' n hd x m b i s) known j h = h
still_known (Scope' n a) known j h = h
still_known Leave known j h = h
still_known Break known j h = h
still_known Continue known j h = h

row_known : {m : _} (r : Row_of-Stmt m) (known : Known) (j : ℕ) → known j ≡ true → known_row known r j ≡ true
row_known end_of-Stmt known j h = h
row_known (more_of-Stmt a rest) known j h = row_known rest (known_after known a) j (still_known a known j h)

pub low_after : (c : Counts) (r : Around) (a : Stmt) (known : Known) → is_stmt c r known a ≡ true → ((j : ℕ) → known j ≡ true → j < c.vals) → (j : ℕ) → known_after known a j ≡ true → j < c.vals
low_after c r (Let x e) known fit low j h = by (j == x.0) (known j) h (λ q. subst (λ z. z < c.vals) (sym (eqb-true j x.0 q)) (ltb-true x.0 c.vals (and_parts (nat_lt x.0 c.vals) (not (known x.0) && is_def c known e) fit).0)) (low j)
  where
    by : (a b : Bool) → (a || b) ≡ true → (a ≡ true → j < c.vals) → (b ≡ true → j < c.vals) → j < c.vals
    by true b h f g = f refl
    by false b h f g = g h
low_after c r (Set u x) known fit low j h = low j h
low_after c r (Store t a x) known fit low j h = low j h
low_after c r (SetElement q i x) known fit low j h = low j h
low_after c r (Clear q) known fit low j h = low j h
low_after c r (If' x n a m b) known fit low j h = low j h
low_after c r (Loop' n hd x m b i s) known fit low j h = low j h
low_after c r (Scope' n a) known fit low j h = low j h
low_after c r Leave known fit low j h = low j h
low_after c r Break known fit low j h = low j h
low_after c r Continue known fit low j h = low j h

low_row : {m : _} (c : Counts) (r : Around) (row : Row_of-Stmt m) (known : Known) → is_row c r known row ≡ true → ((j : ℕ) → known j ≡ true → j < c.vals) → (j : ℕ) → known_row known row j ≡ true → j < c.vals
low_row c r end_of-Stmt known fit low j h = low j h
low_row c r (more_of-Stmt a rest) known fit low j h =
    let p = and_parts (is_stmt c r known a) (is_row c r (known_after known a) rest) fit in low_row c r rest (known_after known a) p.1 (low_after c r a known p.0 low) j h

-- a row leaves only for what is open
flows_of : {m : _} (c : Counts) (r : Around) (known : Known) (v : ℕ) (st : List Entry) (row : Row_of-Stmt m) → is_row c r known row ≡ true → Open r st → (x : ItemWorld) (y : Item) (f : Flow) (z : Item) → run_row x row y ≡ Done f z
    → flow_has f st ≡ true
flows_of c r known v st row fit around x y f z h =
    subst (λ (o : Ran). FlowsTo st o) h
    (flows_row x c.vars c.vals v st (λ j. known j ≡ true) row y (fits_row c r known (λ j. known j ≡ true) v st row (record { up = λ j i. i; down = λ j i. i }) around fit))

next_is : (f : Flow) (x y : Item) → Done Next x ≡ Done f y → (f ≡ Next) × (y ≡ x)
next_is f x y e = (cc, cc)

module _ (leaf : LeavesMasked) (w : World) (xs : ℕ → ItemWorld) (ids : Ids) (n tests : ℕ) (c : Counts) (same : (l : ℕ) → l < n → SameWorld w (xs l)) where
  abbrev Low : Known → Type 0
  Low known = (j : ℕ) → known j ≡ true → j < c.vals

  pub none_keeps : (known : Known) (k v : ℕ) (e : Entry) (st : List Entry) → Keeps w xs ids n tests c 0 (λ l y. Done Next y) known known k v (e ∷ st) []
  none_keeps known k v e st b act knowns t s s' f before items =
      let ran : (l : ℕ) → l < n → act l ≡ true → (f l ≡ Next) × (s' l ≡ s l) = λ l lt a. next_is (f l) (s l) (s' l) (items.on l lt a) in
      let still : (l : ℕ) → l < n → s' l ≡ s l = λ l lt. elim (Rattle.lane_ir.proofs.Steps.bool_cases (act l)) [ inl a ↦ (ran l lt a).1 | inr a ↦ items.off l lt a ] in
      let tot : total n s' ≡ total n s = total_same n s' s still in
      let rels : (l : ℕ) → l < n → LaneRel b c.vars l (λ j. knowns l j ≡ true) t (s' l) = λ l lt. subst (LaneRel b c.vars l (λ j. knowns l j ≡ true) t) (sym (still l lt)) (before.rel l lt) in (
        t,
        refl,
        record {
          rel = rels;
          more = λ l lt a q j d. (rels l lt).vals j (before.all l j lt a d);
          temps = λ j l lo hi. refl;
          still = λ l lt a u lo hi. refl;
          masks = λ l lt a. sym (ap (λ z. after z (column (e ∷ st) (row_of t l))) (ran l lt a).0);
          mem = λ a i. refl;
          falls = let i = tot in omega (arith, i);
          steps = omega arith;
        },
      )

  mutual
    pub stmt_keeps : (r : Around) (a : Stmt) (known : Known) (k v : ℕ) (e : Entry) (st : List Entry) → is_stmt c r known a ≡ true → asks ids.uses a ≡ true → Open r (e ∷ st) → has In_scope (e ∷ st) ≡ true → Low known
        → Keeps w xs ids n tests c (weight a) (λ l. run_item (xs l) a) known (known_after known a) k v (e ∷ st) (masked ids.vals (place k v (e ∷ st)) a)
    stmt_keeps r (Let x q) known k v e st fit asked o scoped low = λ b act knowns t s s' f before items. leaf (Let x q) refl w xs ids n tests c r b act known knowns k v e st t s s' f fit asked o same before items
    stmt_keeps r (Set u x) known k v e st fit asked o scoped low = λ b act knowns t s s' f before items. leaf (Set u x) refl w xs ids n tests c r b act known knowns k v e st t s s' f fit asked o same before items
    stmt_keeps r (Store q a x) known k v e st fit asked o scoped low = λ b act knowns t s s' f before items. leaf (Store q a x) refl w xs ids n tests c r b act known knowns k v e st t s s' f fit asked o same before items
    stmt_keeps r (SetElement q i x) known k v e st fit asked o scoped low = λ b act knowns t s s' f before items. leaf (SetElement q i x) refl w xs ids n tests c r b act known knowns k v e st t s s' f fit asked o same before items
    stmt_keeps r (Clear q) known k v e st fit asked o scoped low = λ b act knowns t s s' f before items. leaf (Clear q) refl w xs ids n tests c r b act known knowns k v e st t s s' f fit asked o same before items
    stmt_keeps r Leave known k v e st fit asked o scoped low = λ b act knowns t s s' f before items. leaf Leave refl w xs ids n tests c r b act known knowns k v e st t s s' f fit asked o same before items
    stmt_keeps r Break known k v e st fit asked o scoped low = λ b act knowns t s s' f before items. leaf Break refl w xs ids n tests c r b act known knowns k v e st t s s' f fit asked o same before items
    stmt_keeps r Continue known k v e st fit asked o scoped low = λ b act knowns t s s' f before items. leaf Continue refl w xs ids n tests c r b act known knowns k v e st t s s' f fit asked o same before items
    stmt_keeps r (Scope' m a) known k v e st fit asked o scoped low =
        scope_keeps w xs ids n tests c (weight_row a) (λ l. run_row (xs l) a) known (known_row known a) k v e st (masked_row ids.vals (place k (v + 1) (in_scope v (e ∷ st))) a)
        (λ l y f z h. flows_of c scope_around known (v + 1) (in_scope v (e ∷ st)) a fit (open_scope v (e ∷ st)) (xs l) y f z h)
        (row_keeps scope_around a known k (v + 1) (record { kind = In_scope; var = v }) (e ∷ st) fit asked (open_scope v (e ∷ st)) refl low)
    stmt_keeps r (If' x m a p d) known k v e st fit asked o scoped low =
        let f1 = and_parts (known x.0) (is_row c r known a && is_row c r known d) fit in
        let f2 = and_parts (is_row c r known a) (is_row c r known d) f1.1 in
        let u1 = and_parts (asks_row ids.uses a) (asks_row ids.uses d) asked in
        let top : Entry = record { kind = Rattle.mask_law.specs.Stacks.Branch; var = v } in
        let inner : Place = place (k + 5) (v + 1) (branch v (e ∷ st)) in
        subst (λ z. Keeps w xs ids n tests c (6 + (weight_row a + (1 + (weight_row d + 7)))) (λ l. run_item (xs l) (If' x m a p d)) known known k v (e ∷ st) (branches (place k v (e ∷ st)) x (masked_row ids.vals z a) (masked_row ids.vals z d)))
        (sym (branch_at k v (e ∷ st) scoped))
        (if_keeps w xs ids n tests c (weight_row a) (weight_row d) (λ l. run_row (xs l) a) (λ l. run_row (xs l) d) known (known_row known a) (known_row known d) x.0 k v e st (masked_row ids.vals inner a) (masked_row ids.vals inner d) f1.0
        (λ l y f z h. flows_of c r known v (e ∷ st) a f2.0 o (xs l) y f z h) (λ l y f z h. flows_of c r known v (e ∷ st) d f2.1 o (xs l) y f z h)
        (row_keeps r a known (k + 5) (v + 1) top (e ∷ st) f2.0 u1.0 (open_branch v r (e ∷ st) o) scoped low) (row_keeps r d known (k + 5) (v + 1) top (e ∷ st) f2.1 u1.1 (open_branch v r (e ∷ st) o) scoped low))
    stmt_keeps r (Loop' m head x p body q step) known k v e st fit asked o scoped low =
        let past : Known = known_row known head in
        let f1 = and_parts (is_row c at_edge known head) (past x.0 && (is_row c (loop_around r) past body && is_row c at_edge past step)) fit in
        let f2 = and_parts (past x.0) (is_row c (loop_around r) past body && is_row c at_edge past step) f1.1 in
        let f3 = and_parts (is_row c (loop_around r) past body) (is_row c at_edge past step) f2.1 in
        let u1 = and_parts (asks_row ids.uses head) (asks_row ids.uses body && asks_row ids.uses step) asked in
        let u2 = and_parts (asks_row ids.uses body) (asks_row ids.uses step) u1.1 in
        let low2 : Low past = low_row c at_edge head known f1.0 low in
        let top : Entry = record { kind = Rattle.mask_law.specs.Stacks.In_loop; var = v } in
        let turn : Entry = record { kind = Rattle.mask_law.specs.Stacks.Round; var = v + 1 } in
        let at_loop : Place = place k (v + 2) (in_loop v (e ∷ st)) in
        let at_round : Place = place k (v + 2) (in_round v (e ∷ st)) in
        subst (λ (z : Place × Place). Keeps w xs ids n tests c (weight (Loop' m head x p body q step)) (λ l. run_item (xs l) (Loop' m head x p body q step)) known known k v (e ∷ st)
        (loops (place k v (e ∷ st)) x (masked_row ids.vals z.0 head) (masked_row ids.vals z.1 body) (masked_row ids.vals z.0 step)))
        (λ i. (sym (turning_at k v (e ∷ st) scoped) i, sym (round_within k v (e ∷ st) scoped) i))
        (loop_keeps w xs ids n tests c (weight_row head) (weight_row body) (weight_row step) (λ l. run_row (xs l) head) (λ l. run_row (xs l) body) (λ l. run_row (xs l) step) known past (known_row past body) (known_row past step) x.0 k v e st
        (masked_row ids.vals at_loop head) (masked_row ids.vals at_round body) (masked_row ids.vals at_loop step) (row_known head known) low2 f2.0 (λ l. row_grows (xs l) head) (λ l. row_grows (xs l) body) (λ l. row_grows (xs l) step)
        (row_keeps at_edge head known k (v + 2) top (e ∷ st) f1.0 u1.0 (open_edge (in_loop v (e ∷ st))) scoped low)
        (row_keeps (loop_around r) body past k (v + 2) turn (in_loop v (e ∷ st)) f3.0 u2.0 (open_round v r (e ∷ st) o) scoped low2)
        (row_keeps at_edge step past k (v + 2) top (e ∷ st) f3.1 u2.1 (open_edge (in_loop v (e ∷ st))) scoped low2))

    pub row_keeps : {m : _} (r : Around) (row : Row_of-Stmt m) (known : Known) (k v : ℕ) (e : Entry) (st : List Entry) → is_row c r known row ≡ true → asks_row ids.uses row ≡ true → Open r (e ∷ st) → has In_scope (e ∷ st) ≡ true → Low known
        → Keeps w xs ids n tests c (weight_row row) (λ l. run_row (xs l) row) known (known_row known row) k v (e ∷ st) (masked_row ids.vals (place k v (e ∷ st)) row)
    row_keeps r end_of-Stmt known k v e st fit asked o scoped low = none_keeps known k v e st
    row_keeps r (more_of-Stmt a rest) known k v e st fit asked o scoped low =
        let p = and_parts (is_stmt c r known a) (is_row c r (known_after known a) rest) fit in
        let u1 = and_parts (asks ids.uses a) (asks_row ids.uses rest) asked in
        let low2 : Low (known_after known a) = low_after c r a known p.0 low in
        both_keep w xs ids n tests c (weight a) (weight_row rest) (λ l. run_item (xs l) a) (λ l. run_row (xs l) rest) known (known_after known a) (known_row (known_after known a) rest) k v e st
        (masked ids.vals (place k v (e ∷ st)) a) (masked_row ids.vals (place k v (e ∷ st)) rest) (still_known a known) low2 (λ l. row_grows (xs l) rest)
        (stmt_keeps r a known k v e st p.0 u1.0 o scoped low) (row_keeps r rest (known_after known a) k v e st p.1 u1.1 o scoped low2)

pub all_masked : LeavesMasked → AllMasked
all_masked leaf a w xs ids n tests c r b act known knowns k v e st t s s' f fit asked o same before items =
    stmt_keeps leaf w xs ids n tests c same r a known k v e st fit asked o before.scoped before.known_low b act knowns t s s' f before items
