-- How many operations a prolog takes.
use Rattle.std.proofs.Common.{◌≡◌, ℕ, ◌+◌, ◌≤◌, Bool, true, false, List, [], ◌∷◌, ◌++◌, refl, sym, ap, ◌∙◌, arith}
use Rattle.std.specs.Prelude.{◌||◌}
use Rattle.q_lane.specs.declared.operations.BinOp.{BinOp}
use Rattle.q_lane.specs.declared.operations.BinOp.TheVariants as op
use Rattle.q_functions.specs.declared.functions.WorkFunction.TheVariants.{GlobalSize, LocalSize}
use Rattle.item_ir.specs.declared.form.Def.{Def}
use Rattle.item_ir.specs.declared.form.Def.TheVariants as d
use Rattle.lane_ir.specs.Weights.{done}
use Rattle.lane_ir.specs.LaneMeaning.{World, State, Ends, defines, run_all}
use Rattle.lane_ir.specs.declared.form.LaneStmt.{LaneStmt}
use Rattle.lane_ir.specs.declared.form.LaneStmt.TheVariants.{Let}
use Rattle.lane_mapper.specs.declared.uses.Uses.{Uses}
use Rattle.lane_mapper.specs.Prolog.{val, live_part, global_sizes, global_ids, group_sizes, each_id, where_used, in_groups, prolog}
use Rattle.prolog_law.specs.Laws.{PrologsAreShort}

-- a value, and its definition
pub record One : Type 0 where
  pub at : ℕ
  pub is : Def

abbrev pub let_of : One → LaneStmt
let_of x = Let (record { 0 = x.at }) x.is

abbrev pub lets : List One → List LaneStmt
lets [] = []
lets (x ∷ rest) = let_of x ∷ lets rest

pub lets_append : (l m : List One) → lets (l ++ m) ≡ lets l ++ lets m
lets_append [] m = refl
lets_append (x ∷ rest) m = ap (λ z. let_of x ∷ z) (lets_append rest m)

module _ (w : World) (n : ℕ) where
  abbrev pub after : List One → State → State
  after [] s = s
  after (x ∷ rest) s = after rest (defines w n x.at x.is s)

  pub runs : (i : ℕ) (l : List One) (s : State) → run_all w n i (lets l) s ≡ Ends (after l s)
  runs i [] s = refl
  runs i (x ∷ rest) s = runs i rest (defines w n x.at x.is s)

  -- the operations done
  abbrev pub cost : List One → ℕ
  cost [] = 0
  cost (x ∷ rest) = done x.is + cost rest

  pub steps_are : (l : List One) (s : State) → (after l s).steps ≡ s.steps + cost l
  steps_are [] s = omega arith
  steps_are (x ∷ rest) s = let h = steps_are rest (defines w n x.at x.is s) in omega (arith, h)

abbrev one : ℕ → Rattle.item_ir.specs.declared.form.Def.Def → One
one v e = record { at = v; is = e }

abbrev pub two : ℕ → BinOp → ℕ → ℕ → One
two v o a b = one v (d.Bin o (val a) (val b))

abbrev pub live : ℕ → List One
live k = one k d.Flat ∷ one (k + 1) d.Items ∷ two (k + 2) (op.Less false) k (k + 1) ∷ []

abbrev pub globals : ℕ → List One
globals k =
    one (k + 3) (d.Const 0) ∷ one (k + 4) (d.Const 1) ∷ one (k + 5) (d.Const 2)
    ∷ one (k + 6) (d.Work GlobalSize (val (k + 3))) ∷ one (k + 7) (d.Work GlobalSize (val (k + 4)))
    ∷ two (k + 8) (op.Rem false) k (k + 6) ∷ two (k + 9) (op.Div false) k (k + 6)
    ∷ two (k + 10) (op.Rem false) (k + 9) (k + 7) ∷ two (k + 11) (op.Div false) (k + 9) (k + 7) ∷ []

abbrev pub sizes : ℕ → List One
sizes k = one (k + 12) (d.Work LocalSize (val (k + 3))) ∷ one (k + 13) (d.Work LocalSize (val (k + 4))) ∷ one (k + 14) (d.Work LocalSize (val (k + 5))) ∷ []

abbrev pub each : BinOp → ℕ → ℕ → List One
each o to k = two to o (k + 8) (k + 12) ∷ two (to + 1) o (k + 10) (k + 13) ∷ two (to + 2) o (k + 11) (k + 14) ∷ []

abbrev pub used : Bool → List One → List One
used true l = l
used false l = []

abbrev pub in_ids : Uses → Bool
in_ids u = u.global || in_groups u

abbrev pub all : ℕ → Uses → List One
all k u = live k ++ (used (in_ids u) (globals k) ++ (used (in_groups u) (sizes k) ++ (used u.local (each (op.Rem false) (k + 15) k) ++ used u.group (each (op.Div false) (k + 18) k))))

-- ---- they are the prolog

used_lets : (b : Bool) (l : List One) (m : List LaneStmt) → lets l ≡ m → lets (used b l) ≡ where_used b m
used_lets true l m h = h
used_lets false l m h = refl

joined : (l m : List One) (p q : List LaneStmt) → lets l ≡ p → lets m ≡ q → lets (l ++ m) ≡ p ++ q
joined l m p q h i = lets_append l m ∙ (λ x. h x ++ i x)

live_lets : (k : ℕ) → lets (live k) ≡ live_part k
unfolding live_part
live_lets k = refl

globals_lets : (k : ℕ) → lets (globals k) ≡ global_sizes k ++ global_ids k
unfolding global_sizes global_ids
globals_lets k = refl

sizes_lets : (k : ℕ) → lets (sizes k) ≡ group_sizes k
unfolding group_sizes
sizes_lets k = refl

each_lets : (o : BinOp) (to k : ℕ) → lets (each o to k) ≡ each_id o to k
unfolding each_id
each_lets o to k = refl

pub all_lets : (k : ℕ) (u : Uses) → lets (all k u) ≡ prolog k u
all_lets k u =
    joined (live k) _ (live_part k) _ (live_lets k)
    (joined (used (in_ids u) (globals k)) _ (where_used (in_ids u) (global_sizes k ++ global_ids k)) _ (used_lets (in_ids u) (globals k) (global_sizes k ++ global_ids k) (globals_lets k))
    (joined (used (in_groups u) (sizes k)) _ (where_used (in_groups u) (group_sizes k)) _ (used_lets (in_groups u) (sizes k) (group_sizes k) (sizes_lets k))
    (joined (used u.local (each (op.Rem false) (k + 15) k)) (used u.group (each (op.Div false) (k + 18) k)) (where_used u.local (each_id (op.Rem false) (k + 15) k)) (where_used u.group (each_id (op.Div false) (k + 18) k))
    (used_lets u.local (each (op.Rem false) (k + 15) k) (each_id (op.Rem false) (k + 15) k) (each_lets (op.Rem false) (k + 15) k))
    (used_lets u.group (each (op.Div false) (k + 18) k) (each_id (op.Div false) (k + 18) k) (each_lets (op.Div false) (k + 18) k)))))

used_cost : (w : World) (n : ℕ) (b : Bool) (l : List One) → cost w n (used b l) ≤ cost w n l
used_cost w n true l = omega arith
used_cost w n false l = omega arith

cost_append : (w : World) (n : ℕ) (l m : List One) → cost w n (l ++ m) ≡ cost w n l + cost w n m
cost_append w n [] m = omega arith
cost_append w n (x ∷ rest) m = let h = cost_append w n rest m in omega (arith, h)

few_done : (w : World) (n k : ℕ) (u : Uses) → cost w n (all k u) ≤ 8133
few_done w n k u =
    let l = used u.local (each (op.Rem false) (k + 15) k) in
    let g = used u.group (each (op.Div false) (k + 18) k) in
    let z = used (in_groups u) (sizes k) in
    let x = used (in_ids u) (globals k) in
    let a1 = cost_append w n l g in
    let a2 = cost_append w n z (l ++ g) in
    let a3 = cost_append w n x (z ++ (l ++ g)) in
    let a4 = cost_append w n (live k) (x ++ (z ++ (l ++ g))) in
    let c1 = used_cost w n u.local (each (op.Rem false) (k + 15) k) in
    let c2 = used_cost w n u.group (each (op.Div false) (k + 18) k) in
    let c3 = used_cost w n (in_groups u) (sizes k) in
    let c4 = used_cost w n (in_ids u) (globals k) in
    omega (arith, a1, a2, a3, a4, c1, c2, c3, c4)

pub short : PrologsAreShort
short w n i k u s =
    let c = steps_are w n (all k u) s in
    let m = few_done w n k u in
    (after w n (all k u) s, ap (λ l. run_all w n i l s) (sym (all_lets k u)) ∙ runs w n i (all k u) s, omega (arith, c, m))
