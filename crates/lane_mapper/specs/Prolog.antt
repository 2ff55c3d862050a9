-- The definitions before a batch's statements: the flat id of each lane, which lanes have an item, and the items' ids. Value k is the first of
-- them. It divides only for the ids that are asked for.
use Rattle.std.specs.Prelude.{ℕ, ◌+◌, Bool, true, false, ◌||◌, List, [], ◌∷◌, ◌++◌}
use Rattle.q_lane.specs.declared.operations.BinOp.{BinOp}
use Rattle.q_lane.specs.declared.operations.BinOp.TheVariants as op
use Rattle.q_functions.specs.declared.functions.WorkFunction.TheVariants.{GlobalSize, LocalSize}
use Rattle.item_ir.specs.declared.form.Val.{Val}
use Rattle.item_ir.specs.declared.form.Def.{Def}
use Rattle.item_ir.specs.declared.form.Def.TheVariants as d
use Rattle.lane_ir.specs.declared.form.LaneStmt.{LaneStmt}
use Rattle.lane_ir.specs.declared.form.LaneStmt.TheVariants.{Let}
use Rattle.lane_mapper.specs.declared.uses.Uses.{Uses}

abbrev pub val : ℕ → Val
val k = record { 0 = k }

-- value v as a result of two values
abbrev pub two : ℕ → BinOp → ℕ → ℕ → LaneStmt
two v o a b = Let (val v) (d.Bin o (val a) (val b))

-- value k + 2 isn't 0 in the lanes that have an item
unfoldable pub live_part : ℕ → List LaneStmt
live_part k = Let (val k) d.Flat ∷ Let (val (k + 1)) d.Items ∷ two (k + 2) (op.Less false) k (k + 1) ∷ []

unfoldable pub global_sizes : ℕ → List LaneStmt
global_sizes k =
    Let (val (k + 3)) (d.Const 0) ∷ Let (val (k + 4)) (d.Const 1) ∷ Let (val (k + 5)) (d.Const 2)
    ∷ Let (val (k + 6)) (d.Work GlobalSize (val (k + 3))) ∷ Let (val (k + 7)) (d.Work GlobalSize (val (k + 4))) ∷ []

-- k + 8, k + 10 and k + 11 are the global ids
unfoldable pub global_ids : ℕ → List LaneStmt
global_ids k =
    two (k + 8) (op.Rem false) k (k + 6) ∷ two (k + 9) (op.Div false) k (k + 6)
    ∷ two (k + 10) (op.Rem false) (k + 9) (k + 7) ∷ two (k + 11) (op.Div false) (k + 9) (k + 7) ∷ []

unfoldable pub group_sizes : ℕ → List LaneStmt
group_sizes k =
    Let (val (k + 12)) (d.Work LocalSize (val (k + 3))) ∷ Let (val (k + 13)) (d.Work LocalSize (val (k + 4))) ∷ Let (val (k + 14)) (d.Work LocalSize (val (k + 5))) ∷ []

-- the local ids from value `to` on, or the group ids
unfoldable pub each_id : BinOp → ℕ → ℕ → List LaneStmt
each_id o to k = two to o (k + 8) (k + 12) ∷ two (to + 1) o (k + 10) (k + 13) ∷ two (to + 2) o (k + 11) (k + 14) ∷ []

abbrev pub where_used : Bool → List LaneStmt → List LaneStmt
where_used true l = l
where_used false l = []

abbrev pub in_groups : Uses → Bool
in_groups u = u.local || u.group

-- the ids that are asked for
abbrev pub ids_part : ℕ → Uses → List LaneStmt
ids_part k u =
    where_used (u.global || in_groups u) (global_sizes k ++ global_ids k)
    ++ (where_used (in_groups u) (group_sizes k)
    ++ (where_used u.local (each_id (op.Rem false) (k + 15) k) ++ where_used u.group (each_id (op.Div false) (k + 18) k)))

abbrev pub prolog : ℕ → Uses → List LaneStmt
prolog k u = live_part k ++ ids_part k u

-- how many values it has
abbrev pub prolog_vals : ℕ
prolog_vals = 21

-- the global ids, the local ids and the group ids
abbrev pub ids_from : ℕ → List Val
ids_from k =
    val (k + 8) ∷ val (k + 10) ∷ val (k + 11) ∷ val (k + 15) ∷ val (k + 16) ∷ val (k + 17) ∷ val (k + 18) ∷ val (k + 19) ∷ val (k + 20) ∷ []
