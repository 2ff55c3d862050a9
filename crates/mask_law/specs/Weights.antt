-- The operations of the text of an item's statements once they stand under masks. An access counts as none here: LaneMeaning counts its transfers.
use Rattle.std.specs.Prelude.{ℕ, ◌+◌, List, [], ◌∷◌}
use Rattle.q_functions.specs.declared.functions.WorkFunction.{WorkFunction}
use Rattle.q_functions.specs.declared.functions.WorkFunction.TheVariants.{GlobalId, LocalId, GroupId}
use Rattle.item_ir.specs.declared.form.Def.{Def}
use Rattle.item_ir.specs.declared.form.Def.TheVariants as d
use Rattle.item_ir.specs.declared.form.Stmt.{Stmt, Row_of-Stmt, end_of-Stmt, more_of-Stmt}
use Rattle.item_ir.specs.declared.form.Stmt.TheVariants.{Let, Set, Store, SetElement, Clear, If', Loop', Scope', Leave, Break, Continue}
use Rattle.lane_ir.specs.Weights.{done, work_done}

-- a dimension's id of three is picked by 14 operations
abbrev pub work_weight : WorkFunction → ℕ
work_weight GlobalId = 14
work_weight LocalId = 14
work_weight GroupId = 14
work_weight which = work_done which

abbrev pub def_weight : Def → ℕ
def_weight (d.Work which dim) = work_weight which
def_weight e = done e

abbrev mutual
  pub weight : Stmt → ℕ
  weight (Let x e) = def_weight e
  weight (Set u x) = 2
  weight (Store t a x) = 1
  weight (SetElement a i x) = 1
  weight (Clear a) = 1
  weight (If' c n a m b) = 6 + (weight_row a + (1 + (weight_row b + 7)))
  weight (Loop' n head c m body i step) = 3 + ((weight_row head + 5) + ((3 + (weight_row body + (7 + weight_row step))) + 7))
  weight (Scope' n a) = 3 + weight_row a
  weight Leave = 4
  weight Break = 4
  weight Continue = 4

  pub weight_row : {k : _} → Row_of-Stmt k → ℕ
  weight_row end_of-Stmt = 0
  weight_row (more_of-Stmt a rest) = weight a + weight_row rest

abbrev pub weight_all : List Stmt → ℕ
weight_all [] = 0
weight_all (a ∷ rest) = weight a + weight_all rest
