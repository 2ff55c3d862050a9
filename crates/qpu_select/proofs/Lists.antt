-- What a loop names, said of the lists that it holds.
use Rattle.std.proofs.Common.{◌≡◌, List, ◌∷◌, ◌++◌, refl, ap, ◌∙◌}
use Rattle.item_ir.specs.declared.form.Val.{Val}
use Rattle.lane_ir.specs.declared.form.LaneStmt.{LaneStmt, Row_of-LaneStmt, end_of-LaneStmt, more_of-LaneStmt, items-the_row-LaneStmt, items_hidden-the_row-LaneStmt-0}
use Rattle.lane_ir.specs.declared.form.LaneStmt.TheBlock.{hidden-the_row-LaneStmt-0}
use Rattle.lane_ir.specs.declared.form.LaneStmt.TheVariants.{WhileAny}
use Rattle.qpu_select.specs.Code.{Shape}
use Rattle.qpu_select.specs.Clears.{wholly, namings, namings_row, namings_all}

module _ (h : Shape) where
  row_items : {k : _} (r : Row_of-LaneStmt k) → namings_row h r ≡ namings_all h (items-the_row-LaneStmt k r)
  row_items end_of-LaneStmt = refl
  row_items (more_of-LaneStmt a rest) = ap (λ x. namings h a ++ x) (row_items rest)

  of_list : (l : List LaneStmt) → namings_row h (hidden-the_row-LaneStmt-0 l) ≡ namings_all h l
  of_list l = row_items (hidden-the_row-LaneStmt-0 l) ∙ ap (namings_all h) (items_hidden-the_row-LaneStmt-0 l)

  pub namings-WhileAny : (a : List LaneStmt) (m : Val) (b : List LaneStmt) → namings h (WhileAny a m b) ≡ namings_all h a ++ (wholly m.0 ∷ namings_all h b)
  namings-WhileAny a m b = λ i. of_list a i ++ (wholly m.0 ∷ of_list b i)
