-- The code of a loop's accesses, said of the lists that it holds.
use Rattle.std.proofs.Common.{◌≡◌, ℕ, List, ◌++◌, refl, ap, ◌∙◌}
use Rattle.item_ir.specs.declared.form.Val.{Val}
use Rattle.lane_ir.specs.declared.form.LaneStmt.{LaneStmt, Row_of-LaneStmt, end_of-LaneStmt, more_of-LaneStmt, items-the_row-LaneStmt, items_hidden-the_row-LaneStmt-0}
use Rattle.lane_ir.specs.declared.form.LaneStmt.TheBlock.{hidden-the_row-LaneStmt-0}
use Rattle.lane_ir.specs.declared.form.LaneStmt.TheVariants.{WhileAny}
use Rattle.vpm_dma_lower.specs.Accesses.{codes, codes_row, codes_all}

module _ (vals : ℕ) (lens : List ℕ) where
  row_items : {k : _} (r : Row_of-LaneStmt k) → codes_row vals lens r ≡ codes_all vals lens (items-the_row-LaneStmt k r)
  row_items end_of-LaneStmt = refl
  row_items (more_of-LaneStmt a rest) = ap (λ x. codes vals lens a ++ x) (row_items rest)

  of_list : (l : List LaneStmt) → codes_row vals lens (hidden-the_row-LaneStmt-0 l) ≡ codes_all vals lens l
  of_list l = row_items (hidden-the_row-LaneStmt-0 l) ∙ ap (codes_all vals lens) (items_hidden-the_row-LaneStmt-0 l)

  pub codes-WhileAny : (a : List LaneStmt) (m : Val) (b : List LaneStmt) → codes vals lens (WhileAny a m b) ≡ codes_all vals lens a ++ codes_all vals lens b
  codes-WhileAny a m b = λ i. of_list a i ++ of_list b i
