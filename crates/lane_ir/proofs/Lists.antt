-- What is said of a loop, said of the lists that it holds.
use Rattle.std.proofs.Common.{◌≡◌, ℕ, List, [], ◌∷◌, ◌++◌, refl, ap, ◌∙◌}
use Rattle.item_ir.specs.declared.form.Val.{Val}
use Rattle.item_ir.specs.declared.form.Def.{Def}
use Rattle.lane_ir.specs.Kept.{rewritten, rewritten_row, rewritten_all}
use Rattle.lane_ir.specs.declared.form.LaneStmt.{LaneStmt, Row_of-LaneStmt, end_of-LaneStmt, more_of-LaneStmt, items-the_row-LaneStmt, items_hidden-the_row-LaneStmt-0}
use Rattle.lane_ir.specs.declared.form.LaneStmt.TheBlock.{hidden-the_row-LaneStmt-0}
use Rattle.lane_ir.specs.declared.form.LaneStmt.TheVariants.{WhileAny}

module _ (f : ℕ → Def → List LaneStmt) where
  row_items : {k : _} (r : Row_of-LaneStmt k) → rewritten_row f r ≡ rewritten_all f (items-the_row-LaneStmt k r)
  row_items end_of-LaneStmt = refl
  row_items (more_of-LaneStmt a rest) = ap (λ x. rewritten f a ++ x) (row_items rest)

  of_list : (l : List LaneStmt) → rewritten_row f (hidden-the_row-LaneStmt-0 l) ≡ rewritten_all f l
  of_list l = row_items (hidden-the_row-LaneStmt-0 l) ∙ ap (rewritten_all f) (items_hidden-the_row-LaneStmt-0 l)

  pub rewritten-WhileAny : (a : List LaneStmt) (m : Val) (b : List LaneStmt) → rewritten f (WhileAny a m b) ≡ WhileAny (rewritten_all f a) m (rewritten_all f b) ∷ []
  rewritten-WhileAny a m b = λ i. WhileAny (of_list a i) m (of_list b i) ∷ []
