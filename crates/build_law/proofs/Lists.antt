-- What statements that hold lists do, said of the lists.
use Rattle.std.proofs.Common.{◌≡◌, suc, List, refl, ap, ◌∙◌}
use Rattle.item_ir.specs.IrMeaning.{World, State, and_then, at_zero, rounds, left_scope, run, run_row, run_all}
use Rattle.item_ir.specs.declared.form.Val.{Val}
use Rattle.item_ir.specs.declared.form.Stmt.{Stmt, Row_of-Stmt, end_of-Stmt, more_of-Stmt, items-the_row-Stmt, items_hidden-the_row-Stmt-0}
use Rattle.item_ir.specs.declared.form.Stmt.TheBlock.{hidden-the_row-Stmt-0}
use Rattle.item_ir.specs.declared.form.Stmt.TheVariants.{If, Loop, Scope}

module _ (w : World) where
  pub run_row-items : {n : _} (r : Row_of-Stmt n) (s : State) → run_row w r s ≡ run_all w (items-the_row-Stmt n r) s
  run_row-items end_of-Stmt s = refl
  run_row-items (more_of-Stmt a rest) s = λ i. and_then (run w a s) (λ t. run_row-items rest t i)

  of_list : (l : List Stmt) (s : State) → run_row w (hidden-the_row-Stmt-0 l) s ≡ run_all w l s
  of_list l s = run_row-items (hidden-the_row-Stmt-0 l) s ∙ ap (λ x. run_all w x s) (items_hidden-the_row-Stmt-0 l)

  pub run-If : (c : Val) (a b : List Stmt) (s : State) → run w (If c a b) s ≡ at_zero (s.vals c.0) (run_all w b s) (run_all w a s)
  run-If c a b s = λ i. at_zero (s.vals c.0) (of_list b s i) (of_list a s i)

  pub run-Loop : (h : List Stmt) (c : Val) (a b : List Stmt) (s : State) → run w (Loop h c a b) s ≡ rounds (suc s.left) (run_all w h) c.0 (run_all w a) (run_all w b) s
  run-Loop h c a b s = λ i. rounds (suc s.left) (λ t. of_list h t i) c.0 (λ t. of_list a t i) (λ t. of_list b t i) s

  pub run-Scope : (a : List Stmt) (s : State) → run w (Scope a) s ≡ left_scope (run_all w a s)
  run-Scope a s = λ i. left_scope (of_list a s i)
