-- What the forms with lists of statements do.
use Rattle.std.proofs.Common.{◌≡◌, suc, List, ◌∷◌, ap, ◌∙◌}
use Rattle.item_ir.specs.IrMeaning.{World, State, Run, Ends, Next, and_then, at_zero, left_scope, rounds, run, run_row, run_all}
use Rattle.item_ir.specs.declared.form.Val.{Val}
use Rattle.item_ir.specs.declared.form.Stmt.{Stmt, Row_of-Stmt, end_of-Stmt, more_of-Stmt, items-the_row-Stmt, items_hidden-the_row-Stmt-0}
use Rattle.item_ir.specs.declared.form.Stmt.TheBlock.{hidden-the_row-Stmt-0}
use Rattle.item_ir.specs.declared.form.Stmt.TheVariants.{If, Loop, Scope}

module _ (w : World) where
  row_items : {n : _} (r : Row_of-Stmt n) → run_row w r ≡ run_all w (items-the_row-Stmt n r)
  row_items end_of-Stmt = λ i s. Ends Next s
  row_items (more_of-Stmt a rest) = λ i s. and_then (run w a s) (row_items rest i)

  listed : (l : List Stmt) → run_row w (hidden-the_row-Stmt-0 l) ≡ run_all w l
  listed l = row_items (hidden-the_row-Stmt-0 l) ∙ ap (run_all w) (items_hidden-the_row-Stmt-0 l)

  pub if_runs : (c : Val) (a b : List Stmt) → run w (If c a b) ≡ (λ s. at_zero (s.vals c.0) (run_all w b s) (run_all w a s))
  if_runs c a b = λ i s. at_zero (s.vals c.0) (listed b i s) (listed a i s)

  pub loop_runs : (h : List Stmt) (c : Val) (a b : List Stmt) → run w (Loop h c a b) ≡ (λ s. rounds (suc s.left) (run_all w h) c.0 (run_all w a) (run_all w b) s)
  loop_runs h c a b = λ i s. rounds (suc s.left) (listed h i) c.0 (listed a i) (listed b i) s

  pub scope_runs : (a : List Stmt) → run w (Scope a) ≡ (λ s. left_scope (run_all w a s))
  scope_runs a = λ i s. left_scope (listed a i s)

  -- one statement, and others after it
  abbrev pub Does : Type 0
  Does = State → Run

  pub first_runs : (a : Stmt) (rest : List Stmt) (f : Does) → run w a ≡ f → run_all w (a ∷ rest) ≡ (λ s. and_then (f s) (run_all w rest))
  first_runs a rest f e = λ i s. and_then (e i s) (run_all w rest)

  pub loop_does : (h : List Stmt) (c : Val) (a b : List Stmt) (f : Does) → run_all w a ≡ f → run w (Loop h c a b) ≡ (λ s. rounds (suc s.left) (run_all w h) c.0 f (run_all w b) s)
  loop_does h c a b f e = loop_runs h c a b ∙ (λ i s. rounds (suc s.left) (run_all w h) c.0 (e i) (run_all w b) s)

  pub scope_does : (a : List Stmt) (f : Does) → run_all w a ≡ f → run w (Scope a) ≡ (λ s. left_scope (f s))
  scope_does a f e = scope_runs a ∙ (λ i s. left_scope (e i s))
