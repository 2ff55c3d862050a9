-- What is said of rows of statements, said of the lists that they are.
use Rattle.std.proofs.Common.{◌≡◌, List, [], ◌∷◌, refl, sym, ap, ◌∙◌}
use Rattle.item_ir.specs.declared.form.Val.{Val}
use Rattle.item_ir.specs.declared.form.Stmt.{Stmt, Row_of-Stmt, end_of-Stmt, more_of-Stmt, items-the_row-Stmt, items_hidden-the_row-Stmt-0}
use Rattle.item_ir.specs.declared.form.Stmt.TheBlock.{hidden-the_row-Stmt-0}
use Rattle.item_ir.specs.declared.form.Stmt.TheVariants.{If, Loop, Scope}
use Rattle.lane_mapper.specs.declared.uses.Uses.{Uses}
use Rattle.lane_mapper.specs.Asked.{asked, asked_row, asked_all}

row_items : {k : _} (u : Uses) (r : Row_of-Stmt k) → asked_row u r ≡ asked_all u (items-the_row-Stmt k r)
row_items u end_of-Stmt = refl
row_items u (more_of-Stmt a rest) = row_items (asked u a) rest

pub of_list : (u : Uses) (l : List Stmt) → asked_row u (hidden-the_row-Stmt-0 l) ≡ asked_all u l
of_list u l = row_items u (hidden-the_row-Stmt-0 l) ∙ ap (asked_all u) (items_hidden-the_row-Stmt-0 l)

pub asked-If : (u : Uses) (c : Val) (a b : List Stmt) → asked u (If c a b) ≡ asked_all (asked_all u a) b
asked-If u c a b = ap (λ x. asked_row x (hidden-the_row-Stmt-0 b)) (of_list u a) ∙ of_list (asked_all u a) b

pub asked-Loop : (u : Uses) (head : List Stmt) (c : Val) (body step : List Stmt) → asked u (Loop head c body step) ≡ asked_all (asked_all (asked_all u head) body) step
asked-Loop u head c body step =
    ap (λ x. asked_row (asked_row x (hidden-the_row-Stmt-0 body)) (hidden-the_row-Stmt-0 step)) (of_list u head)
    ∙ ap (λ x. asked_row x (hidden-the_row-Stmt-0 step)) (of_list (asked_all u head) body)
    ∙ of_list (asked_all (asked_all u head) body) step

pub asked-Scope : (u : Uses) (body : List Stmt) → asked u (Scope body) ≡ asked_all u body
asked-Scope u body = of_list u body
