-- Weights are sums over the text.
use Rattle.std.proofs.Common.{◌≡◌, ℕ, ◌+◌, ◌*◌, ◌≤◌, List, [], ◌∷◌, ◌++◌, refl, ap, ◌∙◌, arith}
use Rattle.item_ir.specs.declared.form.Val.{Val}
use Rattle.item_ir.specs.declared.form.Stmt.{Stmt, Row_of-Stmt, end_of-Stmt, more_of-Stmt, items-the_row-Stmt, items_hidden-the_row-Stmt-0}
use Rattle.item_ir.specs.declared.form.Stmt.TheBlock.{hidden-the_row-Stmt-0}
use Rattle.item_ir.specs.declared.form.Stmt.TheVariants.{If, Loop, Scope, Let, Set, Store, SetElement, Clear, If', Loop', Scope', Leave, Break, Continue}
use Rattle.item_ir.specs.declared.form.Def.{Def}
use Rattle.item_ir.specs.declared.form.Def.TheVariants as d
use Rattle.ir_weights.specs.Weights.{Weight, sum, of_rows, of_moves, rows_of_two, rows_of_one, weight_of_def, weight_of_stmt, weight_of_row, weight_of_text}

abbrev pub rows_of : Stmt → ℕ
rows_of a = (weight_of_stmt a).rows

abbrev pub rows : List Stmt → ℕ
rows l = (weight_of_text l).rows

pub rows_append : (a b : List Stmt) → rows (a ++ b) ≡ rows a + rows b
rows_append [] b = omega arith
rows_append (x ∷ a) b = let r = rows_append a b in omega (arith, r)

row_items : {n : _} (r : Row_of-Stmt n) → weight_of_row r ≡ weight_of_text (items-the_row-Stmt n r)
row_items end_of-Stmt = refl
row_items (more_of-Stmt a rest) = ap (sum (weight_of_stmt a)) (row_items rest)

of_list : (l : List Stmt) → (weight_of_row (hidden-the_row-Stmt-0 l)).rows ≡ rows l
of_list l = ap (λ w. w.rows) (row_items (hidden-the_row-Stmt-0 l) ∙ ap weight_of_text (items_hidden-the_row-Stmt-0 l))

pub rows-If : (c : Val) (a b : List Stmt) → rows_of (If c a b) ≡ 14 + (rows a + rows b)
rows-If c a b = λ i. 14 + (of_list a i + of_list b i)

pub rows-Loop : (h : List Stmt) (c : Val) (a b : List Stmt) → rows_of (Loop h c a b) ≡ 14 + (rows h + (rows a + rows b))
rows-Loop h c a b = λ i. 14 + (of_list h i + (of_list a i + of_list b i))

pub rows-Scope : (a : List Stmt) → rows_of (Scope a) ≡ 6 + rows a
rows-Scope a = λ i. 6 + of_list a i

-- the other three weights are at most what goes with the rows
abbrev pub GoesWithRows : Weight → Type 0
GoesWithRows w = (w.words ≡ 59 * w.rows) × (w.steps ≤ 8900000 * w.rows) × (w.numbers ≤ 4000 * w.rows)

rows_go : (n : ℕ) → GoesWithRows (of_rows n)
rows_go n = (refl, omega arith, omega arith)

moves_go : (n : ℕ) → GoesWithRows (of_moves n)
moves_go n = (refl, omega arith, omega arith)

both_go : (a b : Weight) → GoesWithRows a → GoesWithRows b → GoesWithRows (sum a b)
both_go a b p q =
    let p0 = p.0 in let p1 = p.1 in let p2 = p.2 in let q0 = q.0 in let q1 = q.1 in let q2 = q.2 in
    (omega (arith, p0, q0), omega (arith, p1, q1), omega (arith, p2, q2))

def_goes : (e : Def) → GoesWithRows (weight_of_def e)
def_goes (d.Const x) = moves_go 1
def_goes (d.Param p) = moves_go 1
def_goes (d.Work which dim) = rows_go 200
def_goes (d.Get u) = moves_go 1
def_goes (d.Bin op a b) = rows_go (rows_of_two op)
def_goes (d.One op a) = rows_go (rows_of_one op)
def_goes (d.Built which t args) = rows_go 200
def_goes (d.Choose c a b) = rows_go 1
def_goes (d.Load t a) = rows_go 10
def_goes (d.Element a i) = rows_go 10
def_goes d.Flat = rows_go 1
def_goes d.Items = rows_go 1

mutual
  stmt_goes : (a : Stmt) → GoesWithRows (weight_of_stmt a)
  stmt_goes (Let x e) = def_goes e
  stmt_goes (Set u x) = moves_go 2
  stmt_goes (Store t a x) = rows_go 10
  stmt_goes (SetElement a i x) = rows_go 10
  stmt_goes (Clear a) = rows_go 6
  stmt_goes (If' c k a l b) = both_go (of_rows 14) (sum (weight_of_row a) (weight_of_row b)) (rows_go 14) (both_go (weight_of_row a) (weight_of_row b) (row_goes a) (row_goes b))
  stmt_goes (Loop' h head c k body l step) =
      both_go (of_rows 14) (sum (weight_of_row head) (sum (weight_of_row body) (weight_of_row step))) (rows_go 14)
      (both_go (weight_of_row head) (sum (weight_of_row body) (weight_of_row step)) (row_goes head) (both_go (weight_of_row body) (weight_of_row step) (row_goes body) (row_goes step)))
  stmt_goes (Scope' k body) = both_go (of_rows 6) (weight_of_row body) (rows_go 6) (row_goes body)
  stmt_goes Leave = rows_go 6
  stmt_goes Break = rows_go 6
  stmt_goes Continue = rows_go 6

  row_goes : {n : _} (r : Row_of-Stmt n) → GoesWithRows (weight_of_row r)
  row_goes end_of-Stmt = (refl, omega arith, omega arith)
  row_goes (more_of-Stmt a rest) = both_go (weight_of_stmt a) (weight_of_row rest) (stmt_goes a) (row_goes rest)

pub text_goes : (l : List Stmt) → GoesWithRows (weight_of_text l)
text_goes [] = (refl, omega arith, omega arith)
text_goes (a ∷ rest) = both_go (weight_of_stmt a) (weight_of_text rest) (stmt_goes a) (text_goes rest)

-- ---- one text behind another

from_zero : (n : ℕ) → n ≡ 0 + n
from_zero n = omega arith

moved : (a b c : ℕ) → a + (b + c) ≡ (a + b) + c
moved a b c = omega arith

pub texts_are_summed : (a b : List Stmt) → weight_of_text (a ++ b) ≡ sum (weight_of_text a) (weight_of_text b)
texts_are_summed [] b =
    let w = weight_of_text b in
    λ x. record { words = from_zero w.words x; rows = from_zero w.rows x; steps = from_zero w.steps x; numbers = from_zero w.numbers x }
texts_are_summed (a ∷ rest) b =
    let u = weight_of_stmt a in let v = weight_of_text rest in let w = weight_of_text b in
    ap (sum u) (texts_are_summed rest b)
    ∙ (λ x. record { words = moved u.words v.words w.words x; rows = moved u.rows v.rows w.rows x; steps = moved u.steps v.steps w.steps x; numbers = moved u.numbers v.numbers w.numbers x })
