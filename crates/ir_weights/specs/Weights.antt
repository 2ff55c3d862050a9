-- What one statement of an item may become further down. These are bounds that the passes after `build` have to keep, no measures of what they make.
use Rattle.std.specs.Prelude.{◌≡◌, ℕ, ◌+◌, ◌*◌, ◌≤◌, true, false, List, [], ◌∷◌, ◌++◌}
use Rattle.q_lane.specs.declared.operations.BinOp.{BinOp}
use Rattle.q_lane.specs.declared.operations.BinOp.TheVariants.{Add, Sub, Mul, MulHi, Div, Rem, And, Or, Xor, Shl, Shr, Sar, Min, Max, Less, Equal, Mul24}
use Rattle.q_lane.specs.declared.operations.UnOp.{UnOp}
use Rattle.q_lane.specs.declared.operations.UnOp.TheVariants.{Not, Neg, Clz, Popcount, Narrow}
use Rattle.item_ir.specs.declared.form.Def.{Def}
use Rattle.item_ir.specs.declared.form.Def.TheVariants as d
use Rattle.item_ir.specs.declared.form.Stmt.{Stmt, Row_of-Stmt, end_of-Stmt, more_of-Stmt}
use Rattle.item_ir.specs.declared.form.Stmt.TheVariants.{Let, Set, Store, SetElement, Clear, If', Loop', Scope', Leave, Break, Continue}

-- machine words, rows of the scratch, steps, and new numbers of values, variables and registers
pub record Weight : Type 0 where
  pub words : ℕ
  pub rows : ℕ
  pub steps : ℕ
  pub numbers : ℕ

abbrev pub weightless : Weight
weightless = record { words = 0; rows = 0; steps = 0; numbers = 0 }

abbrev pub sum : Weight → Weight → Weight
sum a b = record { words = a.words + b.words; rows = a.rows + b.rows; steps = a.steps + b.steps; numbers = a.numbers + b.numbers }

abbrev pub IsAtMost : Weight → Weight → Type 0
IsAtMost a b = (a.words ≤ b.words) × (a.rows ≤ b.rows) × (a.steps ≤ b.steps) × (a.numbers ≤ b.numbers)

-- what goes with so many rows
abbrev pub of_rows : ℕ → Weight
of_rows n = record { words = 59 * n; rows = n; steps = 8900000 * n; numbers = 4000 * n }

-- the same of statements that only move a word: each machine word of theirs takes 17 steps, and none is done again
abbrev pub of_moves : ℕ → Weight
of_moves n = record { words = 59 * n; rows = n; steps = 1003 * n; numbers = 100 * n }

-- ---- definitions

abbrev pub rows_of_two : BinOp → ℕ
rows_of_two Add = 1
rows_of_two Sub = 1
rows_of_two Mul = 1
rows_of_two (MulHi s) = 1
rows_of_two (Div s) = 200
rows_of_two (Rem s) = 200
rows_of_two And = 1
rows_of_two Or = 1
rows_of_two Xor = 1
rows_of_two Shl = 1
rows_of_two Shr = 1
rows_of_two Sar = 1
rows_of_two (Min true) = 1
rows_of_two (Min false) = 4
rows_of_two (Max true) = 1
rows_of_two (Max false) = 4
rows_of_two (Less s) = 10
rows_of_two Equal = 10
rows_of_two Mul24 = 1

abbrev pub rows_of_one : UnOp → ℕ
rows_of_one Not = 1
rows_of_one Neg = 1
rows_of_one Clz = 1
rows_of_one Popcount = 200
rows_of_one (Narrow t) = 5

abbrev pub rows_of_def : Def → ℕ
rows_of_def (d.Const x) = 1
rows_of_def (d.Param p) = 1
rows_of_def (d.Work which dim) = 200
rows_of_def (d.Get u) = 1
rows_of_def (d.Bin op a b) = rows_of_two op
rows_of_def (d.One op a) = rows_of_one op
rows_of_def (d.Built which t args) = 200
rows_of_def (d.Choose c a b) = 1
rows_of_def (d.Load t a) = 10
rows_of_def (d.Element a i) = 10
rows_of_def d.Flat = 1
rows_of_def d.Items = 1

abbrev pub weight_of_def : Def → Weight
weight_of_def (d.Const x) = of_moves 1
weight_of_def (d.Param p) = of_moves 1
weight_of_def (d.Get u) = of_moves 1
weight_of_def e = of_rows (rows_of_def e)

-- ---- statements

abbrev mutual
  pub weight_of_stmt : Stmt → Weight
  weight_of_stmt (Let x e) = weight_of_def e
  weight_of_stmt (Set u x) = of_moves 2
  weight_of_stmt (Store t a x) = of_rows 10
  weight_of_stmt (SetElement a i x) = of_rows 10
  weight_of_stmt (Clear a) = of_rows 6
  weight_of_stmt (If' c k a l b) = sum (of_rows 14) (sum (weight_of_row a) (weight_of_row b))
  weight_of_stmt (Loop' h head c k body l step) = sum (of_rows 14) (sum (weight_of_row head) (sum (weight_of_row body) (weight_of_row step)))
  weight_of_stmt (Scope' k body) = sum (of_rows 6) (weight_of_row body)
  weight_of_stmt Leave = of_rows 6
  weight_of_stmt Break = of_rows 6
  weight_of_stmt Continue = of_rows 6

  pub weight_of_row : {n : _} → Row_of-Stmt n → Weight
  weight_of_row end_of-Stmt = weightless
  weight_of_row (more_of-Stmt a rest) = sum (weight_of_stmt a) (weight_of_row rest)

-- the text of statements
abbrev pub weight_of_text : List Stmt → Weight
weight_of_text [] = weightless
weight_of_text (a ∷ rest) = sum (weight_of_stmt a) (weight_of_text rest)

-- so many values and variables
abbrev pub of_numbers : (vals vars : ℕ) → Weight
of_numbers vals vars = record { words = 0; rows = 0; steps = 0; numbers = vals + vars }

-- a whole item
abbrev pub weight_of_item : (vals vars : ℕ) → List Stmt → Weight
weight_of_item vals vars body = sum (weight_of_text body) (of_numbers vals vars)

-- the text of one list behind another weighs what both do
abbrev pub TextsAreSummed : Type 0
TextsAreSummed = (a b : List Stmt) → weight_of_text (a ++ b) ≡ sum (weight_of_text a) (weight_of_text b)
