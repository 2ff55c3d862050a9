-- What `build` makes of a body weighs no more than its nodes allow.
use Rattle.std.specs.Prelude.{◌≡◌, ℕ, ◌+◌, ◌*◌, ◌≤◌, List, [], ◌∷◌, map, length}
use Rattle.clc_types.specs.declared.typed.Var.{Var}
use Rattle.clc_counts.specs.Counts.{array_tally}
use Rattle.clc_inline.specs.declared.body.TStmt.{TStmt}
use Rattle.ir_build.specs.Build.{body_code, array_length}
use Rattle.ir_weights.specs.Weights.{Weight, sum, IsAtMost, weight_of_text, weight_of_item, of_rows, of_moves, of_numbers}
use Rattle.item_weights.specs.Nodes.{count_stmt}

-- a parameter is no node, but it is stored in its variable, which takes three rows
abbrev pub RowsAreFew : Type 0
RowsAreFew = (vars : List Var) (params : ℕ) (body : TStmt) → (weight_of_text (body_code vars params body).stmts).rows ≤ 15 * count_stmt body + 3 * params

-- the item of a body: its values and its variables are numbered alike
abbrev pub weight_of_built : List Var → (params : ℕ) → TStmt → Weight
weight_of_built vars params body = let c = body_code vars params body in weight_of_item c.next c.next c.stmts

-- each variable of the body and each parameter has a number among the values and one among the variables, and so has each row of the code
abbrev pub numbers_of : (vars params nodes : ℕ) → ℕ
numbers_of vars params nodes = 1 + vars + params + 15 * nodes

-- what goes with 15 rows for each node, what goes with the moves of the parameters, and the numbers
abbrev pub WeighsLittle : Type 0
WeighsLittle = (vars : List Var) (params : ℕ) (body : TStmt)
    → let n = numbers_of (length vars) params (count_stmt body) in
    IsAtMost (weight_of_built vars params body) (sum (sum (of_rows (15 * count_stmt body)) (of_moves (3 * params))) (of_numbers n n))

-- what the item of so many nodes may weigh at most
abbrev pub limit : (nodes : ℕ) → Weight
limit n = record { words = 885 * n + 2832; rows = 15 * n + 48; steps = 134217728 * n; numbers = 65536 * n }

-- with up to 16 parameters, where each other variable is a node
abbrev pub IsWithinLimit : Type 0
IsWithinLimit = (vars : List Var) (params : ℕ) (body : TStmt) → params ≤ 16 → length vars ≤ count_stmt body + params → IsAtMost (weight_of_built vars params body) (limit (count_stmt body))

abbrev pub total : List ℕ → ℕ
total [] = 0
total (n ∷ rest) = n + total rest

-- the elements of private arrays, as the limit of elements counts them
abbrev pub elements_of : List Var → ℕ
elements_of [] = 0
elements_of (x ∷ rest) = (array_tally x).elements + elements_of rest

abbrev pub ArraysAreThose : Type 0
ArraysAreThose = (vars : List Var) → total (map array_length vars) ≡ elements_of vars
