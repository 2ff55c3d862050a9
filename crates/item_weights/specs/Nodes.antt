-- The nodes of a body in which each call is a scope, as the limit of nodes counts them: the call and its arguments, and those of the called body.
use Rattle.std.specs.Prelude.{ℕ, ◌+◌}
use Rattle.clc_counts.specs.Counts.{weight}
use Rattle.clc_inline.specs.declared.body.Node.{Node, Row_of-TExpr, end_of-TExpr, more_of-TExpr, Row_of-Node-Chain-1-2, end_of-Node-Chain-1-2, more_of-Node-Chain-1-2}
use Rattle.clc_inline.specs.declared.body.Node.TheVariants.{Number, Name, Index', Element', Deref', Prefix', Step', Cast', Paren', Chain', Cond', Assign', Scope', Builtin'}
use Rattle.clc_inline.specs.declared.body.TStmt.{TStmt, Row_of-TStmt, end_of-TStmt, more_of-TStmt, Held-TStmt-If-2, TStmt-If-2-None', TStmt-If-2-Some', Held-TStmt-Declare-1, TStmt-Declare-1-None', TStmt-Declare-1-Some'}
use Rattle.clc_inline.specs.declared.body.TStmt.TheVariants.{Block', Declare', Eval', Empty, If', While', Do', For', Break, Continue, Return'}

-- a box that is empty counts as one node
abbrev mutual
  pub count : Node → ℕ
  count (Number x) = 1
  count (Name u) = 1
  count (Index' i base j index) = 1 + (count_box base + count_box index)
  count (Element' u i index) = 2 + count_box index
  count (Deref' i pointer) = 1 + count_box pointer
  count (Prefix' o i arg) = 1 + count_box arg
  count (Step' i place up post) = 1 + count_box place
  count (Cast' i arg) = 1 + count_box arg
  count (Paren' i arg) = count_box arg
  count (Chain' i first j rest) = count_box first + count_chain rest
  count (Cond' i cond j one' l other) = 1 + (count_box cond + (count_box one' + count_box other))
  count (Assign' i place o j value) = weight o + (count_box place + count_box value)
  count (Scope' params n args result i body) = 1 + (count_body body + count_args args)
  count (Builtin' which work n args) = 16 + count_args args

  pub count_box : {n : _} → Row_of-TExpr n → ℕ
  count_box end_of-TExpr = 1
  count_box (more_of-TExpr at t e rest) = count e

  pub count_args : {n : _} → Row_of-TExpr n → ℕ
  count_args end_of-TExpr = 0
  count_args (more_of-TExpr at t e rest) = count e + count_args rest

  pub count_chain : {n : _} → Row_of-Node-Chain-1-2 n → ℕ
  count_chain end_of-Node-Chain-1-2 = 0
  count_chain (more_of-Node-Chain-1-2 o at t e rest) = weight o + count e + count_chain rest

  pub count_stmt : TStmt → ℕ
  count_stmt (Block' n stmts) = 1 + count_all stmts
  count_stmt (Declare' u init) = 1 + count_if init
  count_stmt (Eval' at t e) = 1 + count e
  count_stmt Empty = 1
  count_stmt (If' at t e i one' other) = 1 + (count e + (count_body one' + count_else other))
  count_stmt (While' at t e i body) = 1 + (count e + count_body body)
  count_stmt (Do' i body at t e) = 1 + (count_body body + count e)
  count_stmt (For' n init cond step i body) = 1 + (count_begin init + (count_if cond + (count_if step + count_body body)))
  count_stmt Break = 1
  count_stmt Continue = 1
  count_stmt (Return' e) = 1 + count_if e

  pub count_if : Held-TStmt-Declare-1 → ℕ
  count_if TStmt-Declare-1-None' = 0
  count_if (TStmt-Declare-1-Some' at t e) = count e

  pub count_all : {n : _} → Row_of-TStmt n → ℕ
  count_all end_of-TStmt = 0
  count_all (more_of-TStmt a rest) = count_stmt a + count_all rest

  pub count_body : {n : _} → Row_of-TStmt n → ℕ
  count_body end_of-TStmt = 1
  count_body (more_of-TStmt a rest) = count_stmt a

  pub count_else : Held-TStmt-If-2 → ℕ
  count_else TStmt-If-2-None' = 0
  count_else (TStmt-If-2-Some' i stmt) = count_body stmt

  -- an expression that stands first in a `for` is no expression statement
  pub count_begin : {n : _} → Row_of-TStmt n → ℕ
  count_begin end_of-TStmt = 0
  count_begin (more_of-TStmt a rest) = count_first a + count_begin rest

  pub count_first : TStmt → ℕ
  count_first (Eval' at t e) = count e
  count_first (Declare' u init) = 1 + count_if init
  count_first _ = 0
