-- How high the calls in a typed tree reach: the greatest height of the functions of the source that are called in it.
use Rattle.std.specs.Prelude.{ℕ, max, List, [], ◌∷◌, Option, Some, None, slice_get}
use Rattle.clc_lexer.specs.declared.marks.Mark.{Mark}
use Rattle.clc_types.specs.declared.typed.TExpr.{TExpr}
use Rattle.clc_types.specs.declared.typed.Node.TheOpen as e
use Rattle.clc_types.specs.declared.typed.Node.TheOpen.{TExpr-F, Node-F}
use Rattle.clc_types.specs.declared.typed.Node.TheFolds.{fold-TExpr}
use Rattle.clc_types.specs.declared.typed.TStmt.{TStmt}
use Rattle.clc_types.specs.declared.typed.TStmt.TheOpen as s
use Rattle.clc_types.specs.declared.typed.TStmt.TheOpen.{TStmt-F}
use Rattle.clc_types.specs.declared.typed.TStmt.TheFolds.{fold-TStmt}

abbrev pub or_zero : Option ℕ → ℕ
or_zero None = 0
or_zero (Some h) = h

abbrev pub greatest : List ℕ → ℕ
greatest [] = 0
greatest (x ∷ xs) = max x (greatest xs)

abbrev pub greatest_operand : List (Mark × ℕ) → ℕ
greatest_operand [] = 0
greatest_operand (x ∷ xs) = max x.1 (greatest_operand xs)

module _ (heights : List ℕ) where
  abbrev pub node_reach : Node-F ℕ ℕ → ℕ
  node_reach (e.Number w) = 0
  node_reach (e.Name v) = 0
  node_reach (e.Index a b) = max a b
  node_reach (e.Element v b) = b
  node_reach (e.Deref a) = a
  node_reach (e.Prefix o a) = a
  node_reach (e.Step a u p) = a
  node_reach (e.Cast a) = a
  node_reach (e.Paren a) = a
  node_reach (e.Chain a more) = max a (greatest_operand more)
  node_reach (e.Cond a b d) = max a (max b d)
  node_reach (e.Assign a o b) = max a b
  node_reach (e.Call f args) = max (or_zero (slice_get heights f)) (greatest args)
  node_reach (e.Builtin f w args) = greatest args

  abbrev pub expr_reach : TExpr → ℕ
  expr_reach = fold-TExpr ℕ ℕ node_reach (λ x. x.node)

  abbrev pub maybe_expr_reach : Option TExpr → ℕ
  maybe_expr_reach None = 0
  maybe_expr_reach (Some e) = expr_reach e

  abbrev pub stmt_step : TStmt-F ℕ → ℕ
  stmt_step (s.Block xs) = greatest xs
  stmt_step (s.Declare v i) = maybe_expr_reach i
  stmt_step (s.Eval e) = expr_reach e
  stmt_step s.Empty = 0
  stmt_step (s.If e x y) = max (expr_reach e) (max x (or_zero y))
  stmt_step (s.While e x) = max (expr_reach e) x
  stmt_step (s.Do x e) = max x (expr_reach e)
  stmt_step (s.For xs e f x) = max (greatest xs) (max (maybe_expr_reach e) (max (maybe_expr_reach f) x))
  stmt_step s.Break = 0
  stmt_step s.Continue = 0
  stmt_step (s.Return e) = maybe_expr_reach e

  abbrev pub stmt_reach : TStmt → ℕ
  stmt_reach = fold-TStmt ℕ stmt_step
