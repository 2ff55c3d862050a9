-- What is made within the body of one function.
use Rattle.std.specs.Prelude.{ℕ, List, Option, slice_get}
use Rattle.clc_types.specs.declared.typed.TExpr.{TExpr as Typed}
use Rattle.clc_types.specs.declared.typed.Node.{Node as TypedNode}
use Rattle.clc_types.specs.declared.typed.TStmt.{TStmt as TypedStmt}
use Rattle.clc_inline.specs.declared.setting.Setting.{Setting}
use Rattle.clc_inline.specs.declared.body.TExpr.{TExpr}
use Rattle.clc_inline.specs.declared.body.Node.{Node}
use Rattle.clc_inline.specs.declared.body.TStmt.{TStmt}
use Rattle.clc_inline.specs.Inlining.{Made, Makes, scope, bodies_below, expr_made, node_made, maybe_made, stmt_made}

module _ (s : Setting) where
  abbrev pub expr_in : Typed → Makes TExpr
  expr_in = expr_made s.functions.now (bodies_below s.functions.now s.callable) s.base

  abbrev pub node_in : TypedNode → Makes Node
  node_in = node_made s.functions.now (bodies_below s.functions.now s.callable) s.base

  abbrev pub maybe_in : Option Typed → Makes (Option TExpr)
  maybe_in = maybe_made s.functions.now (bodies_below s.functions.now s.callable) s.base

  abbrev pub stmt_in : TypedStmt → Makes TStmt
  stmt_in = stmt_made s.functions.now (bodies_below s.functions.now s.callable) s.base

  -- a call of this function, where its arguments are made
  abbrev pub called_in : ℕ → Made (List TExpr) → Made Node
  called_in function args = scope (bodies_below s.functions.now s.callable) function (slice_get s.functions.now function) args.made args.vars
