-- A chain of operators, where it is known what its parts make.
use Rattle.std.proofs.Common.{◌≡◌, List, [], sym, ap, ◌∙◌}
use Rattle.std.specs.Prelude.{map}
use Rattle.clc_lexer.specs.declared.marks.Mark.{Mark}
use Rattle.clc_types.specs.declared.typed.Var.{Var}
use Rattle.clc_types.specs.declared.typed.TExpr.{TExpr as Typed}
use Rattle.clc_types.specs.declared.typed.Node.{Node as TypedNode}
use Rattle.clc_types.specs.declared.typed.Node.TheVariants as v
use Rattle.clc_types.specs.declared.typed.Node.TheOpen as e
use Rattle.clc_types.specs.declared.typed.Node.TheFolds.{fold-roll-Node}
use Rattle.clc_inline.specs.declared.setting.Setting.{Setting}
use Rattle.clc_inline.specs.declared.body.TExpr.{TExpr}
use Rattle.clc_inline.specs.declared.body.Node.{Node}
use Rattle.clc_inline.specs.declared.body.Node.TheVariants as n
use Rattle.clc_inline.specs.Inlining.{Makes, two, operands, bodies_below, node_layer, expr_layer}
use Rattle.clc_inline.specs.InSetting.{expr_in, node_in}

pub chain_made : (s : Setting) (first : Typed) (rest : List (Mark × Typed)) (vars : List Var)
    → node_in s (v.Chain first rest) vars ≡ two n.Chain (expr_in s first vars) (operands [] (map (λ x. (x.0, expr_in s x.1)) rest))
chain_made s first rest vars =
    let bodies = bodies_below s.functions.now s.callable in
    ap (λ (z : TypedNode). node_in s z vars) (sym (v.rolls-Chain first rest))
    ∙ ap (λ (make : Makes Node). make vars)
    (fold-roll-Node (Makes Node) (Makes TExpr) (node_layer s.functions.now bodies s.base) (expr_layer s.functions.now bodies s.base) (e.Chain first rest))
