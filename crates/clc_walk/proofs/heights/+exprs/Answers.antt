use Rattle.std.proofs.Common.{ℕ, ◌∙◌, ap, sym, max, List}
use Rattle.std.specs.Prelude.{map}
use Rattle.clc_lexer.specs.declared.marks.Mark.{Mark}
use Rattle.clc_types.specs.declared.typed.TExpr.{TExpr}
use Rattle.clc_types.specs.declared.typed.Node.TheOpen as o
use Rattle.clc_types.specs.declared.typed.Node.TheVariants as node
use Rattle.clc_types.specs.declared.typed.Node.TheFolds.{fold-Node, fold-roll-Node, fold_out-TExpr}
use Rattle.clc_types.specs.Heights.{expr_reach, greatest_operand, node_reach}
use Rattle.clc_walk.proofs.heights.+exprs.Goals as goal

pub expr_reach-returns-in-Chain : goal.expr_reach-returns-in-Chain
expr_reach-returns-in-Chain t c =
    let heights = c.args.heights.now in
    let reaches : Mark × TExpr → Mark × ℕ = λ x. (x.0, expr_reach heights x.1) in
    c.max-in-Chain.ensures
    ∙ ap (λ z. max z c.operands_reach.result) (c.expr_reach-in-Chain.ensures ∙ ap (expr_reach heights) c.get-in-Chain.ensures)
    ∙ ap (max (expr_reach heights c.in-Chain.first)) (c.operands_reach.ensures ∙ ap (λ (l : List (Mark × TExpr)). greatest_operand (map reaches l)) c.as_slice.ensures)
    ∙ sym (fold_out-TExpr ℕ ℕ (node_reach heights) (λ x. x.node) c.args.e.now
    ∙ ap (fold-Node ℕ ℕ (node_reach heights) (λ x. x.node)) (c.in-Chain.is ∙ sym (node.rolls-Chain c.in-Chain.first c.in-Chain.rest))
    ∙ fold-roll-Node ℕ ℕ (node_reach heights) (λ x. x.node) (o.Chain c.in-Chain.first c.in-Chain.rest))
