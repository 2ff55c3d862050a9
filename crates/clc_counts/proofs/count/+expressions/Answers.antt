use Rattle.std.proofs.Common.{List, sym, ap, ◌∙◌}
use Rattle.std.specs.Prelude.{map}
use Rattle.clc_lexer.specs.declared.marks.Mark.{Mark}
use Rattle.clc_types.specs.declared.typed.TExpr.{TExpr}
use Rattle.clc_types.specs.declared.typed.Node.TheOpen as e
use Rattle.clc_types.specs.declared.typed.Node.TheVariants as v
use Rattle.clc_types.specs.declared.typed.Node.TheFolds.{fold-Node, fold-roll-Node, fold_out-TExpr}
use Rattle.clc_counts.specs.declared.tally.Tally.{Tally}
use Rattle.clc_counts.specs.Counts.{plus, operands_summed, node_count, expr_count}
use Rattle.clc_counts.proofs.count.+expressions.Goals as goal

pub expression-returns-in-Chain : goal.expression-returns-in-Chain
expression-returns-in-Chain t c =
    let ts = c.args.tallies.now in
    let counts : Mark × TExpr → Mark × Tally = λ x. (x.0, expr_count plus ts x.1) in
    c.operands.ensures
    ∙ ap (λ z. operands_summed plus z (map counts c.as_slice.result.now)) (c.expression-in-Chain.ensures ∙ ap (expr_count plus ts) c.get-in-Chain.ensures)
    ∙ ap (λ (l : List (Mark × TExpr)). operands_summed plus (expr_count plus ts c.in-Chain.first) (map counts l)) c.as_slice.ensures
    ∙ sym (fold_out-TExpr Tally Tally (node_count plus ts) (λ x. x.node) c.args.e.now
    ∙ ap (fold-Node Tally Tally (node_count plus ts) (λ x. x.node)) (c.in-Chain.is ∙ sym (v.rolls-Chain c.in-Chain.first c.in-Chain.rest))
    ∙ fold-roll-Node Tally Tally (node_count plus ts) (λ x. x.node) (e.Chain c.in-Chain.first c.in-Chain.rest))
