use Rattle.std.proofs.Common.{◌≡◌, drop}
use Rattle.std.specs.Prelude.{map}
use Rattle.clc_counts.specs.Counts.{plus, summed, operands_summed, expr_count}
use Rattle.clc_counts.proofs.count.+expressions.Given as goal

abbrev pub invariant-expressions-loop-e : goal.invariant-expressions-loop-e
invariant-expressions-loop-e l = summed plus l.tally (map (expr_count plus l.tallies) (drop l.e-index l.all)) ≡ summed plus l.initial.tally (map (expr_count plus l.tallies) l.all)

abbrev pub invariant-operands-loop-x : goal.invariant-operands-loop-x
invariant-operands-loop-x l =
    operands_summed plus l.tally (map (λ x. (x.0, expr_count plus l.tallies x.1)) (drop l.x-index l.all)) ≡ operands_summed plus l.initial.tally (map (λ x. (x.0, expr_count plus l.tallies x.1)) l.all)
