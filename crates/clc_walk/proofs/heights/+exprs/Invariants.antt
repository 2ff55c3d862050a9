use Rattle.std.proofs.Common.{◌≡◌, drop}
use Rattle.std.specs.Prelude.{map, max}
use Rattle.clc_types.specs.Heights.{greatest, greatest_operand, expr_reach}
use Rattle.clc_walk.proofs.heights.+exprs.Given as goal

abbrev pub invariant-exprs_reach-loop-e : goal.invariant-exprs_reach-loop-e
invariant-exprs_reach-loop-e l = max l.most (greatest (map (expr_reach l.heights) (drop l.e-index l.all))) ≡ greatest (map (expr_reach l.heights) l.all)

abbrev pub invariant-operands_reach-loop-x : goal.invariant-operands_reach-loop-x
invariant-operands_reach-loop-x l =
    max l.most (greatest_operand (map (λ x. (x.0, expr_reach l.heights x.1)) (drop l.x-index l.all))) ≡ greatest_operand (map (λ x. (x.0, expr_reach l.heights x.1)) l.all)
