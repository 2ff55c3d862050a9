use Rattle.std.proofs.Common.{◌≡◌, map, drop}
use Rattle.clc_proper.specs.Proper.{all, steps_fit, step_top, comma_step_proper, post_step_proper}
use Rattle.clc_proper.proofs.checks.+check_expressions.Given as goal

abbrev pub invariant-is_expr-loop-step : goal.invariant-is_expr-loop-step
invariant-is_expr-loop-step l = all (map comma_step_proper l.step-items) ≡ all (map comma_step_proper (drop l.step-index l.step-items))

abbrev pub invariant-is_post-loop-step : goal.invariant-is_post-loop-step
invariant-is_post-loop-step l = all (map post_step_proper l.step-items) ≡ all (map post_step_proper (drop l.step-index l.step-items))

abbrev pub invariant-chain_top-loop-step : goal.invariant-chain_top-loop-step
invariant-chain_top-loop-step l = steps_fit l.rank (map step_top l.rest) ≡ steps_fit l.rank (map step_top (drop l.step-index l.rest))
