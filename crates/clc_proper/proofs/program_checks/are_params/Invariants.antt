use Rattle.std.proofs.Common.{◌≡◌, map, drop}
use Rattle.clc_proper.specs.Proper.{all, param_step_proper}
use Rattle.clc_proper.proofs.program_checks.are_params.Given as goal

abbrev pub invariant-loop-step : goal.invariant-loop-step
invariant-loop-step l = all (map param_step_proper l.steps) ≡ all (map param_step_proper (drop l.step-index l.steps))
