use Rattle.std.proofs.Common.{◌≡◌, map, drop}
use Rattle.clc_proper.specs.Proper.{all, item_step_proper}
use Rattle.clc_proper.proofs.statement_checks.are_items.Given as goal

abbrev pub invariant-loop-step : goal.invariant-loop-step
invariant-loop-step l = all (map item_step_proper l.steps) ≡ all (map item_step_proper (drop l.step-index l.steps))
