use Rattle.std.proofs.Common.{◌≡◌, ◌++◌, map, drop}
use Rattle.clc_tree.specs.Flat.{joined, param_step_tokens}
use Rattle.clc_tree_tokens.proofs.program_tokens.put_params.Given as goal

abbrev pub invariant-loop-step : goal.invariant-loop-step
invariant-loop-step l =
    l.tokens.items ++ joined (map param_step_tokens (drop l.step-index l.step-items)) ≡ l.initial.tokens.items ++ joined (map param_step_tokens l.step-items)
