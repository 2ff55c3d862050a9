use Rattle.std.proofs.Common.{◌≡◌, ◌++◌, map, drop}
use Rattle.clc_tree.specs.Flat.{joined, item_step_tokens}
use Rattle.clc_tree_tokens.proofs.statement_tokens.put_declare.Given as goal

abbrev pub invariant-loop-step : goal.invariant-loop-step
invariant-loop-step l =
    l.tokens.items ++ joined (map item_step_tokens (drop l.step-index l.step-items)) ≡ l.initial.tokens.items ++ joined (map item_step_tokens l.step-items)
