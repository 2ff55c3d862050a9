use Rattle.std.proofs.Common.{◌≡◌, ◌++◌, map, drop}
use Rattle.clc_tree.specs.Flat.{joined, chain_step_tokens, comma_step_tokens, post_step_tokens}
use Rattle.clc_tree_tokens.proofs.tokens.+put_expressions.Given as goal

abbrev pub invariant-put_chain-loop-step : goal.invariant-put_chain-loop-step
invariant-put_chain-loop-step l =
    l.tokens.items ++ joined (map chain_step_tokens (drop l.step-index l.step-items)) ≡ l.initial.tokens.items ++ joined (map chain_step_tokens l.step-items)

abbrev pub invariant-put_expr-loop-step : goal.invariant-put_expr-loop-step
invariant-put_expr-loop-step l =
    l.tokens.items ++ joined (map comma_step_tokens (drop l.step-index l.step-items)) ≡ l.initial.tokens.items ++ joined (map comma_step_tokens l.step-items)

abbrev pub invariant-put_post-loop-step : goal.invariant-put_post-loop-step
invariant-put_post-loop-step l =
    l.tokens.items ++ joined (map post_step_tokens (drop l.step-index l.step-items)) ≡ l.initial.tokens.items ++ joined (map post_step_tokens l.step-items)
