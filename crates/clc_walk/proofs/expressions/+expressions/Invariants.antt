use Rattle.std.proofs.Common.{◌≡◌, drop}
use Rattle.std.specs.Prelude.{map}
use Rattle.clc_types.specs.InternalScope.{knows}
use Rattle.clc_types.specs.InternalWalk.{comma, walk_operators, walk_further, walk_suffixes, walk_chain_step, walk_comma_step, walk_post_step}
use Rattle.clc_walk.proofs.expressions.+expressions.Given as goal

abbrev pub invariant-commas-loop-step : goal.invariant-commas-loop-step
invariant-commas-loop-step l =
    walk_operators l.p l.sofar l.at (map comma (map (walk_comma_step (knows l.scope)) (drop l.step-index l.rest)))
    ≡ walk_operators l.p l.initial.sofar l.initial.at (map comma (map (walk_comma_step (knows l.scope)) l.rest))

abbrev pub invariant-operators-loop-step : goal.invariant-operators-loop-step
invariant-operators-loop-step l =
    walk_operators l.p l.sofar l.at (map (walk_chain_step (knows l.scope)) (drop l.step-index l.rest))
    ≡ walk_operators l.p l.initial.sofar l.initial.at (map (walk_chain_step (knows l.scope)) l.rest)

abbrev pub invariant-post-loop-step : goal.invariant-post-loop-step
invariant-post-loop-step l =
    walk_suffixes l.p l.x l.at (map (walk_post_step (knows l.scope)) (drop l.step-index l.step-items))
    ≡ walk_suffixes l.p l.initial.x l.initial.at (map (walk_post_step (knows l.scope)) l.step-items)

abbrev pub invariant-arguments_in-loop-step : goal.invariant-arguments_in-loop-step
invariant-arguments_in-loop-step l =
    walk_further l.list.items l.at (map (walk_comma_step (knows l.scope)) (drop l.step-index l.step-items))
    ≡ walk_further l.initial.list.items l.initial.at (map (walk_comma_step (knows l.scope)) l.step-items)
