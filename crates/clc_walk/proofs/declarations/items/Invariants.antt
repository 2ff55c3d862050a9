use Rattle.std.proofs.Common.{◌≡◌, drop}
use Rattle.std.specs.Prelude.{map, Bool}
use Rattle.clc_types.specs.InternalSteps.{item_step_walk, listed, view_of}
use Rattle.clc_walk.proofs.declarations.items.Given as goal

abbrev pub invariant-loop-step : goal.invariant-loop-step
invariant-loop-step l =
    (looped : Bool) → listed l.list (map (item_step_walk l.fixed l.scalar) (drop l.step-index l.rest)) looped (view_of l.state)
    ≡ listed l.initial.list (map (item_step_walk l.fixed l.scalar) l.rest) looped (view_of l.initial.state)
