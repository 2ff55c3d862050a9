use Rattle.std.proofs.Common.{◌≡◌, ◌++◌, ◌∷◌, drop}
use Rattle.std.specs.Prelude.{map}
use Rattle.clc_types.specs.Programs.{param_shape}
use Rattle.clc_walk.proofs.programs.shapes_from.Given as goal

abbrev pub invariant-loop-step : goal.invariant-loop-step
invariant-loop-step l =
    l.shapes ++ map (λ s. param_shape s.param) (drop l.step-index l.rest) ≡ param_shape l.first ∷ map (λ s. param_shape s.param) l.rest
