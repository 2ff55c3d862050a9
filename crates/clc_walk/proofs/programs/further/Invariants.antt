use Rattle.std.proofs.Common.{◌≡◌, drop, ◌+◌}
use Rattle.clc_types.specs.InternalSteps.{view_of}
use Rattle.clc_types.specs.InternalWalks.{further_walk}
use Rattle.clc_walk.proofs.programs.further.Given as goal

abbrev pub invariant-loop-i : goal.invariant-loop-i
invariant-loop-i l = further_walk (l.i + 1) (drop l.i l.rest) (view_of l.state) ≡ further_walk 1 l.rest (view_of l.initial.state)
