use Rattle.std.proofs.Common.{◌≡◌, drop, []}
use Rattle.clc_types.specs.InternalSteps.{view_of}
use Rattle.clc_types.specs.InternalWalks.{functions_walk}
use Rattle.clc_walk.proofs.programs.functions.Given as goal

abbrev pub invariant-loop-f : goal.invariant-loop-f
invariant-loop-f l = functions_walk l.list (view_of l.state) (drop l.f-index l.all) ≡ functions_walk [] (view_of l.initial.state) l.all
