use Rattle.std.proofs.Common.{◌≡◌}
use Rattle.clc_types.specs.Typing.{exprs}
use Rattle.clc_walk.proofs.calls.exprs.Given as goal

abbrev pub invariant-loop-x : goal.invariant-loop-x
invariant-loop-x l = l.all ≡ exprs l.yielded
