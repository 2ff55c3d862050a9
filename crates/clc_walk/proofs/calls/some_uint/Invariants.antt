use Rattle.std.proofs.Common.{◌≡◌, drop}
use Rattle.clc_types.specs.Rules.{some_uint}
use Rattle.clc_walk.proofs.calls.some_uint.Given as goal

abbrev pub invariant-loop-x : goal.invariant-loop-x
invariant-loop-x l = some_uint (drop l.x-index l.args) ≡ some_uint l.args
