use Rattle.std.proofs.Common.{◌≡◌, drop}
use Rattle.clc_types.specs.Rules.{all_are}
use Rattle.clc_walk.proofs.calls.all_are.Given as goal

abbrev pub invariant-loop-x : goal.invariant-loop-x
invariant-loop-x l = all_are l.scalar (drop l.x-index l.args) ≡ all_are l.scalar l.args
