use Rattle.std.proofs.Common.{◌≡◌, ◌++◌, drop}
use Rattle.std.specs.Prelude.{map}
use Rattle.ir_build.specs.Build.{array_length}
use Rattle.ir_build.proofs.pass.array_lengths.Given as goal

abbrev pub invariant-loop-var : goal.invariant-loop-var
invariant-loop-var l = l.lengths.items ++ map array_length (drop l.var-index l.vars) ≡ map array_length l.vars
