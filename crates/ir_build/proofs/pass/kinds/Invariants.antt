use Rattle.std.proofs.Common.{◌≡◌, ◌++◌, drop}
use Rattle.std.specs.Prelude.{map}
use Rattle.ir_build.specs.Build.{kind_of}
use Rattle.ir_build.proofs.pass.kinds.Given as goal

abbrev pub invariant-loop-var : goal.invariant-loop-var
invariant-loop-var l = l.kinds.items ++ map kind_of (drop l.var-index l.params) ≡ map kind_of l.params
