use Rattle.std.proofs.Common.{◌≡◌, drop}
use Rattle.clc_types.specs.Names.{builtins, spelled}
use Rattle.clc_types.proofs.typed.Builtin.named.Given as goal

abbrev pub invariant-loop-which : goal.invariant-loop-which
invariant-loop-which l = spelled builtins l.name ≡ spelled (drop l.which-index builtins) l.name
