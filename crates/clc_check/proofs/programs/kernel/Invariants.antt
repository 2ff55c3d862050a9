use Rattle.std.proofs.Common.{◌≡◌, drop}
use Rattle.clc_types.specs.Programs.{kernel_of}
use Rattle.clc_check.proofs.programs.kernel.Given as goal

abbrev pub invariant-loop-number : goal.invariant-loop-number
invariant-loop-number l = kernel_of l.number (drop l.number l.typed.functions) l.name ≡ kernel_of 0 l.typed.functions l.name
