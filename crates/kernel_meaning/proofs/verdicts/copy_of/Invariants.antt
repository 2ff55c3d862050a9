use Rattle.std.proofs.Common.{◌≡◌, take}
use Rattle.kernel_meaning.proofs.verdicts.copy_of.Given as goal

abbrev pub invariant-loop-bytes : goal.invariant-loop-bytes
invariant-loop-bytes l = l.copy ≡ take l.bytes-index l.buffers
