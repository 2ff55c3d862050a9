use Rattle.std.proofs.Common.{◌≡◌, replicate}
use Rattle.qpu_machine.specs.Opening.{zero_regs, opening_qpu}
use Rattle.qpu_machine.proofs.opening.open_zero.Given as goal

abbrev pub invariant-loop-index : goal.invariant-loop-index
invariant-loop-index l = l.qpus.items ≡ replicate l._index (opening_qpu zero_regs)
