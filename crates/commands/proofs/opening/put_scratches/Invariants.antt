use Rattle.std.proofs.Common.{◌≡◌, ◌-◌, replicate}
use Rattle.promise.specs.Openings.{with_regions}
use Rattle.commands.proofs.opening.put_scratches.Given as goal

abbrev pub invariant-loop-qpu : goal.invariant-loop-qpu
invariant-loop-qpu l = with_regions l.memory.items (replicate (l.qpus - l._qpu) l.scratch) ≡ with_regions l.initial.memory.items (replicate l.qpus l.scratch)
