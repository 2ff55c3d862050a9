use Rattle.std.proofs.Common.{◌≡◌, ℕ, ◌<◌, length}
use Rattle.q_lane.specs.Vectors.{lane}
use Rattle.qpu_machine.proofs.issue.copy_row.Given as goal

abbrev pub invariant-loop-i : goal.invariant-loop-i
invariant-loop-i l = (length l.words ≡ 16) × ((k : ℕ) → k < l.i → lane l.words k ≡ lane l.row k)
