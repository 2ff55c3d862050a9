use Rattle.std.proofs.Common.{◌≡◌, ℕ, ◌<◌, length}
use Rattle.std.specs.Prelude.{length}
use Rattle.q_lane.specs.Vectors.{lane}
use Rattle.qpu_encode.specs.Operations.{mul_value}
use Rattle.qpu_machine.proofs.registers.mul_each.Given as goal

abbrev pub invariant-loop-i : goal.invariant-loop-i
invariant-loop-i l = (length l.words ≡ 16) × ((k : ℕ) → k < l.i → lane l.words k ≡ mul_value l.op (lane l.xs k) (lane l.ys k))
