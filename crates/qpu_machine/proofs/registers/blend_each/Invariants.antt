use Rattle.std.proofs.Common.{◌≡◌, ℕ, ◌<◌, length}
use Rattle.std.specs.Prelude.{false, get_or, if◌then◌else◌}
use Rattle.q_lane.specs.Vectors.{lane}
use Rattle.qpu_encode.specs.Operations.{passes}
use Rattle.qpu_machine.proofs.registers.blend_each.Given as goal

abbrev pub invariant-loop-i : goal.invariant-loop-i
invariant-loop-i l = (length l.words ≡ 16) × ((k : ℕ) → k < l.i → lane l.words k ≡ (if passes l.cond (get_or l.zero k false) (get_or l.neg k false) then lane l.new k else lane l.old k))
