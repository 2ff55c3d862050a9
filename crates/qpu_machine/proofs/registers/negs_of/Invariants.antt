use Rattle.std.proofs.Common.{◌≡◌, ℕ, ◌<◌, length}
use Rattle.std.specs.Prelude.{false, get_or, nat_le, ◌^◌}
use Rattle.q_lane.specs.Vectors.{lane}
use Rattle.qpu_machine.proofs.registers.negs_of.Given as goal

abbrev pub invariant-loop-i : goal.invariant-loop-i
invariant-loop-i l = (length l.flags ≡ 16) × ((k : ℕ) → k < l.i → get_or l.flags k false ≡ nat_le (2 ^ 31) (lane l.xs k))
