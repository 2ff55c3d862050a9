use Rattle.std.proofs.Common.{arith, ℕ}
use Rattle.std.specs.Prelude.{false, nat_le, ◌^◌}
use Rattle.q_lane.specs.Vectors.{lane}
use Rattle.q_lane.proofs.VectorLaws.{lanes-is}
use Rattle.qpu_machine.proofs.registers.negs_of.Goals as goal

pub returns : goal.returns
returns c = lanes-is 16 (λ (i : ℕ). nat_le (2 ^ 31) (lane c.args.xs.now i)) c.loop-i.flags false c.loop-i.invariant.0 (λ i h. c.loop-i.invariant.1 i (omega arith))
