use Rattle.std.proofs.Common.{arith, ℕ}
use Rattle.std.specs.Prelude.{false, ◌==◌}
use Rattle.q_lane.specs.Vectors.{lane}
use Rattle.q_lane.proofs.VectorLaws.{lanes-is}
use Rattle.qpu_machine.proofs.registers.zeros_of.Goals as goal

pub returns : goal.returns
returns c = lanes-is 16 (λ (i : ℕ). lane c.args.xs.now i == 0) c.loop-i.flags false c.loop-i.invariant.0 (λ i h. c.loop-i.invariant.1 i (omega arith))
