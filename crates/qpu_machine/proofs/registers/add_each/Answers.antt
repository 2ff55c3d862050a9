use Rattle.std.proofs.Common.{arith, ℕ}
use Rattle.q_lane.specs.Vectors.{lane}
use Rattle.q_lane.proofs.VectorLaws.{lanes-is}
use Rattle.qpu_encode.specs.Operations.{add_value}
use Rattle.qpu_machine.proofs.registers.add_each.Goals as goal

pub returns : goal.returns
returns c = lanes-is 16 (λ (i : ℕ). add_value c.args.op (lane c.args.xs.now i) (lane c.args.ys.now i)) c.loop-i.words 0 c.loop-i.invariant.0 (λ i h. c.loop-i.invariant.1 i (omega arith))
