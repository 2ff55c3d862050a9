use Rattle.std.proofs.Common.{arith}
use Rattle.q_lane.specs.Vectors.{lane}
use Rattle.q_lane.proofs.VectorLaws.{lanes-is}
use Rattle.qpu_machine.proofs.issue.copy_row.Goals as goal

pub returns : goal.returns
returns c = lanes-is 16 (lane c.args.row.now) c.loop-i.words 0 c.loop-i.invariant.0 (λ i h. c.loop-i.invariant.1 i (omega arith))
