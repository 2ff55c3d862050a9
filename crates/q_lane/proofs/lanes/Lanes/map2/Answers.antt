use Rattle.std.proofs.Common.{arith, ℕ}
use Rattle.q_lane.specs.Numbers.{applied}
use Rattle.q_lane.specs.Vectors.{lane}
use Rattle.q_lane.proofs.VectorLaws.{lanes-is}
use Rattle.q_lane.proofs.lanes.Lanes.map2.Goals as goal

pub returns : goal.returns
returns g c = lanes-is g.row.N (λ (i : ℕ). applied c.args.op (lane c.args.a.now.words i) (lane c.args.b.now.words i)) c.loop-i.words 0 c.loop-i.invariant.0 (λ i h. c.loop-i.invariant.1 i (omega arith))
