use Rattle.std.proofs.Common.{arith, ℕ}
use Rattle.std.specs.Prelude.{◌==◌, if◌then◌else◌}
use Rattle.q_lane.specs.Vectors.{lane}
use Rattle.q_lane.proofs.VectorLaws.{lanes-is}
use Rattle.q_lane.proofs.lanes.Lanes.select.Goals as goal

pub returns : goal.returns
returns g c = lanes-is g.row.N (λ (i : ℕ). if lane c.args.mask.now.words i == 0 then lane c.args.b.now.words i else lane c.args.a.now.words i) c.loop-i.words 0 c.loop-i.invariant.0 (λ i h. c.loop-i.invariant.1 i (omega arith))
