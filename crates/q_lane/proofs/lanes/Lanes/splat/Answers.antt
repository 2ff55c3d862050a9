use Rattle.std.proofs.Common.{ℕ}
use Rattle.std.proofs.lemmas.List.{length-replicate, get_or-replicate}
use Rattle.q_lane.proofs.VectorLaws.{lanes-is}
use Rattle.q_lane.proofs.lanes.Lanes.splat.Goals as goal

pub returns : goal.returns
returns g c = lanes-is g.row.N (λ (i : ℕ). c.args.word) _ 0 (length-replicate g.row.N c.args.word) (λ i h. get_or-replicate g.row.N i c.args.word 0 h)
