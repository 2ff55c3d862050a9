use Rattle.std.proofs.Common.{◌≡◌, ℕ, ◌<◌, length}
use Rattle.q_lane.specs.Numbers.{applied}
use Rattle.q_lane.specs.Vectors.{lane}
use Rattle.q_lane.proofs.lanes.Lanes.map2.Given as goal

abbrev pub invariant-loop-i : goal.invariant-loop-i
invariant-loop-i g l = (length l.words ≡ g.row.N) × ((k : ℕ) → k < l.i → lane l.words k ≡ applied l.op (lane l.a.words k) (lane l.b.words k))
