use Rattle.std.proofs.Common.{◌≡◌, ℕ, ◌+◌, ◌%◌, ◌<◌, length}
use Rattle.q_lane.specs.Vectors.{lane}
use Rattle.q_lane.proofs.lanes.Lanes.rotate.Given as goal

abbrev pub invariant-loop-i : goal.invariant-loop-i
invariant-loop-i g l = (length l.words ≡ g.row.N) × ((k : ℕ) → k < l.i → lane l.words k ≡ lane l.self.words ((k + l.back) % g.row.N))
