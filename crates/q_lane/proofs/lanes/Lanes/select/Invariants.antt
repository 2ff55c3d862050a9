use Rattle.std.proofs.Common.{◌≡◌, ℕ, ◌<◌, length}
use Rattle.std.specs.Prelude.{◌==◌, if◌then◌else◌}
use Rattle.q_lane.specs.Vectors.{lane}
use Rattle.q_lane.proofs.lanes.Lanes.select.Given as goal

abbrev pub invariant-loop-i : goal.invariant-loop-i
invariant-loop-i g l = (length l.words ≡ g.row.N) × ((k : ℕ) → k < l.i → lane l.words k ≡ (if lane l.mask.words k == 0 then lane l.b.words k else lane l.a.words k))
