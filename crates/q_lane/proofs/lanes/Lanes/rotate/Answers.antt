use Rattle.std.proofs.Common.{arith, ap, ℕ, ◌≡◌, ◌+◌, ◌-◌, ◌%◌, ◌∙◌}
use Rattle.q_lane.specs.Vectors.{lane, rotated}
use Rattle.q_lane.proofs.VectorLaws.{lanes-is}
use Rattle.q_lane.proofs.Rotations.{rotated-moves}
use Rattle.q_lane.proofs.lanes.Lanes.rotate.Goals as goal
use Rattle.q_lane.proofs.lanes.Lanes.rotate.Given as given

-- the words as the definition has them
whole : (g : given.Over) (c : goal.After-loop-i g) → c.loop-i.words ≡ rotated g.row.N c.args.self.now.words c.args.n
whole g c = lanes-is g.row.N (λ (i : ℕ). lane c.args.self.now.words ((i + (g.row.N - c.args.n % g.row.N)) % g.row.N)) c.loop-i.words 0 c.loop-i.invariant.0 (λ i h. c.loop-i.invariant.1 i (omega arith))

pub returns-clause-each : goal.returns-clause-each
returns-clause-each g c = whole g c

pub returns-clause-moved : goal.returns-clause-moved
returns-clause-moved g c i h = ap (λ xs. lane xs ((i + c.args.n) % g.row.N)) (whole g c) ∙ rotated-moves g.row.N c.args.self.now.words c.args.n i h
