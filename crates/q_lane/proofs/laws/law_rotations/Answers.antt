use Rattle.q_lane.proofs.Rotations.{rotated-rotated, rotated-whole}
use Rattle.q_lane.proofs.laws.law_rotations.Goals as goal

pub returns-clause-sums : goal.returns-clause-sums
returns-clause-sums c = rotated-rotated

pub returns-clause-whole : goal.returns-clause-whole
returns-clause-whole c = rotated-whole
