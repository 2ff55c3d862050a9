use Rattle.q_lane.proofs.VectorLaws.{selected-mapped}
use Rattle.q_lane.proofs.laws.law_choice.Goals as goal

pub returns : goal.returns
returns c = selected-mapped
