use Rattle.q_lane.specs.Numbers.{applied_one}
use Rattle.q_lane.proofs.WordLaws.{narrowed-narrowed}
use Rattle.q_lane.proofs.laws.law_narrow.Goals as goal

pub returns : goal.returns
unfolding applied_one
returns c = narrowed-narrowed
