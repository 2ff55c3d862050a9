use Rattle.q_lane.proofs.WordLaws.{applied-below, applied_one-below}
use Rattle.q_lane.proofs.laws.law_words.Goals as goal

pub returns-clause-two : goal.returns-clause-two
returns-clause-two c = applied-below

pub returns-clause-one : goal.returns-clause-one
returns-clause-one c = applied_one-below
