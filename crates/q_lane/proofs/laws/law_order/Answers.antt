use Rattle.q_lane.proofs.WordLaws.{less_by_flips, min_by_less, max_by_less}
use Rattle.q_lane.proofs.laws.law_order.Goals as goal

pub returns-clause-less : goal.returns-clause-less
returns-clause-less c = less_by_flips

pub returns-clause-min : goal.returns-clause-min
returns-clause-min c = min_by_less

pub returns-clause-max : goal.returns-clause-max
returns-clause-max c = max_by_less
