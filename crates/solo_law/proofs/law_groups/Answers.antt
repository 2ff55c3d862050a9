use Rattle.solo_law.proofs.Groups.{groups_commute}
use Rattle.solo_law.proofs.law_groups.Goals as goal

pub returns : goal.returns
returns c = groups_commute
