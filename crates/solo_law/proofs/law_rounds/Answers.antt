use Rattle.solo_law.proofs.Rounds.{rounds_finish}
use Rattle.solo_law.proofs.law_rounds.Goals as goal

pub returns : goal.returns
returns c = rounds_finish
