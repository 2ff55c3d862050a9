use Rattle.solo_law.proofs.Theorems.{never_stuck}
use Rattle.solo_law.proofs.law_never_stuck.Goals as goal

pub returns : goal.returns
returns c = never_stuck
