use Rattle.solo_law.proofs.Theorems.{bound}
use Rattle.solo_law.proofs.law_bound.Goals as goal

pub returns : goal.returns
returns c = bound
