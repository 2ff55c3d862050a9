use Rattle.solo_law.proofs.Theorems.{projects}
use Rattle.solo_law.proofs.law_projects.Goals as goal

pub returns : goal.returns
returns c = projects
