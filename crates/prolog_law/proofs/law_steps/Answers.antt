use Rattle.prolog_law.proofs.Costs.{short}
use Rattle.prolog_law.proofs.law_steps.Goals as goal

pub returns : goal.returns
returns c = short
