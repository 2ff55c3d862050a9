use Rattle.item_laws.proofs.Statements.{runs_local}
use Rattle.item_laws.proofs.laws.law_local.Goals as goal

pub returns : goal.returns
returns c = runs_local
