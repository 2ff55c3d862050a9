use Rattle.mask_law.proofs.Flows.{flows_fit}
use Rattle.mask_law.proofs.laws.law_flows.Goals as goal

pub returns : goal.returns
returns c = flows_fit
