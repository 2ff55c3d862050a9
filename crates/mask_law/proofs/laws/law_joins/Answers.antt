use Rattle.mask_law.proofs.Joins.{masks_join}
use Rattle.mask_law.proofs.laws.law_joins.Goals as goal

pub returns : goal.returns
returns c = masks_join
