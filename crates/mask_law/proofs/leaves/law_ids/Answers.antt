use Rattle.mask_law.proofs.Picked.{ids_masked}
use Rattle.mask_law.proofs.leaves.law_ids.Goals as goal

pub returns : goal.returns
returns c = ids_masked
