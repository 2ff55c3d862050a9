use Rattle.mask_law.proofs.Transfers.{store_masked}
use Rattle.mask_law.proofs.leaves.law_stores.Goals as goal

pub returns : goal.returns
returns c = store_masked
