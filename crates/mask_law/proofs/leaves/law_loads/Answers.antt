use Rattle.mask_law.proofs.Transfers.{load_masked}
use Rattle.mask_law.proofs.leaves.law_loads.Goals as goal

pub returns : goal.returns
returns c = load_masked
