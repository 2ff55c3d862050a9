use Rattle.mask_law.proofs.Elements.{clear_masked}
use Rattle.mask_law.proofs.leaves.law_clears.Goals as goal

pub returns : goal.returns
returns c = clear_masked
