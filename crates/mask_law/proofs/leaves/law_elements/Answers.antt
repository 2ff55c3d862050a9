use Rattle.mask_law.proofs.Elements.{element_masked}
use Rattle.mask_law.proofs.leaves.law_elements.Goals as goal

pub returns : goal.returns
returns c = element_masked
