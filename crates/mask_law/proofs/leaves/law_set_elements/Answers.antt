use Rattle.mask_law.proofs.Elements.{set_element_masked}
use Rattle.mask_law.proofs.leaves.law_set_elements.Goals as goal

pub returns : goal.returns
returns c = set_element_masked
