use Rattle.mask_law.proofs.WithoutParts.{leaves_masked}
use Rattle.mask_law.proofs.leaves.law_without_parts.Goals as goal

pub returns : goal.returns
returns c = leaves_masked
