use Rattle.mask_law.proofs.All.{all_masked}
use Rattle.mask_law.proofs.WithoutParts.{leaves_masked}
use Rattle.mask_law.proofs.constructs.law_all.Goals as goal

pub returns : goal.returns
returns c = all_masked leaves_masked
