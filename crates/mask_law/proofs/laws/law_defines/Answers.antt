use Rattle.mask_law.proofs.Plain.{plain}
use Rattle.mask_law.proofs.laws.law_defines.Goals as goal

pub returns : goal.returns
returns c = plain
