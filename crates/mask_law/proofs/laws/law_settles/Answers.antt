use Rattle.mask_law.proofs.Emitted.{settle_code}
use Rattle.mask_law.proofs.laws.law_settles.Goals as goal

pub returns : goal.returns
returns c = settle_code
