use Rattle.mask_law.proofs.Setting.{set_masked}
use Rattle.mask_law.proofs.laws.law_set.Goals as goal

pub returns : goal.returns
returns c = set_masked
