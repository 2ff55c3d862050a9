use Rattle.mask_law.proofs.Opened.{choose_code}
use Rattle.mask_law.proofs.laws.law_chooses.Goals as goal

pub returns : goal.returns
returns c = choose_code
