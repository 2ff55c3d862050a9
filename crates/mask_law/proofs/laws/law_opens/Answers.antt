use Rattle.mask_law.proofs.Opened.{open_code}
use Rattle.mask_law.proofs.laws.law_opens.Goals as goal

pub returns : goal.returns
returns c = open_code
