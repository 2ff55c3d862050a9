use Rattle.mask_law.proofs.Opened.{test_code}
use Rattle.mask_law.proofs.laws.law_tests.Goals as goal

pub returns : goal.returns
returns c = test_code
