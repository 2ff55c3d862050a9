use Rattle.mask_law.proofs.Fitting.{valid_fits}
use Rattle.mask_law.proofs.laws.law_fits.Goals as goal

pub returns : goal.returns
returns c = valid_fits
