-- The law.
use Rattle.inline_law.proofs.Kernel.{means}
use Rattle.inline_law.proofs.law_inlined.Goals as goal

pub returns : goal.returns
returns c = means
