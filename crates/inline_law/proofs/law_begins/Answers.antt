use Rattle.inline_law.proofs.Kernel.{begins}
use Rattle.inline_law.proofs.law_begins.Goals as goal

pub returns : goal.returns
returns c = λ functions kernel f body typed found made. begins functions kernel f body typed found made
