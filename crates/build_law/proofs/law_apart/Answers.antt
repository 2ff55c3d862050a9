-- The law.
use Rattle.build_law.proofs.Layouts.{lie_apart}
use Rattle.build_law.proofs.law_apart.Goals as goal

pub returns : goal.returns
returns c = lie_apart
