use Rattle.tight_laws.proofs.Clashes.{clashes_break}
use Rattle.tight_laws.proofs.laws.law_clashes.Goals as goal

pub returns : goal.returns
returns c = clashes_break
