use Rattle.tight_laws.proofs.Accesses.{kinds_agree}
use Rattle.tight_laws.proofs.laws.law_kinds.Goals as goal

pub returns : goal.returns
returns c = kinds_agree
