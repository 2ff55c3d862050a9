use Rattle.tight_laws.proofs.Accesses.{accesses_agree}
use Rattle.tight_laws.proofs.laws.law_accesses.Goals as goal

pub returns : goal.returns
returns c = accesses_agree
