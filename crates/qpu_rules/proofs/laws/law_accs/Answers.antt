use Rattle.qpu_rules.proofs.Accs.{accs_are_bits}
use Rattle.qpu_rules.proofs.laws.law_accs.Goals as goal

pub returns : goal.returns
returns c = accs_are_bits
