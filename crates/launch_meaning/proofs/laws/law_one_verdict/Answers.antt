use Rattle.launch_meaning.proofs.OneLaws.{one_verdict}
use Rattle.launch_meaning.proofs.laws.law_one_verdict.Goals as goal

pub returns : goal.returns
returns c = one_verdict
