use Rattle.compile_pipe.proofs.Violations.{has_one_violation}
use Rattle.compile_pipe.proofs.laws.law_violations.Goals as goal

pub returns : goal.returns
returns c = has_one_violation
