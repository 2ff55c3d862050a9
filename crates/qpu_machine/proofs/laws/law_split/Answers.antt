use Rattle.qpu_machine.proofs.Split.{step_splits}
use Rattle.qpu_machine.proofs.laws.law_split.Goals as goal

pub returns : goal.returns
returns c = λ code g q s k. step_splits code g q s k
