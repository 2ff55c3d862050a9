use Rattle.launch_file.proofs.FitLaws.{no_fault_is_fit}
use Rattle.launch_file.proofs.laws.law_fit.Goals as goal

pub returns : goal.returns
returns c = no_fault_is_fit
