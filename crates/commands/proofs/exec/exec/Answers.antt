use Rattle.commands.proofs.Steps.{gives_up}
use Rattle.commands.proofs.exec.exec.Goals as goal

pub returns-in-Err : goal.returns-in-Err
returns-in-Err g c = gives_up _ _ _ _
