use Rattle.qpu_machine.proofs.Runs.{runs_compose, stopped_stays, runs_keep}
use Rattle.qpu_machine.proofs.laws.law_runs.Goals as goal

pub returns-clause-compose : goal.returns-clause-compose
returns-clause-compose c = λ first second s. runs_compose first second s

pub returns-clause-stopped : goal.returns-clause-stopped
returns-clause-stopped c = λ steps s h. stopped_stays steps s h

pub returns-clause-keep : goal.returns-clause-keep
returns-clause-keep c = λ steps s. runs_keep steps s
