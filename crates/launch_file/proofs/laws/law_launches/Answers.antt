use Rattle.launch_file.proofs.LaunchBack.{launch-clean}
use Rattle.launch_file.proofs.LaunchFrom.{launch_from}
use Rattle.launch_file.proofs.OneText.{one_launch}
use Rattle.launch_file.proofs.laws.law_launches.Goals as goal

pub returns-clause-launch : goal.returns-clause-launch
returns-clause-launch c = launch_from

pub returns-clause-clean : goal.returns-clause-clean
returns-clause-clean c = launch-clean

pub returns-clause-one : goal.returns-clause-one
returns-clause-one c = one_launch
