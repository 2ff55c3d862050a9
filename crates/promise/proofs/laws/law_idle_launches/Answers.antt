use Rattle.promise.proofs.IdleLaunches.{idle_launches}
use Rattle.promise.proofs.laws.law_idle_launches.Goals as goal

pub returns : goal.returns
returns c = idle_launches
