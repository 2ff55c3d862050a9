use Rattle.promise.proofs.OpeningLaws.{settings_open}
use Rattle.promise.proofs.laws.law_openings.Goals as goal

pub returns : goal.returns
returns c = settings_open
