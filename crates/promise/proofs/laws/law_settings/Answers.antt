use Rattle.promise.proofs.OpeningLaws.{valid_launches}
use Rattle.promise.proofs.laws.law_settings.Goals as goal

pub returns : goal.returns
returns c = valid_launches
