use Rattle.item_laws.proofs.Overlaid.{reruns_overlaid}
use Rattle.item_laws.proofs.laws.law_overlaid.Goals as goal

pub returns : goal.returns
returns c = reruns_overlaid
