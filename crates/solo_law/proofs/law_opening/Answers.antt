use Rattle.solo_law.proofs.Opening.{openings_start}
use Rattle.solo_law.proofs.law_opening.Goals as goal

pub returns : goal.returns
returns c = openings_start
