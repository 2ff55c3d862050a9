use Rattle.qpu_encode.proofs.WordBounds.{form_in_range}
use Rattle.qpu_encode.proofs.laws.law_fields.Goals as goal

pub returns : goal.returns
returns c = form_in_range
