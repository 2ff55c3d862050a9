use Rattle.item_weights.proofs.Whole.{rows_are_few}
use Rattle.item_weights.proofs.law_rows.Goals as goal

pub returns : goal.returns
returns c = rows_are_few
