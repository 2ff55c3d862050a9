use Rattle.item_weights.proofs.Whole.{weighs_little}
use Rattle.item_weights.proofs.law_weights.Goals as goal

pub returns : goal.returns
returns c = weighs_little
