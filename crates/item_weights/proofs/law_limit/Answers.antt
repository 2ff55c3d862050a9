use Rattle.item_weights.proofs.Whole.{is_within_limit}
use Rattle.item_weights.proofs.law_limit.Goals as goal

pub returns : goal.returns
returns c = is_within_limit
