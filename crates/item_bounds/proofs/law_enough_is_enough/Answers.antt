use Rattle.item_bounds.proofs.EnoughTrees.{enough_turns}
use Rattle.item_bounds.proofs.law_enough_is_enough.Goals as goal

pub returns : goal.returns
returns c = enough_turns
