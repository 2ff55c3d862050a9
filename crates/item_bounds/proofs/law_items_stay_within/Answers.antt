use Rattle.item_bounds.proofs.StaysTrees.{items_stay}
use Rattle.item_bounds.proofs.law_items_stay_within.Goals as goal

pub returns : goal.returns
returns c = items_stay
