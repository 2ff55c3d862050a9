use Rattle.item_bounds.proofs.StaysTrees.{items_keep_bytes}
use Rattle.item_bounds.proofs.law_items_keep_bytes.Goals as goal

pub returns : goal.returns
returns c = items_keep_bytes
