use Rattle.mask_law.proofs.Item.{items_kept}
use Rattle.mask_law.proofs.constructs.law_items.Goals as goal

pub returns : goal.returns
returns c = items_kept c.law_local.ensures
