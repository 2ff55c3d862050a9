-- The law.
use Rattle.build_law.proofs.Items.{item_follows}
use Rattle.build_law.proofs.law_item.Goals as goal

pub returns : goal.returns
returns c = item_follows
