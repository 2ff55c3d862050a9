use Rattle.item_weights.proofs.Functions.{nodes_are_counted}
use Rattle.item_weights.proofs.law_nodes.Goals as goal

pub returns : goal.returns
returns c = nodes_are_counted
