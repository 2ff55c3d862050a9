use Rattle.item_weights.proofs.VarsOfFunctions.{elements_are_counted}
use Rattle.item_weights.proofs.law_elements.Goals as goal

pub returns : goal.returns
returns c = elements_are_counted
