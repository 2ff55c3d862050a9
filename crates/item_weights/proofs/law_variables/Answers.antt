use Rattle.item_weights.proofs.VarsOfFunctions.{variables_are_few}
use Rattle.item_weights.proofs.law_variables.Goals as goal

pub returns : goal.returns
returns c = variables_are_few
