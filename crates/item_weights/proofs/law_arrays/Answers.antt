use Rattle.item_weights.proofs.Arrays.{arrays_are_those}
use Rattle.item_weights.proofs.law_arrays.Goals as goal

pub returns : goal.returns
returns c = arrays_are_those
