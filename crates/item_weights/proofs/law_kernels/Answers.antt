use Rattle.item_weights.proofs.Kernels.{kernels_weigh_little}
use Rattle.item_weights.proofs.law_kernels.Goals as goal

pub returns : goal.returns
returns c = kernels_weigh_little
