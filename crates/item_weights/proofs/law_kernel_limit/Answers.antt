use Rattle.item_weights.proofs.Kernels.{kernels_are_within_limit}
use Rattle.item_weights.proofs.law_kernel_limit.Goals as goal

pub returns : goal.returns
returns c = kernels_are_within_limit
