use Rattle.mask_law.proofs.Emitted.{leaves}
use Rattle.mask_law.proofs.laws.law_leaves.Goals as goal

pub returns : goal.returns
returns c = leaves
