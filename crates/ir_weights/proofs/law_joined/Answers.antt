use Rattle.ir_weights.proofs.Joined.{joined}
use Rattle.ir_weights.proofs.law_joined.Goals as goal

pub returns : goal.returns
returns c = joined
