use Rattle.builtin_lower.specs.Lower.{lowered}
use Rattle.lane_ir.proofs.Bodies.{bodies}
use Rattle.builtin_lower.proofs.Lowered.{defs_kept}
use Rattle.builtin_lower.proofs.laws.law_lowered.Goals as goal

pub returns : goal.returns
returns c counts w n o = bodies (lowered counts.vals) counts w n 0 o (λ i h. defs_kept counts w n i o)
