use Rattle.lane_ir.proofs.Bodies.{bodies}
use Rattle.lane_ir.proofs.laws.law_rewritten.Goals as goal

pub returns : goal.returns
returns c = bodies
