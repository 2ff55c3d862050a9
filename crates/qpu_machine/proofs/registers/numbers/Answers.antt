use Rattle.std.proofs.Common.{refl}
use Rattle.q_lane.specs.Vectors.{lanes}
use Rattle.qpu_machine.proofs.registers.numbers.Goals as goal

pub returns : goal.returns
unfolding lanes
returns c = refl
