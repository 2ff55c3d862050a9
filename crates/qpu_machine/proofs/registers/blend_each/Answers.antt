use Rattle.std.proofs.Common.{arith, ℕ}
use Rattle.std.specs.Prelude.{false, get_or, if◌then◌else◌}
use Rattle.q_lane.specs.Vectors.{lane}
use Rattle.q_lane.proofs.VectorLaws.{lanes-is}
use Rattle.qpu_machine.specs.Operations.{written}
use Rattle.qpu_encode.specs.Operations.{passes}
use Rattle.qpu_machine.proofs.registers.blend_each.Goals as goal

pub returns : goal.returns
unfolding written
returns c = lanes-is 16 (λ (i : ℕ). if passes c.args.cond (get_or c.args.zero.now i false) (get_or c.args.neg.now i false) then lane c.args.new.now i else lane c.args.old.now i) c.loop-i.words 0 c.loop-i.invariant.0 (λ i h. c.loop-i.invariant.1 i (omega arith))
