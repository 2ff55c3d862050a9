use Rattle.std.proofs.Common.{arith, ℕ, ◌==◌, ◌/◌, ◌%◌, ◌^◌, false}
use Rattle.q_lane.proofs.VectorLaws.{lanes-is}
use Rattle.qpu_machine.proofs.opening.flags_of.Goals as goal

pub returns : goal.returns
returns c = lanes-is 16 (λ (i : ℕ). c.args.word / 2 ^ i % 2 == 1) c.loop-i.flags false c.loop-i.invariant.0 (λ i h. c.loop-i.invariant.1 i (omega arith))
