use Rattle.std.proofs.Common.{◌≡◌, ◌++◌, drop}
use Rattle.lane_ir.specs.Kept.{rewritten_all}
use Rattle.builtin_lower.specs.Lower.{lowered}
use Rattle.builtin_lower.proofs.walk.+walk.Given as goal

abbrev pub invariant-walked-loop-stmt : goal.invariant-walked-loop-stmt
invariant-walked-loop-stmt l = l.out.items ++ rewritten_all (lowered l.first) (drop l.stmt-index l.body) ≡ rewritten_all (lowered l.first) l.body
