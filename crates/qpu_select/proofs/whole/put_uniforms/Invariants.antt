use Rattle.std.proofs.Common.{◌≡◌, ◌++◌, map}
use Rattle.std.specs.List.{range_with_len}
use Rattle.qpu_select.specs.Whole.{takes}
use Rattle.qpu_select.proofs.whole.put_uniforms.Given as goal

abbrev pub invariant-loop-p : goal.invariant-loop-p
invariant-loop-p l = l.ops.items ≡ l.initial.ops.items ++ map takes (range_with_len l.first l.p)
