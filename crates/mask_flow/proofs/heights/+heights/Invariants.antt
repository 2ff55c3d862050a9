use Rattle.std.proofs.Common.{◌≡◌, drop}
use Rattle.std.specs.Prelude.{max}
use Rattle.mask_flow.specs.Heights.{height_all}
use Rattle.mask_flow.proofs.heights.+heights.Given as goal

abbrev pub invariant-height_in-loop-stmt : goal.invariant-height_in-loop-stmt
invariant-height_in-loop-stmt l = max l.most (height_all (drop l.stmt-index l.body)) ≡ height_all l.body
