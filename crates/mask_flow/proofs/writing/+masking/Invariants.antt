use Rattle.std.proofs.Common.{◌≡◌, ◌++◌, drop}
use Rattle.mask_flow.specs.Masked.{masked_all}
use Rattle.mask_flow.proofs.writing.+masking.Given as goal

abbrev pub invariant-put_body-loop-stmt : goal.invariant-put_body-loop-stmt
invariant-put_body-loop-stmt l = l.out.items ++ masked_all l.ids l.at (drop l.stmt-index l.body) ≡ l.initial.out.items ++ masked_all l.ids l.at l.body
