use Rattle.std.proofs.Common.{◌≡◌, take, sum}
use Rattle.vpm_dma_lower.proofs.walk.first_row.Given as goal

abbrev pub invariant-loop-len : goal.invariant-loop-len
invariant-loop-len l = l.row ≡ sum (take l.len-index l.len-items)
