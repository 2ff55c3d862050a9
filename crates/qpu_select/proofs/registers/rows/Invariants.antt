use Rattle.std.proofs.Common.{◌≡◌, take, sum}
use Rattle.qpu_select.proofs.registers.rows.Given as goal

abbrev pub invariant-loop-len : goal.invariant-loop-len
invariant-loop-len l = l.rows ≡ sum (take l.len-index l.lens)
