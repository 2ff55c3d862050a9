use Rattle.std.proofs.Common.{◌≡◌, ◌++◌, take, map}
use Rattle.qpu_select.specs.Clears.{wholly}
use Rattle.qpu_select.proofs.namings.put_whole.Given as goal

abbrev pub invariant-loop-reg : goal.invariant-loop-reg
invariant-loop-reg l = l.out.items ≡ l.initial.out.items ++ map wholly (take l.reg-index l.regs)
