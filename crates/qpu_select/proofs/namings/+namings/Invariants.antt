use Rattle.std.proofs.Common.{◌≡◌, ◌++◌, drop}
use Rattle.qpu_select.specs.Clears.{namings_all}
use Rattle.qpu_select.proofs.namings.+namings.Given as goal

abbrev pub invariant-put_all_namings-loop-stmt : goal.invariant-put_all_namings-loop-stmt
invariant-put_all_namings-loop-stmt l =
    l.out.items ++ namings_all l.h (drop l.stmt-index l.body) ≡ l.initial.out.items ++ namings_all l.h l.body
