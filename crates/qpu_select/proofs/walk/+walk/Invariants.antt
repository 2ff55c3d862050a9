use Rattle.std.proofs.Common.{drop, map}
use Rattle.vpm_dma_lower.specs.Accesses.{code_from}
use Rattle.qpu_select.specs.Code.{emit_all}
use Rattle.qpu_select.proofs.Loops.{Rest}
use Rattle.qpu_select.proofs.walk.+walk.Given as goal

abbrev pub invariant-put_all-loop-stmt : goal.invariant-put_all-loop-stmt
invariant-put_all-loop-stmt l =
    Rest (emit_all l.h (map code_from l.list) l.body) l.initial.out (emit_all l.h (map code_from l.list) (drop l.stmt-index l.body)) l.out
