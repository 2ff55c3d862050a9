use Rattle.std.proofs.Common.{ℕ, List, [], drop, map}
use Rattle.vpm_dma_lower.specs.Accesses.{code_from}
use Rattle.qpu_select.specs.Clears.{emit_body, Marks}
use Rattle.qpu_select.proofs.Loops.{Rest}
use Rattle.qpu_select.proofs.body.put_body.Given as goal

-- some registers are marked, and what is left adds what the whole does
abbrev pub invariant-loop-stmt : goal.invariant-loop-stmt
invariant-loop-stmt l =
    (seen : List ℕ) × Marks l.flags.items seen
    × Rest (emit_body l.h (map code_from l.list) [] l.body) l.initial.out (emit_body l.h (map code_from l.list) seen (drop l.stmt-index l.body)) l.out
