use Rattle.std.proofs.Common.{◌≡◌, ◌++◌, drop, map}
use Rattle.vpm_dma_lower.specs.Accesses.{code_from, codes_all}
use Rattle.vpm_dma_lower.proofs.walk.+walk.Given as goal

abbrev pub invariant-put_all-loop-stmt : goal.invariant-put_all-loop-stmt
invariant-put_all-loop-stmt l =
    map code_from l.list.items ++ codes_all l.vals l.lens (drop l.stmt-index l.body) ≡ map code_from l.initial.list.items ++ codes_all l.vals l.lens l.body
