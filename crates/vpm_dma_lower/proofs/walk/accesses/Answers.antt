-- The code of the accesses of a valid batch names only what is there.
use Rattle.std.proofs.Common.{ap, ◌∙◌, ◌++◌, map}
use Rattle.lane_ir.specs.Batch.{counts_of}
use Rattle.vpm_dma_lower.specs.Accesses.{code_from, codes_all}
use Rattle.vpm_dma_lower.specs.Valid.{are_accesses}
use Rattle.vpm_dma_lower.proofs.CodesFine.{list_valid}
use Rattle.vpm_dma_lower.proofs.walk.accesses.Goals as goal

pub invariant_of-result : goal.invariant_of-result
invariant_of-result c =
    let ir = c.args.ir.now in
    record {
      valid =
          ap are_accesses
          (c.in_ok-put_all.ensures ∙ (λ i. map code_from (c.new-list.ensures.items i) ++ codes_all ir.vals (c.deref.ensures.value i) (c.deref-2.ensures.value i)))
          ∙ list_valid (counts_of ir) ir.arrays.items ir.body.items ir.valid;
    }
