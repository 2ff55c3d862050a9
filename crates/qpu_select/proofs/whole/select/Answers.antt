use Rattle.std.proofs.Common.{◌≡◌, true, refl, ap, ◌∙◌, map, length, arith}
use Rattle.lane_ir.specs.Batch.{counts_of}
use Rattle.vpm_dma_lower.specs.Accesses.{code_from}
use Rattle.qpu_select.specs.Code.{all_regs, shape_of}
use Rattle.vop_ir.specs.Valid.{is_valid}
use Rattle.qpu_select.specs.Whole.{program}
use Rattle.vpm_dma_lower.proofs.CodesFine.{are_codes, all_fine}
use Rattle.qpu_select.proofs.Programs.{program_valid, is_valid_from}
use Rattle.qpu_select.proofs.whole.select.Goals as goal

pub invariant_of-result : goal.invariant_of-result
invariant_of-result c =
    let ir = c.args.ir.now in
    let h = shape_of ir in
    let lens = ir.arrays.items in
    let body = ir.body.items in
    let blocks = c.in_ok-blocks.blocks.items in
    let cs = map code_from c.args.accesses.now.list.items in
    let is = c.in_ok-h.ensures.value in
    let codes : are_codes (all_regs h) ir.vals cs ≡ true =
    ap (are_codes (all_regs h) ir.vals) c.requires ∙ all_fine (all_regs h) ir.vals (omega arith) (counts_of ir) lens refl body ir.valid in
    record {
      valid =
          (λ i. is_valid ((c.all.ensures ∙ ap all_regs is) i) (is i).vals blocks)
          ∙ is_valid_from (all_regs h) h.vals blocks (omega arith)
          (program_valid h cs (length lens) body codes ir.valid blocks
          (c.in_ok-blocks.ensures ∙ (λ i. program (is i) (map code_from (c.deref-2.ensures.value i)) (c.deref-3.ensures.value i))));
    }
