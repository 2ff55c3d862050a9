use Rattle.std.proofs.Common.{◌≤◌, ◌++◌, map, length, ap, sym, ◌∙◌, arith}
use Rattle.std.proofs.lemmas.Bool.Decides.{nat_tests}
use Rattle.std.proofs.lemmas.List.{append-nil, length-map}
use Rattle.std.proofs.lemmas.Option.{slice_get_past}
use Rattle.vop_ir.specs.Runs.{block_from}
use Rattle.vpm_dma_lower.specs.Code.{shifted}
use Rattle.vpm_dma_lower.specs.Accesses.{code_from}
use Rattle.qpu_select.specs.Code.{blocks_of}
use Rattle.qpu_select.proofs.blocks.put_blocks.Goals as goal

pub returns-in-None : goal.returns-in-None
returns-in-None c =
    let list = c.args.list.now in
    let before = map block_from c.args.closed.now.items in
    let test = c.in-None.ensures.lookup.0 in
    let past : length list ≤ c.args.next = grind (arith, nat_tests) in
    let none = slice_get_past (map code_from list) c.args.next (omega (arith, past, length-map list code_from)) in
    sym (append-nil before) ∙ ap (λ o. before ++ map (shifted c.args.e) (blocks_of o)) (sym none)
