use Rattle.std.proofs.Common.{◌≡◌, ◌+◌, map, length, set, ap, ◌∙◌, arith}
use Rattle.std.proofs.lemmas.List.{map-set}
use Rattle.vop_ir.specs.Runs.{block_from}
use Rattle.vop_ir.specs.declared.form.Exit.TheVariants.{Jump, Branch}
use Rattle.vop_ir.specs.declared.form.VopBlock.{VopBlock}
use Rattle.qpu_select.proofs.Loops.{one_more}
use Rattle.qpu_select.proofs.blocks.put_back.Goals as goal

pub returns-clause-closed : goal.returns-clause-closed
returns-clause-closed c =
    let old = c.args.out.now in
    let closed = c.close.new.out.closed.items in
    let is_closed = c.in_ok-close.ensures.closed in
    let block : VopBlock = record { ops = c.args.ops; exit = Branch c.args.holds c.in_ok-yes.yes c.in_ok-no.no } in
    let yes : c.in_ok-yes.yes ≡ c.args.at + 1 = omega (arith, c.in_ok-yes.ensures.0, c.in_ok-number.ensures) in
    let no : c.in_ok-no.no ≡ length old.closed.items + 1
    = omega (arith, c.in_ok-no.ensures, c.len.ensures, one_more closed old.closed.items (record { ops = old.ops.items; exit = Jump c.args.head }) is_closed) in
    ap (map block_from) c.put_at.ensures
    ∙ map-set block_from closed c.args.at block
    ∙ (λ i. set (is_closed i) c.args.at (record { ops = c.args.ops.items; exit = Branch c.args.holds (yes i) (no i) }))
