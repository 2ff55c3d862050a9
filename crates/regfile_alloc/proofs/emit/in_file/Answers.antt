-- Nothing goes to a row, and blocks lead where they led.
use Rattle.std.proofs.Common.{◌∙◌, ap, map}
use Rattle.vop_ir.specs.Runs.{block_from}
use Rattle.regfile_alloc.specs.Picks.{loc_of, block_in}
use Rattle.phys_ir.specs.Leads.{is_closed}
use Rattle.regfile_alloc.specs.Outcome.{exit_from}
use Rattle.regfile_alloc.proofs.Emitted.{kept_by}
use Rattle.regfile_alloc.proofs.Valid.{below_from, closed_from}
use Rattle.regfile_alloc.proofs.emit.in_file.Goals as goal

pub returns-clause-same : goal.returns-clause-same
returns-clause-same c =
    kept_by c.args.ir.now.regs c.in_ok-places.places.items (map block_from c.args.ir.now.blocks.items) c.in_ok-blocks_over.field-0.items c.requires
    (below_from c.args.ir.now.regs c.args.ir.now.scratch c.args.ir.now.blocks.items c.args.ir.now.valid)
    (λ r l. c.in_ok-places.ensures.each r l)
    (c.in_ok-blocks_over.ensures.code ∙ ap (λ z. map (block_in (loc_of z) 64) (map block_from c.deref-2.result.now)) c.deref.ensures.value
    ∙ ap (λ z. map (block_in (loc_of c.in_ok-places.places.items) 64) (map block_from z)) c.deref-2.ensures.value)

pub invariant_of-result : goal.invariant_of-result
invariant_of-result c =
    let ir = c.args.ir.now in
    record {
      valid =
          ap is_closed (c.in_ok-blocks_over.ensures.exits ∙ ap (map exit_from) c.deref-2.ensures.value) ∙ closed_from ir.regs ir.scratch ir.blocks.items ir.valid;
    }
