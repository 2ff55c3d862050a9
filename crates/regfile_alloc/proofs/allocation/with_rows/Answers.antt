-- Blocks lead where they led.
use Rattle.std.proofs.Common.{ap, ◌∙◌}
use Rattle.phys_ir.specs.Leads.{is_closed}
use Rattle.regfile_alloc.proofs.Valid.{closed_from}
use Rattle.regfile_alloc.proofs.allocation.with_rows.Goals as goal

pub invariant_of-result : goal.invariant_of-result
invariant_of-result c =
    let ir = c.args.ir.now in record { valid = ap is_closed c.requires ∙ closed_from ir.regs ir.scratch ir.blocks.items ir.valid }
