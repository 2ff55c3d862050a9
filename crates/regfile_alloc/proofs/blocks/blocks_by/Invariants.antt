-- The exits so far, and those that are left.
use Rattle.std.proofs.Common.{◌≡◌, ◌++◌, drop, map}
use Rattle.phys_ir.specs.Leads.{exit_of}
use Rattle.regfile_alloc.specs.Outcome.{exit_from}
use Rattle.regfile_alloc.proofs.blocks.blocks_by.Given as goal

abbrev pub invariant-loop-number : goal.invariant-loop-number
invariant-loop-number l = map exit_of l.out.items ++ map exit_from (drop l.number l.blocks) ≡ map exit_from l.blocks
