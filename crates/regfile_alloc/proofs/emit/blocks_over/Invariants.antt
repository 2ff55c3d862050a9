-- The blocks so far, and those that are left.
use Rattle.std.proofs.Common.{◌≡◌, ◌++◌, drop, map}
use Rattle.vop_ir.specs.Runs.{block_from}
use Rattle.phys_ir.specs.Places.{block_of}
use Rattle.regfile_alloc.specs.Picks.{loc_of, block_in}
use Rattle.phys_ir.specs.Leads.{exit_of}
use Rattle.regfile_alloc.specs.Outcome.{exit_from}
use Rattle.regfile_alloc.proofs.emit.blocks_over.Given as goal

abbrev pub invariant-loop-block : goal.invariant-loop-block
invariant-loop-block l =
    (map block_of l.out.items ++ map (block_in (loc_of l.places) l.spare) (map block_from (drop l.block-index l.blocks)) ≡ map (block_in (loc_of l.places) l.spare) (map block_from l.blocks))
    × (map exit_of l.out.items ++ map exit_from (drop l.block-index l.blocks) ≡ map exit_from l.blocks)
