use Rattle.std.proofs.Common.{◌≡◌, ◌++◌, take, map}
use Rattle.vop_ir.specs.Runs.{block_from}
use Rattle.vpm_dma_lower.specs.Code.{shifted}
use Rattle.qpu_select.proofs.blocks.put_moved.Given as goal

abbrev pub invariant-loop-block : goal.invariant-loop-block
invariant-loop-block l =
    map block_from l.closed.items ≡ map block_from l.initial.closed.items ++ map (shifted l.e) (map block_from (take l.block-index l.blocks))
