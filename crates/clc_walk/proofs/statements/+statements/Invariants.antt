use Rattle.std.proofs.Common.{◌≡◌, drop, []}
use Rattle.std.specs.Prelude.{map}
use Rattle.clc_types.specs.InternalSteps.{walk_block_part, listed, view_of}
use Rattle.clc_walk.proofs.statements.+statements.Given as goal

abbrev pub invariant-parts-loop-x : goal.invariant-parts-loop-x
invariant-parts-loop-x l =
    listed l.list (map walk_block_part (drop l.x-index l.parts)) l.looped (view_of l.state)
    ≡ listed [] (map walk_block_part l.parts) l.looped (view_of l.initial.state)
