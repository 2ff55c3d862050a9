-- A batch as a whole.
use Rattle.std.specs.Prelude.{length}
use Rattle.lane_ir.specs.declared.ir.LaneIr.{LaneIr}
use Rattle.lane_ir.specs.Valid.{Counts, counted}

-- how many values, variables, private arrays and parameters it has
abbrev pub counts_of : LaneIr → Counts
counts_of b = counted b.vals b.vars (length b.arrays.items) (length b.kinds.items)
