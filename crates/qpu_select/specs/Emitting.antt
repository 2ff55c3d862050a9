-- What the code has so far, against the pieces that it is made of.
use Rattle.std.specs.Prelude.{◌≡◌, ◌++◌, map, length}
use Rattle.vop_ir.specs.Runs.{block_from}
use Rattle.qpu_select.specs.declared.emitted.Emitted.{Emitted}
use Rattle.qpu_select.specs.Code.{Start, Piece}

abbrev pub start_of : Emitted → Start
start_of e = record { block = length e.closed.items; ops = e.ops.items; next = e.next }

-- the piece was added
pub record Adds (q : Piece) (old new : Emitted) : Type 0 where
  pub closed : map block_from new.closed.items ≡ map block_from old.closed.items ++ q.closed
  pub ops : new.ops.items ≡ q.ops
  pub next : new.next ≡ q.next
