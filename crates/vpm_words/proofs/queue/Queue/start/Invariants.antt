use Rattle.std.proofs.Common.{◌≡◌, map}
use Rattle.std.specs.List.{range_with_len}
use Rattle.vpm_words.specs.Elements.{element_at}
use Rattle.arrayvec.specs.ArrayVec.{array_vec_len}
use Rattle.vpm_words.proofs.queue.Queue.start.Given as goal

abbrev pub invariant-loop-j : goal.invariant-loop-j
invariant-loop-j l = (array_vec_len l.self-inside.cells ≡ l.j) × (l.self-inside.cells.items ≡ map (element_at l.address l.fn.transfer) (range_with_len 0 l.j))
