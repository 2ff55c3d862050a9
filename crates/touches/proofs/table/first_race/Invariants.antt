use Rattle.std.proofs.Common.{ℕ, ◌<◌}
use Rattle.touches.specs.Touched.{byte_of}
use Rattle.touches.specs.First.{IsQuiet}
use Rattle.touches.proofs.table.first_race.Given as goal

abbrev pub invariant-loop-at : goal.invariant-loop-at
invariant-loop-at l = (buffer byte : ℕ) → buffer < l.at → IsQuiet (byte_of l.rows buffer byte)
