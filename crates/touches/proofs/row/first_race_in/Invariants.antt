use Rattle.std.proofs.Common.{ℕ, ◌<◌}
use Rattle.touches.specs.Touched.{byte_in}
use Rattle.touches.specs.First.{IsQuiet}
use Rattle.touches.proofs.row.first_race_in.Given as goal

abbrev pub invariant-loop-at : goal.invariant-loop-at
invariant-loop-at l = (byte : ℕ) → byte < l.at → IsQuiet (byte_in l.bytes byte)
