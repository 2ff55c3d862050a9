use Rattle.std.proofs.Common.{◌≡◌, ◌≢◌, ◌≤◌, ◌<◌, ◌-◌, ℕ, length, get_or}
use Rattle.launch_file.proofs.words.place_of.Given as goal

-- no byte before the place is the one
abbrev pub invariant-loop-place : goal.invariant-loop-place
invariant-loop-place l = (l.place ≤ length l.bytes) × ((k : ℕ) → k < l.place → get_or l.bytes k 0 ≢ l.at)

abbrev pub decreases-loop-place : goal.decreases-loop-place
decreases-loop-place l = length l.bytes - l.place
