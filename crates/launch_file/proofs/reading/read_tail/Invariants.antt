use Rattle.std.proofs.Common.{◌≡◌, ◌+◌, ◌*◌, ◌≤◌, ◌++◌, ℕ, List, length}
use Rattle.launch_file.specs.LaunchText.{head_lines}
use Rattle.launch_file.specs.Reading.{Allowed, body_lines, Leads}
use Rattle.launch_file.proofs.reading.read_tail.Given as goal

-- what was read is allowed, and leads to what is left
abbrev pub invariant-loop-left : goal.invariant-loop-left
invariant-loop-left l =
    record {
      allowed : Allowed l.body;
      number : l.number ≡ 4 + length (body_lines l.body);
      shorter : 2 * l.number + length l.left ≤ length l.rest + 8;
      leads : (qpus : ℕ) (global local bytes : List ℕ) → Leads bytes (head_lines qpus global local) l.rest → Leads bytes (head_lines qpus global local ++ body_lines l.body) l.left;
    }

abbrev pub decreases-loop-left : goal.decreases-loop-left
decreases-loop-left l = length l.left
