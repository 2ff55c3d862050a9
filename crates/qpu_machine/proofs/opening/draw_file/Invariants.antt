use Rattle.std.proofs.Common.{◌≡◌, ℕ, ◌<◌, ◌*◌, ◌+◌, length, get_or}
use Rattle.qpu_machine.specs.Schedules.{seed_after}
use Rattle.qpu_machine.specs.Opening.{zeros, drawn_lanes}
use Rattle.qpu_machine.proofs.opening.draw_file.Given as goal

abbrev pub invariant-loop-r : goal.invariant-loop-r
invariant-loop-r g l =
    (l.generator.state ≡ seed_after l.initial.generator.state (16 * l.r)) × (length l.file ≡ g.row.N) × ((k : ℕ) → k < l.r → get_or l.file k zeros ≡ drawn_lanes l.initial.generator.state (0 + 16 * k))
