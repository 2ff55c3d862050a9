use Rattle.std.proofs.Common.{◌≡◌, ℕ, ◌<◌, ◌*◌, ◌+◌, [], length, get_or}
use Rattle.q_lane.specs.Vectors.{lanes}
use Rattle.qpu_machine.specs.Schedules.{seed_after, draw}
use Rattle.qpu_machine.proofs.opening.draw_vpm.Given as goal

abbrev pub invariant-loop-y : goal.invariant-loop-y
invariant-loop-y l =
    (l.generator.state ≡ seed_after l.initial.generator.state (16 * l.y)) × (length l.rows ≡ 64)
    × ((k : ℕ) → k < l.y → get_or l.rows k [] ≡ lanes 16 (λ i. draw l.initial.generator.state (0 + 16 * k + i)))
