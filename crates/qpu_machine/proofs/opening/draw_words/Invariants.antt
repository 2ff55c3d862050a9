use Rattle.std.proofs.Common.{◌≡◌, ℕ, ◌<◌, length}
use Rattle.q_lane.specs.Vectors.{lane}
use Rattle.qpu_machine.specs.Schedules.{seed_after, draw}
use Rattle.qpu_machine.proofs.opening.draw_words.Given as goal

abbrev pub invariant-loop-i : goal.invariant-loop-i
invariant-loop-i l =
    (l.generator.state ≡ seed_after l.initial.generator.state l.i) × (length l.words ≡ 16) × ((k : ℕ) → k < l.i → lane l.words k ≡ draw l.initial.generator.state k)
