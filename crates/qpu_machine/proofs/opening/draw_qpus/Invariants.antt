use Rattle.std.proofs.Common.{◌≡◌, ◌*◌, map}
use Rattle.std.specs.List.{range_with_len}
use Rattle.qpu_machine.specs.Schedules.{seed_after}
use Rattle.qpu_machine.specs.Opening.{drawn_regs, opening_qpu, numbers_each}
use Rattle.qpu_machine.proofs.opening.draw_qpus.Given as goal

abbrev pub invariant-loop-index : goal.invariant-loop-index
invariant-loop-index l =
    (l.generator.state ≡ seed_after l.initial.generator.state (numbers_each * l._index))
    × (l.qpus.items ≡ map (λ k. opening_qpu (drawn_regs l.initial.generator.state (numbers_each * k))) (range_with_len 0 l._index))
