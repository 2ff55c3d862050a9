use Rattle.std.proofs.Common.{◌≡◌, ◌==◌, ℕ, ◌<◌, ◌/◌, ◌%◌, ◌^◌, length, get_or, false}
use Rattle.qpu_machine.proofs.opening.flags_of.Given as goal

abbrev pub invariant-loop-i : goal.invariant-loop-i
invariant-loop-i l = (length l.flags ≡ 16) × ((k : ℕ) → k < l.i → get_or l.flags k false ≡ (l.word / 2 ^ k % 2 == 1))
