-- Each turn takes a word out; a search from further on is followed by one from the start, and that by the end.
use Rattle.std.specs.Prelude.{◌≡◌, true, ◌+◌, ◌*◌, ◌<◌, ◌^◌, ◌==◌, if◌then◌else◌}
use Rattle.std.proofs.Common.{vec_len}
use Rattle.tight_words.specs.Tight.{IsTight}
use Rattle.delay_slots.proofs.turns.tighten.Given as goal

abbrev pub decreases-turns : goal.decreases-turns
decreases-turns l = 3 * vec_len l.words + ((if l.start == 0 then 0 else 1) + (if l.done then 0 else 1))

abbrev pub invariant-turns : goal.invariant-turns
invariant-turns l = (vec_len l.words < 2 ^ 32) × (l.done ≡ true → IsTight l.words.items)
