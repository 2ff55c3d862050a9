-- The accumulators of a word as bits.
use Rattle.std.proofs.Common.{◌≡◌, ◌+◌, ◌*◌, Bool, true, false, refl}
use Rattle.qpu_rules.specs.Uses.{bit, writes_acc, accs_written}
use Rattle.qpu_rules.specs.Restrictions.{has_acc, AccsAreBits}

bits_apart : (a b c d : Bool)
    → (has_acc (bit a + 2 * bit b + 4 * bit c + 8 * bit d) 0 ≡ a) × (has_acc (bit a + 2 * bit b + 4 * bit c + 8 * bit d) 1 ≡ b)
    × (has_acc (bit a + 2 * bit b + 4 * bit c + 8 * bit d) 2 ≡ c) × (has_acc (bit a + 2 * bit b + 4 * bit c + 8 * bit d) 3 ≡ d)
bits_apart false false false false = (refl, refl, refl, refl)
bits_apart false false false true = (refl, refl, refl, refl)
bits_apart false false true false = (refl, refl, refl, refl)
bits_apart false false true true = (refl, refl, refl, refl)
bits_apart false true false false = (refl, refl, refl, refl)
bits_apart false true false true = (refl, refl, refl, refl)
bits_apart false true true false = (refl, refl, refl, refl)
bits_apart false true true true = (refl, refl, refl, refl)
bits_apart true false false false = (refl, refl, refl, refl)
bits_apart true false false true = (refl, refl, refl, refl)
bits_apart true false true false = (refl, refl, refl, refl)
bits_apart true false true true = (refl, refl, refl, refl)
bits_apart true true false false = (refl, refl, refl, refl)
bits_apart true true false true = (refl, refl, refl, refl)
bits_apart true true true false = (refl, refl, refl, refl)
bits_apart true true true true = (refl, refl, refl, refl)

pub accs_are_bits : AccsAreBits
unfolding accs_written
accs_are_bits f = bits_apart (writes_acc 0 f) (writes_acc 1 f) (writes_acc 2 f) (writes_acc 3 f)
