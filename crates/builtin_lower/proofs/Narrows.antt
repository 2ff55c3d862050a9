-- Narrowing by shifts and masks.
use Rattle.std.proofs.Common.{◌≡◌, ℕ, ◌+◌, ◌*◌, ◌-◌, ◌/◌, ◌%◌, ◌^◌, ◌<◌, ◌≤◌, inl, inr, true, refl, sym, ap, ◌∙◌, arith}
use Rattle.std.specs.Prelude.{if◌then◌else◌, pos, negsuc}
use Rattle.std.proofs.lemmas.Bool.{cases_lt, lt-ltb, le-ltb}
use Rattle.std.proofs.lemmas.Bool.Decides.{nat_tests}
use Rattle.std.proofs.lemmas.Int.{ints}
use Rattle.std.proofs.lemmas.Nat.{and_mask}
use Rattle.builtin_lower.proofs.Orders.{copied}
use Rattle.q_lane.specs.declared.kinds.Scalar.TheVariants.{Char, Uchar, Short, Ushort, Int, Uint}
use Rattle.q_lane.specs.declared.operations.BinOp.TheVariants as op
use Rattle.q_lane.specs.Numbers.{applied, signed, word_of, shifted_down, narrowed}

pub signed-low : (a : ℕ) → a < 2 ^ 31 → signed a ≡ pos a
signed-low a h = omega (arith, ints)

pub signed-high : (a : ℕ) → 2 ^ 31 ≤ a → a < 2 ^ 32 → signed a ≡ negsuc (2 ^ 32 - 1 - a)
signed-high a h g = grind (arith, ints, nat_tests)

-- an arithmetic shift of a word
pub sar-low : (a n : ℕ) → a < 2 ^ 31 → word_of (shifted_down (signed a) n) ≡ a / 2 ^ n % 2 ^ 32
sar-low a n h = ap (λ z. word_of (shifted_down z n)) (signed-low a h) ∙ refl

pub sar-high : (a n : ℕ) → 2 ^ 31 ≤ a → a < 2 ^ 32 → word_of (shifted_down (signed a) n) ≡ 2 ^ 32 - 1 - (2 ^ 32 - 1 - a) / 2 ^ n % 2 ^ 32
sar-high a n h g = ap (λ z. word_of (shifted_down z n)) (signed-high a h g) ∙ refl

-- the low bits shifted up and down again
pub char_word : (a : ℕ) → applied op.Sar (applied op.Shl a 24) 24 ≡ narrowed Char a
unfolding applied narrowed
char_word a = elim (cases_lt (a % 2 ^ 8) (2 ^ 7)) [
  | inl h ↦ sar-low (a * 2 ^ 24 % 2 ^ 32) 24 (omega (arith, h)) ∙ (let e : a * 2 ^ 24 % 2 ^ 32 / 2 ^ 24 % 2 ^ 32 ≡ a % 2 ^ 8 = omega arith in e) ∙ sym (ap (λ b. if b then a % 2 ^ 8 else a % 2 ^ 8 + (2 ^ 32 - 2 ^ 8)) (lt-ltb (a % 2 ^ 8) (2 ^ 7) h))
  | inr h ↦ sar-high (a * 2 ^ 24 % 2 ^ 32) 24 (omega (arith, h)) (omega arith) ∙ (let e : 2 ^ 32 - 1 - (2 ^ 32 - 1 - a * 2 ^ 24 % 2 ^ 32) / 2 ^ 24 % 2 ^ 32 ≡ a % 2 ^ 8 + (2 ^ 32 - 2 ^ 8) = omega (arith, h) in e) ∙ sym (ap (λ b. if b then a % 2 ^ 8 else a % 2 ^ 8 + (2 ^ 32 - 2 ^ 8)) (le-ltb (a % 2 ^ 8) (2 ^ 7) h))
]

pub short_word : (a : ℕ) → applied op.Sar (applied op.Shl a 16) 16 ≡ narrowed Short a
unfolding applied narrowed
short_word a = elim (cases_lt (a % 2 ^ 16) (2 ^ 15)) [
  | inl h ↦ sar-low (a * 2 ^ 16 % 2 ^ 32) 16 (omega (arith, h)) ∙ (let e : a * 2 ^ 16 % 2 ^ 32 / 2 ^ 16 % 2 ^ 32 ≡ a % 2 ^ 16 = omega arith in e) ∙ sym (ap (λ b. if b then a % 2 ^ 16 else a % 2 ^ 16 + (2 ^ 32 - 2 ^ 16)) (lt-ltb (a % 2 ^ 16) (2 ^ 15) h))
  | inr h ↦ sar-high (a * 2 ^ 16 % 2 ^ 32) 16 (omega (arith, h)) (omega arith) ∙ (let e : 2 ^ 32 - 1 - (2 ^ 32 - 1 - a * 2 ^ 16 % 2 ^ 32) / 2 ^ 16 % 2 ^ 32 ≡ a % 2 ^ 16 + (2 ^ 32 - 2 ^ 16) = omega (arith, h) in e) ∙ sym (ap (λ b. if b then a % 2 ^ 16 else a % 2 ^ 16 + (2 ^ 32 - 2 ^ 16)) (le-ltb (a % 2 ^ 16) (2 ^ 15) h))
]

pub uchar_word : (a : ℕ) → applied op.And a 255 ≡ narrowed Uchar a
unfolding applied narrowed
uchar_word a = and_mask a 8

pub ushort_word : (a : ℕ) → applied op.And a 65535 ≡ narrowed Ushort a
unfolding applied narrowed
ushort_word a = and_mask a 16

pub whole_word : (a : ℕ) → a < 2 ^ 32 → (applied (op.Min true) a a ≡ narrowed Int a) × (applied (op.Min true) a a ≡ narrowed Uint a)
unfolding narrowed
whole_word a h = (copied a ∙ omega (arith, h), copied a ∙ omega (arith, h))
