-- Turns, products of 24 bits and sums that stay within 32 bits without a sign.
use Rattle.std.proofs.Common.{◌≡◌, ℕ, ◌+◌, ◌*◌, ◌-◌, ◌/◌, ◌%◌, ◌^◌, ◌<◌, ◌≤◌, true, refl, ap, ◌∙◌, arith}
use Rattle.std.specs.Prelude.{if◌then◌else◌, pos, nat_lt}
use Rattle.std.proofs.lemmas.Nat.{and_mask, shr-shr}
use Rattle.q_lane.specs.declared.kinds.Scalar.{Scalar}
use Rattle.q_lane.specs.declared.kinds.Scalar.TheVariants.{Char, Uchar, Short, Ushort, Int, Uint}
use Rattle.q_lane.specs.declared.operations.BinOp.TheVariants as op
use Rattle.q_lane.specs.Numbers.{applied, word_of, narrowed}
use Rattle.q_lane.proofs.WordLaws.{narrowed-below}
use Rattle.q_functions.specs.declared.functions.NumberFunction.TheVariants.{Mul24, Rotate}
use Rattle.builtin_lower.proofs.Orders.{copied}
use Rattle.builtin_lower.proofs.Narrows.{char_word, uchar_word, short_word, ushort_word, whole_word}
use Rattle.builtin_lower.proofs.Functions.{Right}

mul24-word : (a b : ℕ) → applied op.Mul24 a b ≡ word_of (pos (a % 2 ^ 24 * (b % 2 ^ 24)))
unfolding applied
mul24-word a b = refl

pub mul24_uchar : Right Mul24 Uchar
mul24_uchar w l x y a b c e f g = (λ i. applied op.Mul24 (e i) (f i)) ∙ mul24-word (narrowed Uchar a) (narrowed Uchar b)

pub mul24_ushort : Right Mul24 Ushort
mul24_ushort w l x y a b c e f g = (λ i. applied op.Mul24 (e i) (f i)) ∙ mul24-word (narrowed Ushort a) (narrowed Ushort b)

pub mul24_uint : Right Mul24 Uint
mul24_uint w l x y a b c e f g = (λ i. applied op.Mul24 (e i) (f i)) ∙ mul24-word (narrowed Uint a) (narrowed Uint b)

-- what a turn computes of the low bits v and the amount n, with w - 1 as m
abbrev turn_by : ℕ → ℕ → ℕ → ℕ
turn_by m v n = applied op.Add (applied op.Shl v n) (applied op.Shr (applied op.Shr v (applied op.Sub m n)) 1)

turn-sum : (m v n : ℕ) → n ≤ m → m < 32 → turn_by m v n ≡ (v * 2 ^ n + v / 2 ^ (m + 1 - n)) % 2 ^ 32
unfolding applied
turn-sum m v n h k =
    let a : n % 32 ≡ n = omega (arith, h, k) in
    let b : (m + (2 ^ 32 - n)) % 2 ^ 32 % 32 ≡ m - n = omega (arith, h, k) in
    let d : m - n + 1 ≡ m + 1 - n = omega (arith, h) in
    (λ i. (v * 2 ^ a i % 2 ^ 32 + v / 2 ^ b i / 2 ^ 1) % 2 ^ 32)
    ∙ ap (λ z. (v * 2 ^ n % 2 ^ 32 + z) % 2 ^ 32) (shr-shr v (m - n) 1 ∙ ap (λ z. v / 2 ^ z) d)
    ∙ parts (v * 2 ^ n) (v / 2 ^ (m + 1 - n))
  where
    parts : (x z : ℕ) → (x % 2 ^ 32 + z) % 2 ^ 32 ≡ (x + z) % 2 ^ 32
    parts x z = omega arith

low_8 : (a : ℕ) → applied op.And a 255 ≡ a % 2 ^ 8
unfolding applied
low_8 a = and_mask a 8

low_16 : (a : ℕ) → applied op.And a 65535 ≡ a % 2 ^ 16
unfolding applied
low_16 a = and_mask a 16

amount_8 : (a : ℕ) → applied op.And a 7 ≡ a % 8
unfolding applied
amount_8 a = and_mask a 3

amount_16 : (a : ℕ) → applied op.And a 15 ≡ a % 16
unfolding applied
amount_16 a = and_mask a 4

amount_32 : (a : ℕ) → applied op.And a 31 ≡ a % 32
unfolding applied
amount_32 a = and_mask a 5

add-below : (a b : ℕ) → applied op.Add a b < 2 ^ 32
unfolding applied
add-below a b = omega arith

-- the word of a type hangs on the low bits alone
char_low : (v : ℕ) → narrowed Char (v % 2 ^ 32) ≡ narrowed Char (v % 2 ^ 8)
unfolding narrowed
char_low v = let e : v % 2 ^ 32 % 2 ^ 8 ≡ v % 2 ^ 8 % 2 ^ 8 = omega arith in ap (λ r. if nat_lt r (2 ^ 7) then r else r + (2 ^ 32 - 2 ^ 8)) e

short_low : (v : ℕ) → narrowed Short (v % 2 ^ 32) ≡ narrowed Short (v % 2 ^ 16)
unfolding narrowed
short_low v = let e : v % 2 ^ 32 % 2 ^ 16 ≡ v % 2 ^ 16 % 2 ^ 16 = omega arith in ap (λ r. if nat_lt r (2 ^ 15) then r else r + (2 ^ 32 - 2 ^ 16)) e

uchar_low : (v : ℕ) → narrowed Uchar (v % 2 ^ 32) ≡ narrowed Uchar (v % 2 ^ 8)
unfolding narrowed
uchar_low v = omega arith

ushort_low : (v : ℕ) → narrowed Ushort (v % 2 ^ 32) ≡ narrowed Ushort (v % 2 ^ 16)
unfolding narrowed
ushort_low v = omega arith

whole-mod : (t : Scalar) (a : ℕ) → narrowed t a ≡ narrowed t a % 2 ^ 32
whole-mod t a = let h = narrowed-below t a in omega (arith, h)

turn-same : (m a v b n : ℕ) → a ≡ v → b ≡ n → turn_by m a b ≡ turn_by m v n
turn-same m a v b n e f = λ i. turn_by m (e i) (f i)

pub rotate_right : (t : Scalar) → Right Rotate t
rotate_right Char w l x y a b c e f g =
    copied _ ∙ char_word (turn_by 7 (applied op.And (y 0) 255) (applied op.And (y 1) 7))
    ∙ ap (narrowed Char) (turn-same 7 _ _ _ _ (low_8 (y 0) ∙ ap (λ z. z % 2 ^ 8) e) (amount_8 (y 1) ∙ ap (λ z. z % 8) f) ∙ turn-sum 7 (narrowed Char a % 2 ^ 8) (narrowed Char b % 8) (omega arith) (omega arith)) ∙ char_low _
rotate_right Uchar w l x y a b c e f g =
    copied _ ∙ uchar_word (turn_by 7 (applied op.And (y 0) 255) (applied op.And (y 1) 7))
    ∙ ap (narrowed Uchar) (turn-same 7 _ _ _ _ (low_8 (y 0) ∙ ap (λ z. z % 2 ^ 8) e) (amount_8 (y 1) ∙ ap (λ z. z % 8) f) ∙ turn-sum 7 (narrowed Uchar a % 2 ^ 8) (narrowed Uchar b % 8) (omega arith) (omega arith)) ∙ uchar_low _
rotate_right Short w l x y a b c e f g =
    copied _ ∙ short_word (turn_by 15 (applied op.And (y 0) 65535) (applied op.And (y 1) 15))
    ∙ ap (narrowed Short) (turn-same 15 _ _ _ _ (low_16 (y 0) ∙ ap (λ z. z % 2 ^ 16) e) (amount_16 (y 1) ∙ ap (λ z. z % 16) f) ∙ turn-sum 15 (narrowed Short a % 2 ^ 16) (narrowed Short b % 16) (omega arith) (omega arith)) ∙ short_low _
rotate_right Ushort w l x y a b c e f g =
    copied _ ∙ ushort_word (turn_by 15 (applied op.And (y 0) 65535) (applied op.And (y 1) 15))
    ∙ ap (narrowed Ushort) (turn-same 15 _ _ _ _ (low_16 (y 0) ∙ ap (λ z. z % 2 ^ 16) e) (amount_16 (y 1) ∙ ap (λ z. z % 16) f) ∙ turn-sum 15 (narrowed Ushort a % 2 ^ 16) (narrowed Ushort b % 16) (omega arith) (omega arith)) ∙ ushort_low _
rotate_right Int w l x y a b c e f g =
    copied _ ∙ (whole_word (turn_by 31 (applied (op.Min true) (y 0) (y 0)) (applied op.And (y 1) 31)) (add-below _ _)).0
    ∙ ap (narrowed Int) (turn-same 31 _ _ _ _ (copied (y 0) ∙ e ∙ whole-mod Int a) (amount_32 (y 1) ∙ ap (λ z. z % 32) f) ∙ turn-sum 31 (narrowed Int a % 2 ^ 32) (narrowed Int b % 32) (omega arith) (omega arith))
rotate_right Uint w l x y a b c e f g =
    copied _ ∙ (whole_word (turn_by 31 (applied (op.Min true) (y 0) (y 0)) (applied op.And (y 1) 31)) (add-below _ _)).1
    ∙ ap (narrowed Uint) (turn-same 31 _ _ _ _ (copied (y 0) ∙ e ∙ whole-mod Uint a) (amount_32 (y 1) ∙ ap (λ z. z % 32) f) ∙ turn-sum 31 (narrowed Uint a % 2 ^ 32) (narrowed Uint b % 32) (omega arith) (omega arith))
