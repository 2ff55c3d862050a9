-- Products of words that stand for whole numbers.
use Rattle.std.proofs.Common.{◌≡◌, ℕ, ◌+◌, ◌*◌, ◌-◌, ◌%◌, ◌^◌, ◌<◌, ◌≤◌, ◌⊎◌, inl, inr, refl, sym, ap, subst, ◌∙◌, arith}
use Rattle.std.specs.Prelude.{ℤ, pos, negsuc, ◌*ℤ◌, unsigned_abs, if◌then◌else◌}
use Rattle.std.specs.Int.{int_wrap, w32}
use Rattle.std.proofs.lemmas.Bool.{cases_lt, lt-ltb, le-ltb}
use Rattle.std.proofs.lemmas.Int.{int_wrap-mul_left, int_wrap-mul_right, int_wrap_fits, wrapping_mul-bits, fits_signed_mul}
use Rattle.q_lane.specs.declared.kinds.Scalar.TheVariants.{Char, Short, Int}
use Rattle.q_lane.specs.declared.operations.BinOp.TheVariants as op
use Rattle.q_lane.specs.Numbers.{applied, signed, word_of, shifted_down, narrowed}
use Rattle.q_lane.proofs.WordLaws.{narrowed-below}
use Rattle.q_functions.specs.declared.functions.NumberFunction.TheVariants.{Mul24, MulHi}
use Rattle.builtin_lower.proofs.Narrows.{signed-low, signed-high}
use Rattle.builtin_lower.proofs.Functions.{Right, word-signed}

-- a number as a word, read back
read_back : (z : ℤ) → signed (word_of z) ≡ int_wrap w32 z
unfolding int_wrap
read_back (pos n) = refl
read_back (negsuc n) = refl

below : (z : ℤ) → word_of z < 2 ^ 32
below (pos n) = omega arith
below (negsuc n) = omega arith

wrap-word : (z : ℤ) → word_of (int_wrap w32 z) ≡ word_of z
wrap-word z = ap word_of (sym (read_back z)) ∙ word-signed (word_of z) (below z)

product : (a b : ℕ) → a < 2 ^ 32 → b < 2 ^ 32 → applied op.Mul a b ≡ word_of (signed a *ℤ signed b)
unfolding applied
product a b h g = sym (word-signed (a * b % 2 ^ 32) (omega arith)) ∙ ap word_of (wrapping_mul-bits w32 a b h g) ∙ wrap-word (signed a *ℤ signed b)

-- the product of the words of two numbers is the word of their product
pub product_of : (x y : ℤ) → applied op.Mul (word_of x) (word_of y) ≡ word_of (x *ℤ y)
product_of x y =
    product (word_of x) (word_of y) (below x) (below y)
    ∙ (λ i. word_of (read_back x i *ℤ read_back y i))
    ∙ sym (wrap-word (int_wrap w32 x *ℤ int_wrap w32 y))
    ∙ ap word_of (int_wrap-mul_left w32 x (int_wrap w32 y) ∙ int_wrap-mul_right w32 x y)
    ∙ wrap-word (x *ℤ y)

-- ---- products of 24 bits

of_24 : (a b : ℕ)
    → applied op.Mul (applied op.Sar (applied op.Shl a 8) 8) (applied op.Sar (applied op.Shl b 8) 8)
    ≡ word_of (shifted_down (signed (a * 2 ^ 8 % 2 ^ 32)) 8 *ℤ shifted_down (signed (b * 2 ^ 8 % 2 ^ 32)) 8)
unfolding applied
of_24 a b = product_of (shifted_down (signed (a * 2 ^ 8 % 2 ^ 32)) 8) (shifted_down (signed (b * 2 ^ 8 % 2 ^ 32)) 8)

pub mul24_char : Right Mul24 Char
mul24_char w l x y a b c e f g = (λ i. applied op.Mul (applied op.Sar (applied op.Shl (e i) 8) 8) (applied op.Sar (applied op.Shl (f i) 8) 8)) ∙ of_24 (narrowed Char a) (narrowed Char b)

pub mul24_short : Right Mul24 Short
mul24_short w l x y a b c e f g = (λ i. applied op.Mul (applied op.Sar (applied op.Shl (e i) 8) 8) (applied op.Sar (applied op.Shl (f i) 8) 8)) ∙ of_24 (narrowed Short a) (narrowed Short b)

pub mul24_int : Right Mul24 Int
mul24_int w l x y a b c e f g = (λ i. applied op.Mul (applied op.Sar (applied op.Shl (e i) 8) 8) (applied op.Sar (applied op.Shl (f i) 8) 8)) ∙ of_24 (narrowed Int a) (narrowed Int b)

-- ---- high halves of narrow products

abs_small : (x : ℕ) → (x < 2 ^ 15) ⊎ ((2 ^ 32 - 2 ^ 15 ≤ x) × (x < 2 ^ 32)) → unsigned_abs (signed x) ≤ 2 ^ 15
abs_small x (inl h) = let e : unsigned_abs (signed x) ≡ x = ap unsigned_abs (signed-low x (omega (arith, h))) in omega (arith, e, h)
abs_small x (inr h) = let e : unsigned_abs (signed x) ≡ 2 ^ 32 - x = ap unsigned_abs (signed-high x (omega (arith, h.0)) h.1) ∙ omega (arith, h.0, h.1) in omega (arith, e, h.0)

small-char : (a : ℕ) → (narrowed Char a < 2 ^ 15) ⊎ ((2 ^ 32 - 2 ^ 15 ≤ narrowed Char a) × (narrowed Char a < 2 ^ 32))
unfolding narrowed
small-char a = elim (cases_lt (a % 2 ^ 8) (2 ^ 7)) [
  | inl h ↦ inl (subst (λ b. (if b then a % 2 ^ 8 else a % 2 ^ 8 + (2 ^ 32 - 2 ^ 8)) < 2 ^ 15) (sym (lt-ltb (a % 2 ^ 8) (2 ^ 7) h)) (omega arith))
  | inr h ↦ inr (subst (λ b. (2 ^ 32 - 2 ^ 15 ≤ (if b then a % 2 ^ 8 else a % 2 ^ 8 + (2 ^ 32 - 2 ^ 8))) × ((if b then a % 2 ^ 8 else a % 2 ^ 8 + (2 ^ 32 - 2 ^ 8)) < 2 ^ 32)) (sym (le-ltb (a % 2 ^ 8) (2 ^ 7) h)) (omega (arith, h), omega arith))
]

small-short : (a : ℕ) → (narrowed Short a < 2 ^ 15) ⊎ ((2 ^ 32 - 2 ^ 15 ≤ narrowed Short a) × (narrowed Short a < 2 ^ 32))
unfolding narrowed
small-short a = elim (cases_lt (a % 2 ^ 16) (2 ^ 15)) [
  | inl h ↦ inl (subst (λ b. (if b then a % 2 ^ 16 else a % 2 ^ 16 + (2 ^ 32 - 2 ^ 16)) < 2 ^ 15) (sym (lt-ltb (a % 2 ^ 16) (2 ^ 15) h)) (omega (arith, h)))
  | inr h ↦ inr (subst (λ b. (2 ^ 32 - 2 ^ 15 ≤ (if b then a % 2 ^ 16 else a % 2 ^ 16 + (2 ^ 32 - 2 ^ 16))) × ((if b then a % 2 ^ 16 else a % 2 ^ 16 + (2 ^ 32 - 2 ^ 16)) < 2 ^ 32)) (sym (le-ltb (a % 2 ^ 16) (2 ^ 15) h)) (omega (arith, h), omega arith))
]

exact : (a b : ℕ) → a < 2 ^ 32 → b < 2 ^ 32 → unsigned_abs (signed a) ≤ 2 ^ 15 → unsigned_abs (signed b) ≤ 2 ^ 15 → signed (applied op.Mul a b) ≡ signed a *ℤ signed b
exact a b h g p q =
    ap signed (product a b h g) ∙ read_back (signed a *ℤ signed b) ∙ int_wrap_fits w32 (signed a *ℤ signed b) (fits_signed_mul w32 (signed a) (signed b) (2 ^ 15) (2 ^ 15) p q (omega arith))

down_8 : (a : ℕ) → applied op.Sar a 8 ≡ word_of (shifted_down (signed a) 8)
unfolding applied
down_8 a = refl

down_16 : (a : ℕ) → applied op.Sar a 16 ≡ word_of (shifted_down (signed a) 16)
unfolding applied
down_16 a = refl

pub mul_hi_char : Right MulHi Char
mul_hi_char w l x y a b c e f g =
    (λ i. applied op.Sar (applied op.Mul (e i) (f i)) 8) ∙ down_8 (applied op.Mul (narrowed Char a) (narrowed Char b))
    ∙ ap (λ z. word_of (shifted_down z 8)) (exact (narrowed Char a) (narrowed Char b) (narrowed-below Char a) (narrowed-below Char b) (abs_small (narrowed Char a) (small-char a)) (abs_small (narrowed Char b) (small-char b)))

pub mul_hi_short : Right MulHi Short
mul_hi_short w l x y a b c e f g =
    (λ i. applied op.Sar (applied op.Mul (e i) (f i)) 16) ∙ down_16 (applied op.Mul (narrowed Short a) (narrowed Short b))
    ∙ ap (λ z. word_of (shifted_down z 16)) (exact (narrowed Short a) (narrowed Short b) (narrowed-below Short a) (narrowed-below Short b) (abs_small (narrowed Short a) (small-short a)) (abs_small (narrowed Short b) (small-short b)))
