-- Signed quotients and remainders by those of the magnitudes.
use Rattle.std.proofs.Common.{◌≡◌, ℕ, zero, suc, ◌-◌, ◌/◌, ◌%◌, ◌^◌, ◌<◌, ◌≤◌, inl, inr, Bool, true, false, refl, sym, ap, ◌∙◌, arith}
use Rattle.std.specs.Prelude.{if◌then◌else◌, pos, negsuc, neg_ℤ, nat_abs, int_div, int_rem}
use Rattle.std.proofs.lemmas.Bool.{cases_lt, ne_eqb}
use Rattle.std.proofs.lemmas.Bool.Decides.{nat_tests}
use Rattle.std.proofs.lemmas.Int.{ints}
use Rattle.std.proofs.Math.Nat.{div-le_self, mod-le}
use Rattle.q_lane.specs.declared.operations.BinOp.TheVariants.{Sub, Shr}
use Rattle.q_lane.specs.declared.operations.UnOp.TheVariants.{Neg}
use Rattle.q_lane.specs.Numbers.{applied, applied_one, signed, word_of, quotient, remainder}
use Rattle.lane_ir.specs.LaneMeaning.{chosen}

-- 1 where a is negative, else 0
abbrev pub sign : ℕ → ℕ
sign a = applied Shr a 31

abbrev pub magnitude : ℕ → ℕ
magnitude a = chosen (sign a) (applied_one Neg a) a

pub sign-low : (a : ℕ) → a < 2 ^ 31 → sign a ≡ 0
unfolding applied
sign-low a h = omega (arith, h)

pub sign-high : (a : ℕ) → 2 ^ 31 ≤ a → a < 2 ^ 32 → sign a ≡ 1
unfolding applied
sign-high a h g = omega (arith, h, g)

pub neg-is : (a : ℕ) → 0 < a → a < 2 ^ 32 → applied_one Neg a ≡ 2 ^ 32 - a
unfolding applied_one
neg-is a h g = omega (arith, h, g)

pub neg-zero : applied_one Neg 0 ≡ 0
unfolding applied_one
neg-zero = refl

pub magnitude-low : (a : ℕ) → a < 2 ^ 31 → magnitude a ≡ a
magnitude-low a h = ap (λ x. chosen x (applied_one Neg a) a) (sign-low a h)

pub magnitude-high : (a : ℕ) → 2 ^ 31 ≤ a → a < 2 ^ 32 → magnitude a ≡ 2 ^ 32 - a
magnitude-high a h g = ap (λ x. chosen x (applied_one Neg a) a) (sign-high a h g) ∙ neg-is a (omega (arith, h)) g

pub magnitude-below : (a : ℕ) → a < 2 ^ 32 → magnitude a < 2 ^ 32
magnitude-below a h = elim (cases_lt a (2 ^ 31)) [
  | inl l ↦ let e = magnitude-low a l in omega (arith, e, h)
  | inr l ↦ let e = magnitude-high a l h in omega (arith, e, l)
]

signed-low : (a : ℕ) → a < 2 ^ 31 → signed a ≡ pos a
signed-low a h = omega (arith, ints)

signed-high : (a : ℕ) → 2 ^ 31 ≤ a → a < 2 ^ 32 → signed a ≡ negsuc (2 ^ 32 - 1 - a)
signed-high a h g = grind (arith, ints, nat_tests)

word-pos : (q : ℕ) → q < 2 ^ 32 → word_of (pos q) ≡ q
word-pos q h = omega (arith, h)

word-neg : (q : ℕ) → q < 2 ^ 32 → word_of (neg_ℤ (pos q)) ≡ applied_one Neg q
unfolding applied_one
word-neg zero h = refl
word-neg (suc q) h = omega (arith, h)

abbrev with_sign : ℕ → ℕ → ℕ
with_sign s q = chosen s (applied_one Neg q) q

by_zero : (s : Bool) (a : ℕ) → quotient s a 0 ≡ 0
unfolding quotient
by_zero true a = refl
by_zero false a = refl

left_by_zero : (s : Bool) (a : ℕ) → remainder s a 0 ≡ a
unfolding remainder
left_by_zero true a = refl
left_by_zero false a = refl

plain : (a b : ℕ) → 0 < b → quotient false a b ≡ a / b
unfolding quotient
plain a b h = ap (λ t. if t then 0 else a / b) (ne_eqb b 0 (λ e. omega (arith, e, h)))

plain_left : (a b : ℕ) → 0 < b → remainder false a b ≡ a % b
unfolding remainder
plain_left a b h = ap (λ t. if t then a else a % b) (ne_eqb b 0 (λ e. omega (arith, e, h)))

truncated : (a b : ℕ) → 0 < b → quotient true a b ≡ word_of (int_div (signed a) (signed b))
unfolding quotient
truncated a b h = ap (λ t. if t then 0 else word_of (int_div (signed a) (signed b))) (ne_eqb b 0 (λ e. omega (arith, e, h)))

truncated_left : (a b : ℕ) → 0 < b → remainder true a b ≡ word_of (int_rem (signed a) (signed b))
unfolding remainder
truncated_left a b h = ap (λ t. if t then a else word_of (int_rem (signed a) (signed b))) (ne_eqb b 0 (λ e. omega (arith, e, h)))

-- the quotient of the magnitudes, and its sign
module _ (a b : ℕ) (ha : a < 2 ^ 32) (hb : b < 2 ^ 32) where
  high-suc : (x : ℕ) → 2 ^ 31 ≤ x → x < 2 ^ 32 → suc (2 ^ 32 - 1 - x) ≡ 2 ^ 32 - x
  high-suc x h g = omega (arith, h, g)

  signs-are : (x y : ℕ) → sign a ≡ x → sign b ≡ y → applied Sub (sign a) (sign b) ≡ applied Sub x y
  signs-are x y e f = rw (e, f) refl

  nonzero_quotient : 0 < b → with_sign (applied Sub (sign a) (sign b)) (magnitude a / magnitude b) ≡ word_of (int_div (signed a) (signed b))
  unfolding applied
  nonzero_quotient p = elim (cases_lt a (2 ^ 31)) [
    | inl la ↦ elim (cases_lt b (2 ^ 31)) [
      | inl lb ↦
          let q : a / b < 2 ^ 32 = omega (arith, div-le_self a b, ha) in
          rw (magnitude-low a la, magnitude-low b lb, sign-low a la, sign-low b lb, signed-low a la, signed-low b lb) (sym (word-pos (a / b) q))
      | inr lb ↦
          let q : a / (2 ^ 32 - b) < 2 ^ 32 = omega (arith, div-le_self a (2 ^ 32 - b), ha) in
          rw (magnitude-low a la, magnitude-high b lb hb, sign-low a la, sign-high b lb hb, signed-low a la, signed-high b lb hb) (sym (ap (λ x. word_of (neg_ℤ (pos (a / x)))) (high-suc b lb hb) ∙ word-neg (a / (2 ^ 32 - b)) q))
    ]
    | inr la ↦ elim (cases_lt b (2 ^ 31)) [
      | inl lb ↦
          let q : (2 ^ 32 - a) / b < 2 ^ 32 = omega (arith, div-le_self (2 ^ 32 - a) b, la) in
          rw (magnitude-high a la ha, magnitude-low b lb, sign-high a la ha, sign-low b lb, signed-high a la ha, signed-low b lb) (sym (ap (λ x. word_of (neg_ℤ (pos (x / b)))) (high-suc a la ha) ∙ word-neg ((2 ^ 32 - a) / b) q))
      | inr lb ↦
          let q : (2 ^ 32 - a) / (2 ^ 32 - b) < 2 ^ 32 = omega (arith, div-le_self (2 ^ 32 - a) (2 ^ 32 - b), la) in
          rw (magnitude-high a la ha, magnitude-high b lb hb, sign-high a la ha, sign-high b lb hb, signed-high a la ha, signed-high b lb hb) (sym (ap (λ x. word_of (pos (x / suc (2 ^ 32 - 1 - b)))) (high-suc a la ha) ∙ ap (λ x. word_of (pos ((2 ^ 32 - a) / x))) (high-suc b lb hb) ∙ word-pos ((2 ^ 32 - a) / (2 ^ 32 - b)) q))
    ]
  ]

  abs-is : nat_abs (signed b) ≡ magnitude b
  abs-is = elim (cases_lt b (2 ^ 31)) [
    | inl lb ↦ rw (signed-low b lb, magnitude-low b lb) refl
    | inr lb ↦ rw (signed-high b lb hb, magnitude-high b lb hb) (high-suc b lb hb)
  ]

  nonzero_remainder : 0 < b → with_sign (sign a) (magnitude a % magnitude b) ≡ word_of (int_rem (signed a) (signed b))
  nonzero_remainder p = elim (cases_lt a (2 ^ 31)) [
    | inl la ↦
        let q : a % magnitude b < 2 ^ 32 = omega (arith, mod-le a (magnitude b), ha) in
        rw (magnitude-low a la, sign-low a la, signed-low a la, abs-is) (sym (word-pos (a % magnitude b) q))
    | inr la ↦
        let q : (2 ^ 32 - a) % magnitude b < 2 ^ 32 = omega (arith, mod-le (2 ^ 32 - a) (magnitude b), la) in
        rw (magnitude-high a la ha, sign-high a la ha, signed-high a la ha, abs-is) (sym (ap (λ x. word_of (neg_ℤ (pos (x % magnitude b)))) (high-suc a la ha) ∙ word-neg ((2 ^ 32 - a) % magnitude b) q))
  ]

  magnitude-positive : 0 < b → 0 < magnitude b
  magnitude-positive p = elim (cases_lt b (2 ^ 31)) [
    | inl lb ↦ let e = magnitude-low b lb in omega (arith, e, p)
    | inr lb ↦ let e = magnitude-high b lb hb in omega (arith, e, hb)
  ]

with_sign-zero : (s : ℕ) → with_sign s 0 ≡ 0
with_sign-zero zero = refl
with_sign-zero (suc s) = neg-zero

back : (a : ℕ) → a < 2 ^ 32 → with_sign (sign a) (magnitude a) ≡ a
back a h = elim (cases_lt a (2 ^ 31)) [
  | inl l ↦ rw (magnitude-low a l, sign-low a l) refl
  | inr l ↦ rw (magnitude-high a l h, sign-high a l h) (neg-is (2 ^ 32 - a) (omega (arith, h)) (omega (arith, l)) ∙ omega (arith, h))
]

pub signed_quotient : (a b q : ℕ) → a < 2 ^ 32 → b < 2 ^ 32 → quotient false (magnitude a) (magnitude b) ≡ q → chosen (applied Sub (sign a) (sign b)) (applied_one Neg q) q ≡ quotient true a b
signed_quotient a zero q ha hb e =
    let z : q ≡ 0 = sym e ∙ ap (quotient false (magnitude a)) (magnitude-low 0 (omega arith)) ∙ by_zero false (magnitude a) in
    rw (z, by_zero true a) (with_sign-zero (applied Sub (sign a) (sign 0)))
signed_quotient a (suc b) q ha hb e =
    let p : 0 < suc b = omega arith in
    ap (with_sign (applied Sub (sign a) (sign (suc b)))) (sym e ∙ plain (magnitude a) (magnitude (suc b)) (magnitude-positive a (suc b) ha hb p))
    ∙ nonzero_quotient a (suc b) ha hb p ∙ sym (truncated a (suc b) p)

pub signed_remainder : (a b r : ℕ) → a < 2 ^ 32 → b < 2 ^ 32 → remainder false (magnitude a) (magnitude b) ≡ r → chosen (sign a) (applied_one Neg r) r ≡ remainder true a b
signed_remainder a zero r ha hb e =
    let z : r ≡ magnitude a = sym e ∙ ap (remainder false (magnitude a)) (magnitude-low 0 (omega arith)) ∙ left_by_zero false (magnitude a) in
    rw (z, left_by_zero true a) (back a ha)
signed_remainder a (suc b) r ha hb e =
    let p : 0 < suc b = omega arith in
    ap (with_sign (sign a)) (sym e ∙ plain_left (magnitude a) (magnitude (suc b)) (magnitude-positive a (suc b) ha hb p))
    ∙ nonzero_remainder a (suc b) ha hb p ∙ sym (truncated_left a (suc b) p)
