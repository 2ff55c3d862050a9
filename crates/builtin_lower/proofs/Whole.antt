-- Saturating sums of signed words of 32 bits.
use Rattle.std.proofs.Common.{◌≡◌, ℕ, ◌+◌, ◌-◌, ◌%◌, ◌^◌, ◌<◌, ◌≤◌, inl, inr, true, false, refl, sym, ap, ◌∙◌, arith}
use Rattle.std.specs.Prelude.{if◌then◌else◌, ℤ, pos, negsuc, int_lt, ◌-ℤ◌, ◌+ℤ◌, nat_lt}
use Rattle.std.proofs.lemmas.Bool.{cases_lt, lt-ltb, le-ltb}
use Rattle.q_lane.specs.declared.kinds.Scalar.TheVariants.{Int}
use Rattle.q_lane.specs.declared.operations.BinOp.TheVariants as op
use Rattle.q_lane.specs.Numbers.{applied, is_less, signed, word_of, narrowed}
use Rattle.q_lane.proofs.WordLaws.{narrowed-below, applied-below}
use Rattle.q_functions.specs.declared.functions.NumberFunction.TheVariants.{AddSat, SubSat}
use Rattle.builtin_lower.proofs.BuiltIns.{lesser, greater}
use Rattle.builtin_lower.proofs.Narrows.{signed-low, signed-high}
use Rattle.builtin_lower.proofs.Functions.{Right, diff-up, diff-down, diff-low, diff-high, diff-both_up, diff-both_down}
use Rattle.builtin_lower.proofs.More.{less-signs, more-signs}
use Rattle.builtin_lower.proofs.Saturates.{sum-up, sum-down, sum-up', sum-down', sum-both}

-- a number as the nearest word of 32 bits with a sign
abbrev nearest : ℤ → ℕ
nearest z = word_of (lesser (greater z (negsuc 2147483647)) (pos 2147483647))

pos-in : (n : ℕ) → n ≤ 2147483647 → nearest (pos n) ≡ n
pos-in n h = elim (cases_lt n 2147483647) [
  | inl l ↦ ap (λ b. word_of (if b then pos n else pos 2147483647)) (lt-ltb n 2147483647 l) ∙ omega (arith, l)
  | inr l ↦ ap (λ b. word_of (if b then pos n else pos 2147483647)) (le-ltb n 2147483647 l) ∙ omega (arith, h, l)
]

pos-out : (n : ℕ) → 2147483647 ≤ n → nearest (pos n) ≡ 2147483647
pos-out n h = ap (λ b. word_of (if b then pos n else pos 2147483647)) (le-ltb n 2147483647 h)

neg-in : (n : ℕ) → n ≤ 2147483647 → nearest (negsuc n) ≡ 2 ^ 32 - 1 - n
neg-in n h = ap (λ b. word_of (lesser (if b then negsuc 2147483647 else negsuc n) (pos 2147483647))) (le-ltb 2147483647 n h) ∙ omega (arith, h)

neg-out : (n : ℕ) → 2147483647 < n → nearest (negsuc n) ≡ 2147483648
neg-out n h = ap (λ b. word_of (lesser (if b then negsuc 2147483647 else negsuc n) (pos 2147483647))) (lt-ltb 2147483647 n h)

-- ---- signed compares
less-low : (x y : ℕ) → x < 2 ^ 31 → y < 2 ^ 31 → is_less true x y ≡ nat_lt x y
unfolding is_less
less-low x y h g = λ i. int_lt (signed-low x h i) (signed-low y g i)

less-high : (x y : ℕ) → 2 ^ 31 ≤ x → x < 2 ^ 32 → 2 ^ 31 ≤ y → y < 2 ^ 32 → is_less true x y ≡ nat_lt (2 ^ 32 - 1 - y) (2 ^ 32 - 1 - x)
unfolding is_less
less-high x y h h' g g' = λ i. int_lt (signed-high x h h' i) (signed-high y g g' i)

min-first : (x y : ℕ) → is_less true x y ≡ true → applied (op.Min true) x y ≡ x
unfolding applied
min-first x y e = ap (λ b. if b then x else y) e

min-second : (x y : ℕ) → is_less true x y ≡ false → applied (op.Min true) x y ≡ y
unfolding applied
min-second x y e = ap (λ b. if b then x else y) e

max-first : (x y : ℕ) → is_less true x y ≡ false → applied (op.Max true) x y ≡ x
unfolding applied
max-first x y e = ap (λ b. if b then y else x) e

max-second : (x y : ℕ) → is_less true x y ≡ true → applied (op.Max true) x y ≡ y
unfolding applied
max-second x y e = ap (λ b. if b then y else x) e

min_zero-low : (x : ℕ) → x < 2 ^ 31 → applied (op.Min true) x 0 ≡ 0
min_zero-low x h = min-second x 0 (less-low x 0 h (omega arith) ∙ le-ltb x 0 (omega arith))

min_zero-high : (x : ℕ) → 2 ^ 31 ≤ x → x < 2 ^ 32 → applied (op.Min true) x 0 ≡ x
min_zero-high x h g = min-first x 0 (more-signs x 0 h g (omega arith))

max_zero-low : (x : ℕ) → x < 2 ^ 31 → applied (op.Max true) x 0 ≡ x
max_zero-low x h = max-first x 0 (less-low x 0 h (omega arith) ∙ le-ltb x 0 (omega arith))

max_zero-high : (x : ℕ) → 2 ^ 31 ≤ x → x < 2 ^ 32 → applied (op.Max true) x 0 ≡ 0
max_zero-high x h g = max-second x 0 (more-signs x 0 h g (omega arith))

above-least : (y : ℕ) → y < 2 ^ 32 → applied (op.Max true) y 2147483648 ≡ y
above-least y h = elim (cases_lt y (2 ^ 31)) [
  | inl l ↦ max-first y 2147483648 (less-signs y 2147483648 l (omega arith) (omega arith))
  | inr l ↦ max-first y 2147483648 (less-high y 2147483648 l h (omega arith) (omega arith) ∙ le-ltb (2 ^ 32 - 1 - 2147483648) (2 ^ 32 - 1 - y) (omega (arith, l)))
]

below-greatest : (y : ℕ) → y < 2 ^ 32 → applied (op.Min true) y 2147483647 ≡ y
below-greatest y h = elim (cases_lt y (2 ^ 31)) [
  | inl l ↦ elim (cases_lt y 2147483647) [
    | inl p ↦ min-first y 2147483647 (less-low y 2147483647 l (omega arith) ∙ lt-ltb y 2147483647 p)
    | inr p ↦ min-second y 2147483647 (less-low y 2147483647 l (omega arith) ∙ le-ltb y 2147483647 p) ∙ omega (arith, l, p)
  ]
  | inr l ↦ min-first y 2147483647 (more-signs y 2147483647 l h (omega arith))
]

sub-word : (a b : ℕ) → applied op.Sub a b ≡ (a + (2 ^ 32 - b)) % 2 ^ 32
unfolding applied
sub-word a b = refl

add-word : (a b : ℕ) → applied op.Add a b ≡ (a + b) % 2 ^ 32
unfolding applied
add-word a b = refl

-- the second operand clamped to what the first leaves
abbrev added : ℕ → ℕ → ℕ
added x y = applied op.Add x (applied (op.Min true) (applied (op.Max true) y (applied op.Sub 2147483648 (applied (op.Min true) x 0))) (applied op.Sub 2147483647 (applied (op.Max true) x 0)))

added-low : (x y : ℕ) → x < 2 ^ 31 → y < 2 ^ 32 → added x y ≡ applied op.Add x (applied (op.Min true) y (2147483647 - x))
added-low x y h g =
    (λ i. applied op.Add x (applied (op.Min true) (applied (op.Max true) y (applied op.Sub 2147483648 (min_zero-low x h i))) (applied op.Sub 2147483647 (max_zero-low x h i))))
    ∙ (λ i. applied op.Add x (applied (op.Min true) (applied (op.Max true) y (none i)) (left i))) ∙ ap (λ z. applied op.Add x (applied (op.Min true) z (2147483647 - x))) (above-least y g)
  where
    none : applied op.Sub 2147483648 0 ≡ 2147483648
    none = sub-word 2147483648 0 ∙ omega arith

    left : applied op.Sub 2147483647 x ≡ 2147483647 - x
    left = sub-word 2147483647 x ∙ omega (arith, h)

max-below : (x y : ℕ) → x < 2 ^ 32 → y < 2 ^ 32 → applied (op.Max true) x y < 2 ^ 32
max-below x y h g = applied-below (op.Max true) x y h g

added-high : (x y : ℕ) → 2 ^ 31 ≤ x → x < 2 ^ 32 → y < 2 ^ 32 → added x y ≡ applied op.Add x (applied (op.Max true) y ((2147483648 + (2 ^ 32 - x)) % 2 ^ 32))
added-high x y h k g =
    (λ i. applied op.Add x (applied (op.Min true) (applied (op.Max true) y (applied op.Sub 2147483648 (min_zero-high x h k i))) (applied op.Sub 2147483647 (max_zero-high x h k i))))
    ∙ (λ i. applied op.Add x (applied (op.Min true) (applied (op.Max true) y (sub-word 2147483648 x i)) (left i)))
    ∙ ap (applied op.Add x) (below-greatest _ (max-below y ((2147483648 + (2 ^ 32 - x)) % 2 ^ 32) g (omega arith)))
  where
    left : applied op.Sub 2147483647 0 ≡ 2147483647
    left = sub-word 2147483647 0 ∙ omega arith

-- what the first operand leaves below, where it is negative
abbrev room : ℕ → ℕ
room x = (2147483648 + (2 ^ 32 - x)) % 2 ^ 32

not-less : (x y : ℕ) → 2 ^ 31 ≤ x → x < 2 ^ 32 → y < 2 ^ 31 → is_less true y (room x) ≡ false
not-less x y a h b = elim (cases_lt (2 ^ 31) x) [
  | inl p ↦ less-signs y (room x) b (omega (arith, p, h)) (omega arith)
  | inr p ↦ ap (is_less true y) (let e : room x ≡ 0 = omega (arith, p, a) in e) ∙ less-low y 0 b (omega arith) ∙ le-ltb y 0 (omega arith)
]

is-less : (x y : ℕ) → 2 ^ 31 ≤ x → x < 2 ^ 32 → 2 ^ 31 ≤ y → y < 2 ^ 32 → x + y < 2 ^ 32 + 2 ^ 31 → is_less true y (room x) ≡ true
is-less x y a h b g p = elim (cases_lt (2 ^ 31) x) [
  | inl q ↦ less-high y (room x) b g (omega (arith, q, h)) (omega arith) ∙ lt-ltb (2 ^ 32 - 1 - room x) (2 ^ 32 - 1 - y) (omega (arith, a, h, b, g, p, q))
  | inr q ↦ ap (is_less true y) (let e : room x ≡ 0 = omega (arith, q, a) in e) ∙ more-signs y 0 b g (omega arith)
]

isnt-less : (x y : ℕ) → 2 ^ 31 ≤ x → x < 2 ^ 32 → 2 ^ 31 ≤ y → y < 2 ^ 32 → 2 ^ 32 + 2 ^ 31 ≤ x + y → is_less true y (room x) ≡ false
isnt-less x y a h b g p = less-high y (room x) b g (omega (arith, p, g, h)) (omega arith) ∙ le-ltb (2 ^ 32 - 1 - room x) (2 ^ 32 - 1 - y) (omega (arith, a, h, b, g, p))

sum-right : (x y : ℕ) → x < 2 ^ 32 → y < 2 ^ 32 → added x y ≡ nearest (signed x +ℤ signed y)
sum-right x y h g = elim (cases_lt x (2 ^ 31)) [
  | inl a ↦ added-low x y a g ∙ elim (cases_lt y (2 ^ 31)) [
    | inl b ↦ elim (cases_lt y (2147483647 - x)) [
      | inl p ↦ ap (applied op.Add x) (min-first y (2147483647 - x) (less-low y (2147483647 - x) b (omega arith) ∙ lt-ltb y (2147483647 - x) p)) ∙ add-word x y ∙ (let e : (x + y) % 2 ^ 32 ≡ x + y = omega (arith, a, b) in e) ∙ sym (pos-in (x + y) (omega (arith, p))) ∙ (λ i. nearest (sym (signed-low x a) i +ℤ sym (signed-low y b) i))
      | inr p ↦ ap (applied op.Add x) (min-second y (2147483647 - x) (less-low y (2147483647 - x) b (omega arith) ∙ le-ltb y (2147483647 - x) p)) ∙ add-word x (2147483647 - x) ∙ (let e : (x + (2147483647 - x)) % 2 ^ 32 ≡ 2147483647 = omega (arith, a) in e) ∙ sym (pos-out (x + y) (omega (arith, p, a))) ∙ (λ i. nearest (sym (signed-low x a) i +ℤ sym (signed-low y b) i))
    ]
    | inr b ↦ ap (applied op.Add x) (min-first y (2147483647 - x) (more-signs y (2147483647 - x) b g (omega arith))) ∙ add-word x y ∙ elim (cases_lt (2 ^ 32 - 1 - y) x) [
      | inl p ↦ (let e : (x + y) % 2 ^ 32 ≡ x - (2 ^ 32 - 1 - y) - 1 = omega (arith, a, b, g, p) in e) ∙ sym (pos-in (x - (2 ^ 32 - 1 - y) - 1) (omega (arith, a))) ∙ ap nearest (sym (sum-up x (2 ^ 32 - 1 - y) p)) ∙ (λ i. nearest (sym (signed-low x a) i +ℤ sym (signed-high y b g) i))
      | inr p ↦ (let e : (x + y) % 2 ^ 32 ≡ 2 ^ 32 - 1 - (2 ^ 32 - 1 - y - x) = omega (arith, a, b, g, p) in e) ∙ sym (neg-in (2 ^ 32 - 1 - y - x) (omega (arith, b))) ∙ ap nearest (sym (sum-down x (2 ^ 32 - 1 - y) p)) ∙ (λ i. nearest (sym (signed-low x a) i +ℤ sym (signed-high y b g) i))
    ]
  ]
  | inr a ↦ added-high x y a h g ∙ elim (cases_lt y (2 ^ 31)) [
    | inl b ↦ ap (applied op.Add x) (max-first y ((2147483648 + (2 ^ 32 - x)) % 2 ^ 32) (not-less x y a h b)) ∙ add-word x y ∙ elim (cases_lt (2 ^ 32 - 1 - x) y) [
      | inl p ↦ (let e : (x + y) % 2 ^ 32 ≡ y - (2 ^ 32 - 1 - x) - 1 = omega (arith, a, h, b, p) in e) ∙ sym (pos-in (y - (2 ^ 32 - 1 - x) - 1) (omega (arith, b))) ∙ ap nearest (sym (sum-up' y (2 ^ 32 - 1 - x) p)) ∙ (λ i. nearest (sym (signed-high x a h) i +ℤ sym (signed-low y b) i))
      | inr p ↦ (let e : (x + y) % 2 ^ 32 ≡ 2 ^ 32 - 1 - (2 ^ 32 - 1 - x - y) = omega (arith, a, h, b, p) in e) ∙ sym (neg-in (2 ^ 32 - 1 - x - y) (omega (arith, a))) ∙ ap nearest (sym (sum-down' y (2 ^ 32 - 1 - x) p)) ∙ (λ i. nearest (sym (signed-high x a h) i +ℤ sym (signed-low y b) i))
    ]
    | inr b ↦ elim (cases_lt (x + y) (2 ^ 32 + 2 ^ 31)) [
      | inl p ↦ ap (applied op.Add x) (max-second y ((2147483648 + (2 ^ 32 - x)) % 2 ^ 32) (is-less x y a h b g p)) ∙ add-word x ((2147483648 + (2 ^ 32 - x)) % 2 ^ 32) ∙ (let e : (x + (2147483648 + (2 ^ 32 - x)) % 2 ^ 32) % 2 ^ 32 ≡ 2147483648 = omega (arith, a, h) in e) ∙ sym (neg-out (2 ^ 32 - 1 - x + (2 ^ 32 - 1 - y) + 1) (omega (arith, p, h, g))) ∙ ap nearest (sym (sum-both (2 ^ 32 - 1 - x) (2 ^ 32 - 1 - y))) ∙ (λ i. nearest (sym (signed-high x a h) i +ℤ sym (signed-high y b g) i))
      | inr p ↦ ap (applied op.Add x) (max-first y ((2147483648 + (2 ^ 32 - x)) % 2 ^ 32) (isnt-less x y a h b g p)) ∙ add-word x y ∙ (let e : (x + y) % 2 ^ 32 ≡ 2 ^ 32 - 1 - (2 ^ 32 - 1 - x + (2 ^ 32 - 1 - y) + 1) = omega (arith, a, h, b, g, p) in e) ∙ sym (neg-in (2 ^ 32 - 1 - x + (2 ^ 32 - 1 - y) + 1) (omega (arith, p, h, g))) ∙ ap nearest (sym (sum-both (2 ^ 32 - 1 - x) (2 ^ 32 - 1 - y))) ∙ (λ i. nearest (sym (signed-high x a h) i +ℤ sym (signed-high y b g) i))
    ]
  ]
]

pub add_sat_int : Right AddSat Int
add_sat_int w l x y a b c e f g = (λ i. added (e i) (f i)) ∙ sum-right (narrowed Int a) (narrowed Int b) (narrowed-below Int a) (narrowed-below Int b)

-- ---- differences

neg-last : (n : ℕ) → 2147483647 ≤ n → nearest (negsuc n) ≡ 2147483648
neg-last n h = elim (cases_lt 2147483647 n) [
  | inl l ↦ neg-out n l
  | inr l ↦ neg-in n l ∙ omega (arith, h, l)
]

pos-last : (n : ℕ) → 2147483647 ≤ n → nearest (pos n) ≡ 2147483647
pos-last n h = pos-out n h

max_ones-low : (x : ℕ) → x < 2 ^ 31 → applied (op.Max true) x 4294967295 ≡ x
max_ones-low x h = max-first x 4294967295 (less-signs x 4294967295 h (omega arith) (omega arith))

min_ones-low : (x : ℕ) → x < 2 ^ 31 → applied (op.Min true) x 4294967295 ≡ 4294967295
min_ones-low x h = min-second x 4294967295 (less-signs x 4294967295 h (omega arith) (omega arith))

max_ones-high : (x : ℕ) → 2 ^ 31 ≤ x → x < 2 ^ 32 → applied (op.Max true) x 4294967295 ≡ 4294967295
max_ones-high x h g = elim (cases_lt x 4294967295) [
  | inl p ↦ max-second x 4294967295 (less-high x 4294967295 h g (omega arith) (omega arith) ∙ lt-ltb (2 ^ 32 - 1 - 4294967295) (2 ^ 32 - 1 - x) (omega (arith, p)))
  | inr p ↦ max-first x 4294967295 (less-high x 4294967295 h g (omega arith) (omega arith) ∙ le-ltb (2 ^ 32 - 1 - 4294967295) (2 ^ 32 - 1 - x) (omega (arith, p))) ∙ omega (arith, p, g)
]

min_ones-high : (x : ℕ) → 2 ^ 31 ≤ x → x < 2 ^ 32 → applied (op.Min true) x 4294967295 ≡ x
min_ones-high x h g = elim (cases_lt x 4294967295) [
  | inl p ↦ min-first x 4294967295 (less-high x 4294967295 h g (omega arith) (omega arith) ∙ lt-ltb (2 ^ 32 - 1 - 4294967295) (2 ^ 32 - 1 - x) (omega (arith, p)))
  | inr p ↦ min-second x 4294967295 (less-high x 4294967295 h g (omega arith) (omega arith) ∙ le-ltb (2 ^ 32 - 1 - 4294967295) (2 ^ 32 - 1 - x) (omega (arith, p))) ∙ omega (arith, p, g)
]

abbrev taken : ℕ → ℕ → ℕ
taken x y = applied op.Sub x (applied (op.Min true) (applied (op.Max true) y (applied op.Sub (applied (op.Max true) x 4294967295) 2147483647)) (applied op.Sub (applied (op.Min true) x 4294967295) 2147483648))

abbrev room_low : ℕ → ℕ
room_low x = (x + (2 ^ 32 - 2147483647)) % 2 ^ 32

ones_less : applied op.Sub 4294967295 2147483648 ≡ 2147483647
ones_less = sub-word 4294967295 2147483648 ∙ omega arith

ones_more : applied op.Sub 4294967295 2147483647 ≡ 2147483648
ones_more = sub-word 4294967295 2147483647 ∙ omega arith

taken-low : (x y : ℕ) → x < 2 ^ 31 → y < 2 ^ 32 → taken x y ≡ applied op.Sub x (applied (op.Max true) y (room_low x))
taken-low x y h g =
    (λ i. applied op.Sub x (applied (op.Min true) (applied (op.Max true) y (applied op.Sub (max_ones-low x h i) 2147483647)) (applied op.Sub (min_ones-low x h i) 2147483648)))
    ∙ (λ i. applied op.Sub x (applied (op.Min true) (applied (op.Max true) y (sub-word x 2147483647 i)) (ones_less i)))
    ∙ ap (applied op.Sub x) (below-greatest _ (max-below y (room_low x) g (omega arith)))

room-high : (x : ℕ) → 2 ^ 31 ≤ x → x < 2 ^ 32 → applied op.Sub x 2147483648 ≡ x - 2147483648
room-high x h g = sub-word x 2147483648 ∙ omega (arith, h, g)

taken-high : (x y : ℕ) → 2 ^ 31 ≤ x → x < 2 ^ 32 → y < 2 ^ 32 → taken x y ≡ applied op.Sub x (applied (op.Min true) y (x - 2147483648))
taken-high x y h k g =
    (λ i. applied op.Sub x (applied (op.Min true) (applied (op.Max true) y (applied op.Sub (max_ones-high x h k i) 2147483647)) (applied op.Sub (min_ones-high x h k i) 2147483648)))
    ∙ (λ i. applied op.Sub x (applied (op.Min true) (applied (op.Max true) y (ones_more i)) (room-high x h k i)))
    ∙ ap (λ z. applied op.Sub x (applied (op.Min true) z (x - 2147483648))) (above-least y g)

keeps-low : (x y : ℕ) → x < 2 ^ 31 → y < 2 ^ 31 → is_less true y (room_low x) ≡ false
keeps-low x y h b = elim (cases_lt x 2147483647) [
  | inl p ↦ less-signs y (room_low x) b (omega (arith, p)) (omega arith)
  | inr p ↦ ap (is_less true y) (let e : room_low x ≡ 0 = omega (arith, p, h) in e) ∙ less-low y 0 b (omega arith) ∙ le-ltb y 0 (omega arith)
]

passes-low : (x y : ℕ) → x < 2 ^ 31 → 2 ^ 31 ≤ y → y < 2 ^ 32 → 2147483647 < x + (2 ^ 32 - y) → is_less true y (room_low x) ≡ true
passes-low x y h b g p = elim (cases_lt x 2147483647) [
  | inl q ↦ less-high y (room_low x) b g (omega (arith, q)) (omega arith) ∙ lt-ltb (2 ^ 32 - 1 - room_low x) (2 ^ 32 - 1 - y) (omega (arith, h, b, g, p, q))
  | inr q ↦ ap (is_less true y) (let e : room_low x ≡ 0 = omega (arith, q, h) in e) ∙ more-signs y 0 b g (omega arith)
]

stays-low : (x y : ℕ) → x < 2 ^ 31 → 2 ^ 31 ≤ y → y < 2 ^ 32 → x + (2 ^ 32 - y) ≤ 2147483647 → is_less true y (room_low x) ≡ false
stays-low x y h b g p = less-high y (room_low x) b g (omega (arith, p, g)) (omega arith) ∙ le-ltb (2 ^ 32 - 1 - room_low x) (2 ^ 32 - 1 - y) (omega (arith, h, b, g, p))

difference-right : (x y : ℕ) → x < 2 ^ 32 → y < 2 ^ 32 → taken x y ≡ nearest (signed x -ℤ signed y)
difference-right x y h g = elim (cases_lt x (2 ^ 31)) [
  | inl a ↦ taken-low x y a g ∙ elim (cases_lt y (2 ^ 31)) [
    | inl b ↦ ap (applied op.Sub x) (max-first y (room_low x) (keeps-low x y a b)) ∙ sub-word x y ∙ elim (cases_lt x y) [
      | inl p ↦ (let e : (x + (2 ^ 32 - y)) % 2 ^ 32 ≡ 2 ^ 32 - 1 - (y - x - 1) = omega (arith, a, b, p) in e) ∙ sym (neg-in (y - x - 1) (omega (arith, b))) ∙ ap nearest (sym (diff-down x y p)) ∙ (λ i. nearest (sym (signed-low x a) i -ℤ sym (signed-low y b) i))
      | inr p ↦ (let e : (x + (2 ^ 32 - y)) % 2 ^ 32 ≡ x - y = omega (arith, a, b, p) in e) ∙ sym (pos-in (x - y) (omega (arith, a))) ∙ ap nearest (sym (diff-up x y p)) ∙ (λ i. nearest (sym (signed-low x a) i -ℤ sym (signed-low y b) i))
    ]
    | inr b ↦ elim (cases_lt 2147483647 (x + (2 ^ 32 - y))) [
      | inl p ↦ ap (applied op.Sub x) (max-second y (room_low x) (passes-low x y a b g p)) ∙ sub-word x (room_low x) ∙ (let e : (x + (2 ^ 32 - room_low x)) % 2 ^ 32 ≡ 2147483647 = omega (arith, a) in e) ∙ sym (pos-last (x + (2 ^ 32 - 1 - y) + 1) (omega (arith, p, g))) ∙ ap nearest (sym (diff-high x (2 ^ 32 - 1 - y))) ∙ (λ i. nearest (sym (signed-low x a) i -ℤ sym (signed-high y b g) i))
      | inr p ↦ ap (applied op.Sub x) (max-first y (room_low x) (stays-low x y a b g p)) ∙ sub-word x y ∙ (let e : (x + (2 ^ 32 - y)) % 2 ^ 32 ≡ x + (2 ^ 32 - 1 - y) + 1 = omega (arith, a, b, g, p) in e) ∙ sym (pos-in (x + (2 ^ 32 - 1 - y) + 1) (omega (arith, p, g))) ∙ ap nearest (sym (diff-high x (2 ^ 32 - 1 - y))) ∙ (λ i. nearest (sym (signed-low x a) i -ℤ sym (signed-high y b g) i))
    ]
  ]
  | inr a ↦ taken-high x y a h g ∙ elim (cases_lt y (2 ^ 31)) [
    | inl b ↦ elim (cases_lt y (x - 2147483648)) [
      | inl p ↦ ap (applied op.Sub x) (min-first y (x - 2147483648) (less-low y (x - 2147483648) b (omega (arith, h)) ∙ lt-ltb y (x - 2147483648) p)) ∙ sub-word x y ∙ (let e : (x + (2 ^ 32 - y)) % 2 ^ 32 ≡ 2 ^ 32 - 1 - (2 ^ 32 - 1 - x + y) = omega (arith, a, h, b, p) in e) ∙ sym (neg-in (2 ^ 32 - 1 - x + y) (omega (arith, a, h, p))) ∙ ap nearest (sym (diff-low (2 ^ 32 - 1 - x) y)) ∙ (λ i. nearest (sym (signed-high x a h) i -ℤ sym (signed-low y b) i))
      | inr p ↦ ap (applied op.Sub x) (min-second y (x - 2147483648) (less-low y (x - 2147483648) b (omega (arith, h)) ∙ le-ltb y (x - 2147483648) p)) ∙ sub-word x (x - 2147483648) ∙ (let e : (x + (2 ^ 32 - (x - 2147483648))) % 2 ^ 32 ≡ 2147483648 = omega (arith, a, h) in e) ∙ sym (neg-last (2 ^ 32 - 1 - x + y) (omega (arith, a, h, p))) ∙ ap nearest (sym (diff-low (2 ^ 32 - 1 - x) y)) ∙ (λ i. nearest (sym (signed-high x a h) i -ℤ sym (signed-low y b) i))
    ]
    | inr b ↦ ap (applied op.Sub x) (min-first y (x - 2147483648) (more-signs y (x - 2147483648) b g (omega (arith, h)))) ∙ sub-word x y ∙ elim (cases_lt x y) [
      | inl p ↦ (let e : (x + (2 ^ 32 - y)) % 2 ^ 32 ≡ 2 ^ 32 - 1 - (2 ^ 32 - 1 - x - (2 ^ 32 - 1 - y) - 1) = omega (arith, a, h, b, g, p) in e) ∙ sym (neg-in (2 ^ 32 - 1 - x - (2 ^ 32 - 1 - y) - 1) (omega (arith, a))) ∙ ap nearest (sym (diff-both_down (2 ^ 32 - 1 - x) (2 ^ 32 - 1 - y) (omega (arith, p, g)))) ∙ (λ i. nearest (sym (signed-high x a h) i -ℤ sym (signed-high y b g) i))
      | inr p ↦ (let e : (x + (2 ^ 32 - y)) % 2 ^ 32 ≡ 2 ^ 32 - 1 - y - (2 ^ 32 - 1 - x) = omega (arith, a, h, b, g, p) in e) ∙ sym (pos-in (2 ^ 32 - 1 - y - (2 ^ 32 - 1 - x)) (omega (arith, b))) ∙ ap nearest (sym (diff-both_up (2 ^ 32 - 1 - x) (2 ^ 32 - 1 - y) (omega (arith, p)))) ∙ (λ i. nearest (sym (signed-high x a h) i -ℤ sym (signed-high y b g) i))
    ]
  ]
]

pub sub_sat_int : Right SubSat Int
sub_sat_int w l x y a b c e f g = (λ i. taken (e i) (f i)) ∙ difference-right (narrowed Int a) (narrowed Int b) (narrowed-below Int a) (narrowed-below Int b)
