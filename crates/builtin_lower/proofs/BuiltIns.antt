-- What the built-in functions give, by tests of the order in which the recipes stand: that this is what they give.
use Rattle.std.proofs.Common.{◌≡◌, ℕ, ◌+◌, ◌-◌, ◌*◌, ◌/◌, ◌%◌, ◌^◌, ◌<◌, ◌≤◌, inl, inr, refl, sym, ap, ◌∙◌, arith, ℤ, pos, negsuc}
use Rattle.std.specs.Prelude.{if◌then◌else◌, nat_lt, count_ones, int_lt, ◌+ℤ◌, ◌-ℤ◌, ◌*ℤ◌, unsigned_abs}
use Rattle.std.specs.Int.{int_min, int_max}
use Rattle.std.specs.Int.Count.{count_leading_zeros}
use Rattle.std.proofs.lemmas.Bool.{cases_lt, lt-ltb, le-ltb}
use Rattle.std.proofs.lemmas.Int.{ints}
use Rattle.q_lane.specs.declared.kinds.Scalar.{Scalar}
use Rattle.q_lane.specs.declared.kinds.Scalar.TheVariants.{Char, Uchar, Short, Ushort, Int, Uint}
use Rattle.q_lane.specs.Numbers.{signed, word_of, shifted_down, width, extended, narrowed}
use Rattle.q_functions.specs.declared.functions.NumberFunction.{NumberFunction}
use Rattle.q_functions.specs.declared.functions.NumberFunction.TheVariants.{Min, Max, Clamp, Abs, AbsDiff, Mul24, MulHi, Rotate, Clz, Popcount, AddSat, SubSat}
use Rattle.q_functions.specs.NumberFunctions.{is_signed, number, least, greatest, low_bits, turned, clamped as given_clamped, low_24 as given_24, built_in as given}
use Rattle.builtin_lower.proofs.Narrows.{signed-low, signed-high}

abbrev pub lesser : ℤ → ℤ → ℤ
lesser x y = if int_lt x y then x else y

abbrev pub greater : ℤ → ℤ → ℤ
greater x y = if int_lt x y then y else x

abbrev pub clamped : ℤ → ℤ → ℤ → ℤ
clamped x lo hi = lesser (greater x lo) hi

-- how far two numbers are apart
abbrev pub apart : ℤ → ℤ → ℤ
apart x y = if int_lt x y then y -ℤ x else x -ℤ y

abbrev pub low_24 : Scalar → ℕ → ℤ
low_24 t a = if is_signed t then shifted_down (signed (a * 2 ^ 8 % 2 ^ 32)) 8 else pos (a % 2 ^ 24)

abbrev pub built_in : NumberFunction → Scalar → ℕ → ℕ → ℕ → ℕ
built_in Min t x y z = word_of (lesser (number t x) (number t y))
built_in Max t x y z = word_of (greater (number t x) (number t y))
built_in Clamp t x y z = word_of (clamped (number t x) (number t y) (number t z))
built_in Abs t x y z = word_of (apart (number t x) (pos 0))
built_in AbsDiff t x y z = word_of (apart (number t x) (number t y))
built_in Mul24 t x y z = word_of (low_24 t x *ℤ low_24 t y)
built_in MulHi t x y z = word_of (shifted_down (number t x *ℤ number t y) (width t))
built_in Rotate t x y z = narrowed t (turned (width t) (low_bits t x) (y % width t))
built_in Clz t x y z = count_leading_zeros (width t) (low_bits t x)
built_in Popcount t x y z = count_ones (low_bits t x)
built_in AddSat t x y z = word_of (clamped (number t x +ℤ number t y) (least t) (greatest t))
built_in SubSat t x y z = word_of (clamped (number t x -ℤ number t y) (least t) (greatest t))

-- ---- orders

-- the one of two that is the lesser, and the one that is the greater, whichever test is asked
the_lesser : (f : ℕ → ℤ) (a b : ℕ) → (if nat_lt a b then f a else f b) ≡ (if nat_lt b a then f b else f a)
the_lesser f a b = elim (cases_lt a b) [
  | inl h ↦ ap (λ t. if t then f a else f b) (lt-ltb a b h) ∙ sym (ap (λ t. if t then f b else f a) (le-ltb b a (omega (arith, h))))
  | inr h ↦ ap (λ t. if t then f a else f b) (le-ltb a b h) ∙ elim (cases_lt b a) [
    | inl g ↦ sym (ap (λ t. if t then f b else f a) (lt-ltb b a g))
    | inr g ↦ ap f (let e : b ≡ a = omega (arith, h, g) in e) ∙ sym (ap (λ t. if t then f b else f a) (le-ltb b a g))
  ]
]

the_greater : (f : ℕ → ℤ) (a b : ℕ) → (if nat_lt a b then f b else f a) ≡ (if nat_lt b a then f a else f b)
the_greater f a b = elim (cases_lt a b) [
  | inl h ↦ ap (λ t. if t then f b else f a) (lt-ltb a b h) ∙ sym (ap (λ t. if t then f a else f b) (le-ltb b a (omega (arith, h))))
  | inr h ↦ ap (λ t. if t then f b else f a) (le-ltb a b h) ∙ elim (cases_lt b a) [
    | inl g ↦ sym (ap (λ t. if t then f a else f b) (lt-ltb b a g))
    | inr g ↦ ap f (let e : a ≡ b = omega (arith, h, g) in e) ∙ sym (ap (λ t. if t then f a else f b) (le-ltb b a g))
  ]
]

lesser-is : (x y : ℤ) → lesser x y ≡ int_min x y
lesser-is (pos a) (pos b) = the_lesser pos a b
lesser-is (pos a) (negsuc b) = refl
lesser-is (negsuc a) (pos b) = refl
lesser-is (negsuc a) (negsuc b) = the_greater negsuc b a

greater-is : (x y : ℤ) → greater x y ≡ int_max x y
greater-is (pos a) (pos b) = the_greater pos a b
greater-is (pos a) (negsuc b) = refl
greater-is (negsuc a) (pos b) = refl
greater-is (negsuc a) (negsuc b) = the_lesser negsuc b a

clamped-is : (x lo hi : ℤ) → clamped x lo hi ≡ given_clamped x lo hi
clamped-is x lo hi = lesser-is (greater x lo) hi ∙ ap (λ z. int_min z hi) (greater-is x lo)

-- ---- sizes

signed-size : (x : ℕ) → x < 2 ^ 32 → unsigned_abs (signed x) < 2 ^ 32
signed-size x h = omega (arith, ints)

number-size : (t : Scalar) (x : ℕ) → x < 2 ^ 32 → unsigned_abs (number t x) < 2 ^ 32
number-size Char x h = signed-size x h
number-size Uchar x h = h
number-size Short x h = signed-size x h
number-size Ushort x h = h
number-size Int x h = signed-size x h
number-size Uint x h = h

size-word : (z : ℤ) → unsigned_abs z < 2 ^ 32 → word_of (apart z (pos 0)) ≡ unsigned_abs z
size-word (pos n) h = ap (λ t. word_of (if t then pos 0 -ℤ pos n else pos n -ℤ pos 0)) (le-ltb n 0 (omega arith)) ∙ omega (arith, ints, h)
size-word (negsuc n) h = omega (arith, ints, h)

up : (a b : ℕ) → b ≤ a → pos a -ℤ pos b ≡ pos (a - b)
up a b h = omega (arith, ints, h)

down : (a b : ℕ) → a < b → pos a -ℤ pos b ≡ negsuc (b - a - 1)
down a b h = omega (arith, ints, h)

up-below_zero : (a b : ℕ) → a ≤ b → negsuc a -ℤ negsuc b ≡ pos (b - a)
up-below_zero a b h = omega (arith, ints, h)

down-below_zero : (a b : ℕ) → b < a → negsuc a -ℤ negsuc b ≡ negsuc (a - b - 1)
down-below_zero a b h = omega (arith, ints, h)

word-small : (n : ℕ) → n < 2 ^ 32 → word_of (pos n) ≡ n
word-small n h = omega (arith, h)

size-below_zero : (n m : ℕ) → m < n → unsigned_abs (negsuc (n - m - 1)) ≡ n - m
size-below_zero n m h = omega (arith, h)

apart-pos : (a b : ℕ) → a < 2 ^ 32 → b < 2 ^ 32 → word_of (apart (pos a) (pos b)) ≡ unsigned_abs (pos a -ℤ pos b)
apart-pos a b h g = elim (cases_lt a b) [
  | inl l ↦ ap (λ t. word_of (if t then pos b -ℤ pos a else pos a -ℤ pos b)) (lt-ltb a b l) ∙ ap word_of (up b a (omega (arith, l))) ∙ word-small (b - a) (omega (arith, g)) ∙ sym (ap unsigned_abs (down a b l) ∙ size-below_zero b a l)
  | inr l ↦ ap (λ t. word_of (if t then pos b -ℤ pos a else pos a -ℤ pos b)) (le-ltb a b l) ∙ ap word_of (up a b l) ∙ word-small (a - b) (omega (arith, h)) ∙ sym (ap unsigned_abs (up a b l))
]

apart-neg : (a b : ℕ) → a < 2 ^ 31 → b < 2 ^ 31 → word_of (apart (negsuc a) (negsuc b)) ≡ unsigned_abs (negsuc a -ℤ negsuc b)
apart-neg a b h g = elim (cases_lt b a) [
  | inl l ↦ ap (λ t. word_of (if t then negsuc b -ℤ negsuc a else negsuc a -ℤ negsuc b)) (lt-ltb b a l) ∙ ap word_of (up-below_zero b a (omega (arith, l))) ∙ word-small (a - b) (omega (arith, h)) ∙ sym (ap unsigned_abs (down-below_zero a b l) ∙ size-below_zero a b l)
  | inr l ↦ ap (λ t. word_of (if t then negsuc b -ℤ negsuc a else negsuc a -ℤ negsuc b)) (le-ltb b a l) ∙ ap word_of (up-below_zero a b l) ∙ word-small (b - a) (omega (arith, g)) ∙ sym (ap unsigned_abs (up-below_zero a b l))
]

apart-signed : (x y : ℕ) → x < 2 ^ 32 → y < 2 ^ 32 → word_of (apart (signed x) (signed y)) ≡ unsigned_abs (signed x -ℤ signed y)
apart-signed x y h g = elim (cases_lt x (2 ^ 31)) [
  | inl a ↦ elim (cases_lt y (2 ^ 31)) [
    | inl b ↦ (λ i. word_of (apart (signed-low x a i) (signed-low y b i))) ∙ apart-pos x y h g ∙ sym (λ i. unsigned_abs (signed-low x a i -ℤ signed-low y b i))
    | inr b ↦ (λ i. word_of (apart (signed-low x a i) (signed-high y b g i))) ∙ (let e : word_of (pos x -ℤ negsuc (2 ^ 32 - 1 - y)) ≡ unsigned_abs (pos x -ℤ negsuc (2 ^ 32 - 1 - y)) = omega (arith, ints, a, b, g) in e) ∙ sym (λ i. unsigned_abs (signed-low x a i -ℤ signed-high y b g i))
  ]
  | inr a ↦ elim (cases_lt y (2 ^ 31)) [
    | inl b ↦ (λ i. word_of (apart (signed-high x a h i) (signed-low y b i))) ∙ (let e : word_of (pos y -ℤ negsuc (2 ^ 32 - 1 - x)) ≡ unsigned_abs (negsuc (2 ^ 32 - 1 - x) -ℤ pos y) = omega (arith, ints, a, b, h) in e) ∙ sym (λ i. unsigned_abs (signed-high x a h i -ℤ signed-low y b i))
    | inr b ↦ (λ i. word_of (apart (signed-high x a h i) (signed-high y b g i))) ∙ apart-neg (2 ^ 32 - 1 - x) (2 ^ 32 - 1 - y) (omega (arith, a, h)) (omega (arith, b, g)) ∙ sym (λ i. unsigned_abs (signed-high x a h i -ℤ signed-high y b g i))
  ]
]

apart-word : (t : Scalar) (x y : ℕ) → x < 2 ^ 32 → y < 2 ^ 32 → word_of (apart (number t x) (number t y)) ≡ unsigned_abs (number t x -ℤ number t y)
apart-word Char x y h g = apart-signed x y h g
apart-word Uchar x y h g = apart-pos x y h g
apart-word Short x y h g = apart-signed x y h g
apart-word Ushort x y h g = apart-pos x y h g
apart-word Int x y h g = apart-signed x y h g
apart-word Uint x y h g = apart-pos x y h g

-- ---- the low 24 bits

shifted_24 : (a : ℕ) → shifted_down (signed (a * 2 ^ 8 % 2 ^ 32)) 8 ≡ signed (extended 24 (a % 2 ^ 24))
shifted_24 a = elim (cases_lt (a % 2 ^ 24) (2 ^ 23)) [
  | inl h ↦ ap (λ z. shifted_down z 8) (signed-low (a * 2 ^ 8 % 2 ^ 32) (omega (arith, h))) ∙ ap pos (let e : a * 2 ^ 8 % 2 ^ 32 / 2 ^ 8 ≡ a % 2 ^ 24 = omega arith in e)
      ∙ sym (ap (λ t. signed (if t then a % 2 ^ 24 else a % 2 ^ 24 + (2 ^ 32 - 2 ^ 24))) (lt-ltb (a % 2 ^ 24) (2 ^ 23) h) ∙ signed-low (a % 2 ^ 24) (omega (arith, h)))
  | inr h ↦ ap (λ z. shifted_down z 8) (signed-high (a * 2 ^ 8 % 2 ^ 32) (omega (arith, h)) (omega arith))
      ∙ ap negsuc (let e : (2 ^ 32 - 1 - a * 2 ^ 8 % 2 ^ 32) / 2 ^ 8 ≡ 2 ^ 32 - 1 - (a % 2 ^ 24 + (2 ^ 32 - 2 ^ 24)) = omega (arith, h) in e)
      ∙ sym (ap (λ t. signed (if t then a % 2 ^ 24 else a % 2 ^ 24 + (2 ^ 32 - 2 ^ 24))) (le-ltb (a % 2 ^ 24) (2 ^ 23) h) ∙ signed-high (a % 2 ^ 24 + (2 ^ 32 - 2 ^ 24)) (omega (arith, h)) (omega arith))
]

low_24-is : (t : Scalar) (a : ℕ) → low_24 t a ≡ given_24 t a
low_24-is Char a = shifted_24 a
low_24-is Uchar a = refl
low_24-is Short a = shifted_24 a
low_24-is Ushort a = refl
low_24-is Int a = shifted_24 a
low_24-is Uint a = refl

pub built_same : (f : NumberFunction) (t : Scalar) (x y z : ℕ) → x < 2 ^ 32 → y < 2 ^ 32 → built_in f t x y z ≡ given f t x y z
unfolding given
built_same Min t x y z h g = ap word_of (lesser-is (number t x) (number t y))
built_same Max t x y z h g = ap word_of (greater-is (number t x) (number t y))
built_same Clamp t x y z h g = ap word_of (clamped-is (number t x) (number t y) (number t z))
built_same Abs t x y z h g = size-word (number t x) (number-size t x h)
built_same AbsDiff t x y z h g = apart-word t x y h g
built_same Mul24 t x y z h g = λ i. word_of (low_24-is t x i *ℤ low_24-is t y i)
built_same MulHi t x y z h g = refl
built_same Rotate t x y z h g = refl
built_same Clz t x y z h g = refl
built_same Popcount t x y z h g = refl
built_same AddSat t x y z h g = ap word_of (clamped-is (number t x +ℤ number t y) (least t) (greatest t))
built_same SubSat t x y z h g = ap word_of (clamped-is (number t x -ℤ number t y) (least t) (greatest t))
