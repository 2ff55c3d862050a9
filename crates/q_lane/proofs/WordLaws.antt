-- Laws of the operations on words.
use Rattle.std.proofs.Common.{◌≡◌, ℕ, ◌+◌, ◌-◌, ◌*◌, ◌/◌, ◌%◌, ◌^◌, ◌<◌, ◌≤◌, Bool, true, false, refl, inl, inr, ap, ◌∙◌, arith}
use Rattle.std.specs.Prelude.{ℤ, pos, negsuc, nat_lt, if◌then◌else◌, ◌==◌, bit_xor, ◌-ℤ◌, List}
use Rattle.std.proofs.Math.Nat.{div-le_self, mod-le}
use Rattle.std.proofs.lemmas.Nat.{and_le_l, or_lt, xor_lt, xor_comm, xor_block, shr_le, leading_le, ones-le, mul-lt}
use Rattle.std.proofs.lemmas.Bool.{cases_lt}
use Rattle.std.proofs.lemmas.Bool.Decides.{nat_tests}
use Rattle.std.proofs.lemmas.Int.{ints}
use Rattle.q_lane.specs.declared.kinds.Scalar.{Scalar}
use Rattle.q_lane.specs.declared.kinds.Scalar.TheVariants.{Char, Uchar, Short, Ushort, Int, Uint}
use Rattle.q_lane.specs.declared.operations.BinOp.{BinOp}
use Rattle.q_lane.specs.declared.operations.BinOp.TheVariants.{Add, Sub, Mul, MulHi, Div, Rem, And, Or, Xor, Shl, Shr, Sar, Min, Max, Less, Equal, Mul24}
use Rattle.q_lane.specs.declared.operations.UnOp.{UnOp}
use Rattle.q_lane.specs.declared.operations.UnOp.TheVariants.{Not, Neg, Clz, Popcount, Narrow}
use Rattle.q_lane.specs.Numbers.{signed, word_of, high_product, quotient, remainder, is_less, flag, applied, width, extended, narrowed, applied_one}
use Rattle.q_lane.specs.Vectors.{lane, mapped, selected}
use Rattle.q_lane.proofs.VectorLaws.{get_or-lanes, lanes-same}

-- ---- words stay words

chosen-below : (t : Bool) (x y n : ℕ) → x < n → y < n → (if t then x else y) < n
chosen-below true x y n h k = h
chosen-below false x y n h k = k

pub word_of-below : (z : ℤ) → word_of z < 2 ^ 32
word_of-below (pos n) = omega arith
word_of-below (negsuc n) = omega arith

high_product-below : (s : Bool) (a b : ℕ) → a < 2 ^ 32 → b < 2 ^ 32 → high_product s a b < 2 ^ 32
unfolding high_product
high_product-below false a b h k = let p : a * b < 2 ^ 32 * 2 ^ 32 = mul-lt a b (2 ^ 32) (2 ^ 32) h k in omega arith
high_product-below true a b h k = word_of-below _

quotient-below : (s : Bool) (a b : ℕ) → a < 2 ^ 32 → quotient s a b < 2 ^ 32
unfolding quotient
quotient-below false a b h = chosen-below (b == 0) 0 (a / b) (2 ^ 32) (omega arith) (omega (arith, div-le_self a b))
quotient-below true a b h = chosen-below (b == 0) 0 _ (2 ^ 32) (omega arith) (word_of-below _)

remainder-below : (s : Bool) (a b : ℕ) → a < 2 ^ 32 → remainder s a b < 2 ^ 32
unfolding remainder
remainder-below false a b h = chosen-below (b == 0) a (a % b) (2 ^ 32) h (omega (arith, mod-le a b))
remainder-below true a b h = chosen-below (b == 0) a _ (2 ^ 32) h (word_of-below _)

flag-below : (t : Bool) → flag t < 2 ^ 32
flag-below false = omega arith
flag-below true = omega arith

-- an operation on two words gives a word
pub applied-below : (op : BinOp) (a b : ℕ) → a < 2 ^ 32 → b < 2 ^ 32 → applied op a b < 2 ^ 32
unfolding applied
applied-below Add a b h k = omega arith
applied-below Sub a b h k = omega arith
applied-below Mul a b h k = omega arith
applied-below (MulHi s) a b h k = high_product-below s a b h k
applied-below (Div s) a b h k = quotient-below s a b h
applied-below (Rem s) a b h k = remainder-below s a b h
applied-below And a b h k = omega (arith, and_le_l a b)
applied-below Or a b h k = or_lt 32 a b h k
applied-below Xor a b h k = xor_lt 32 a b h k
applied-below Shl a b h k = omega arith
applied-below Shr a b h k = omega (arith, shr_le a (b % 32))
applied-below Sar a b h k = word_of-below _
applied-below (Min s) a b h k = chosen-below (is_less s a b) a b (2 ^ 32) h k
applied-below (Max s) a b h k = chosen-below (is_less s a b) b a (2 ^ 32) k h
applied-below (Less s) a b h k = flag-below _
applied-below Equal a b h k = flag-below _
applied-below Mul24 a b h k = omega arith

extended_8-below : (r : ℕ) → r < 2 ^ 8 → extended 8 r < 2 ^ 32
extended_8-below r h = chosen-below (nat_lt r (2 ^ 7)) r (r + (2 ^ 32 - 2 ^ 8)) (2 ^ 32) (omega arith) (omega arith)

extended_16-below : (r : ℕ) → r < 2 ^ 16 → extended 16 r < 2 ^ 32
extended_16-below r h = chosen-below (nat_lt r (2 ^ 15)) r (r + (2 ^ 32 - 2 ^ 16)) (2 ^ 32) (omega arith) (omega arith)

pub narrowed-below : (t : Scalar) (a : ℕ) → narrowed t a < 2 ^ 32
unfolding narrowed
narrowed-below Char a = extended_8-below (a % 2 ^ 8) (omega arith)
narrowed-below Uchar a = omega arith
narrowed-below Short a = extended_16-below (a % 2 ^ 16) (omega arith)
narrowed-below Ushort a = omega arith
narrowed-below Int a = omega arith
narrowed-below Uint a = omega arith

-- an operation on one word gives a word
pub applied_one-below : (op : UnOp) (a : ℕ) → a < 2 ^ 32 → applied_one op a < 2 ^ 32
unfolding applied_one
applied_one-below Not a h = omega arith
applied_one-below Neg a h = omega arith
applied_one-below Clz a h = omega (arith, leading_le 32 a)
applied_one-below Popcount a h = omega (arith, ones-le 32 a h)
applied_one-below (Narrow t) a h = narrowed-below t a

-- ---- order

-- a word below 2^31 stands for itself
pub signed-low : (a : ℕ) → a < 2 ^ 31 → signed a ≡ pos a
signed-low a h = omega (arith, ints)

-- and any other word for itself less 2^32
pub signed-high : (a : ℕ) → 2 ^ 31 ≤ a → a < 2 ^ 32 → signed a ≡ pos a -ℤ pos (2 ^ 32)
signed-high a h k = grind (arith, ints, nat_tests)

-- signed less is unsigned less of both words with 2^31 added
pub is_less-shifted : (a b : ℕ) → a < 2 ^ 32 → b < 2 ^ 32 → is_less true a b ≡ is_less false ((a + 2 ^ 31) % 2 ^ 32) ((b + 2 ^ 31) % 2 ^ 32)
unfolding is_less
is_less-shifted a b h k = grind (arith, nat_tests, ints)

-- to flip the top bit is to add 2^31
pub flipped-is : (a : ℕ) → a < 2 ^ 32 → bit_xor a (2 ^ 31) ≡ (a + 2 ^ 31) % 2 ^ 32
flipped-is a h = elim (cases_lt a (2 ^ 31)) [
  | inl l ↦
      let e : a ≡ 0 * 2 ^ 31 + a = omega arith in
      let z : bit_xor a 0 ≡ a = xor_comm a 0 in
      ap (λ (x : ℕ). bit_xor x (2 ^ 31)) e ∙ xor_block 31 0 1 a 0 l (omega arith) ∙ omega arith
  | inr l ↦
      let e : a ≡ 1 * 2 ^ 31 + (a - 2 ^ 31) = omega arith in
      let b : a - 2 ^ 31 < 2 ^ 31 = omega arith in
      let z : bit_xor (a - 2 ^ 31) 0 ≡ a - 2 ^ 31 = xor_comm (a - 2 ^ 31) 0 in
      ap (λ (x : ℕ). bit_xor x (2 ^ 31)) e ∙ xor_block 31 1 1 (a - 2 ^ 31) 0 b (omega arith) ∙ omega arith
]

-- signed less is unsigned less of both words with their top bits flipped
pub less_by_flips : (a b : ℕ) → a < 2 ^ 32 → b < 2 ^ 32 → applied (Less true) a b ≡ applied (Less false) (applied Xor a (2 ^ 31)) (applied Xor b (2 ^ 31))
unfolding applied
less_by_flips a b h k = rw (flipped-is a h, flipped-is b k) (ap flag (is_less-shifted a b h k))

-- the lesser is chosen by Less
pub min_by_less : (s : Bool) (a b : ℕ) → applied (Min s) a b ≡ (if applied (Less s) a b == 0 then b else a)
unfolding applied
min_by_less s a b = elim (is_less s a b) as (λ t. (if t then a else b) ≡ (if flag t == 0 then b else a)) [ true ↦ refl | false ↦ refl ]

-- and so is the greater
pub max_by_less : (s : Bool) (a b : ℕ) → applied (Max s) a b ≡ (if applied (Less s) a b == 0 then a else b)
unfolding applied
max_by_less s a b = elim (is_less s a b) as (λ t. (if t then b else a) ≡ (if flag t == 0 then a else b)) [ true ↦ refl | false ↦ refl ]

-- ---- narrowing

extended_8-mod : (r : ℕ) → extended 8 r % 2 ^ 8 ≡ r % 2 ^ 8
extended_8-mod r = elim (nat_lt r (2 ^ 7)) as (λ (t : Bool). (if t then r else r + (2 ^ 32 - 2 ^ 8)) % 2 ^ 8 ≡ r % 2 ^ 8) [ true ↦ refl | false ↦ omega arith ]

extended_16-mod_8 : (r : ℕ) → extended 16 r % 2 ^ 8 ≡ r % 2 ^ 8
extended_16-mod_8 r = elim (nat_lt r (2 ^ 15)) as (λ (t : Bool). (if t then r else r + (2 ^ 32 - 2 ^ 16)) % 2 ^ 8 ≡ r % 2 ^ 8) [ true ↦ refl | false ↦ omega arith ]

extended_16-mod : (r : ℕ) → extended 16 r % 2 ^ 16 ≡ r % 2 ^ 16
extended_16-mod r = elim (nat_lt r (2 ^ 15)) as (λ (t : Bool). (if t then r else r + (2 ^ 32 - 2 ^ 16)) % 2 ^ 16 ≡ r % 2 ^ 16) [ true ↦ refl | false ↦ omega arith ]

-- narrowing keeps the low bits
narrowed-mod_8 : (t : Scalar) (a : ℕ) → narrowed t a % 2 ^ 8 ≡ a % 2 ^ 8
unfolding narrowed
narrowed-mod_8 Char a = extended_8-mod (a % 2 ^ 8) ∙ omega arith
narrowed-mod_8 Uchar a = omega arith
narrowed-mod_8 Short a = extended_16-mod_8 (a % 2 ^ 16) ∙ omega arith
narrowed-mod_8 Ushort a = omega arith
narrowed-mod_8 Int a = omega arith
narrowed-mod_8 Uint a = omega arith

narrowed-mod_16 : (t : Scalar) (a : ℕ) → 16 ≤ width t → narrowed t a % 2 ^ 16 ≡ a % 2 ^ 16
unfolding narrowed
narrowed-mod_16 Char a h = absurd (omega arith)
narrowed-mod_16 Uchar a h = absurd (omega arith)
narrowed-mod_16 Short a h = extended_16-mod (a % 2 ^ 16) ∙ omega arith
narrowed-mod_16 Ushort a h = omega arith
narrowed-mod_16 Int a h = omega arith
narrowed-mod_16 Uint a h = omega arith

narrowed-mod_32 : (t : Scalar) (a : ℕ) → 32 ≤ width t → narrowed t a % 2 ^ 32 ≡ a % 2 ^ 32
unfolding narrowed
narrowed-mod_32 Char a h = absurd (omega arith)
narrowed-mod_32 Uchar a h = absurd (omega arith)
narrowed-mod_32 Short a h = absurd (omega arith)
narrowed-mod_32 Ushort a h = absurd (omega arith)
narrowed-mod_32 Int a h = omega arith
narrowed-mod_32 Uint a h = omega arith

-- narrowing to a type that isn't wider than the type before: the first narrowing is nothing
pub narrowed-narrowed : (s t : Scalar) (a : ℕ) → width s ≤ width t → narrowed s (narrowed t a) ≡ narrowed s a
unfolding narrowed
narrowed-narrowed Char t a h = ap (extended 8) (narrowed-mod_8 t a)
narrowed-narrowed Uchar t a h = narrowed-mod_8 t a
narrowed-narrowed Short t a h = ap (extended 16) (narrowed-mod_16 t a h)
narrowed-narrowed Ushort t a h = narrowed-mod_16 t a h
narrowed-narrowed Int t a h = narrowed-mod_32 t a h
narrowed-narrowed Uint t a h = narrowed-mod_32 t a h

-- narrowing twice to one type is narrowing once
pub narrowed-again : (t : Scalar) (a : ℕ) → narrowed t (narrowed t a) ≡ narrowed t a
narrowed-again t a = narrowed-narrowed t t a (omega arith)

-- ---- lane by lane

-- the lesser lane by lane, chosen by a mask of Less
pub mapped-min : (n : ℕ) (s : Bool) (a b : List ℕ) → mapped n (Min s) a b ≡ selected n (mapped n (Less s) a b) a b
mapped-min n s a b =
    lanes-same n (λ i. applied (Min s) (lane a i) (lane b i)) (λ i. if lane (mapped n (Less s) a b) i == 0 then lane b i else lane a i) 0
    (λ i h. rw (get_or-lanes n (λ (j : ℕ). applied (Less s) (lane a j) (lane b j)) i 0 h) (min_by_less s (lane a i) (lane b i)))

-- and the greater
pub mapped-max : (n : ℕ) (s : Bool) (a b : List ℕ) → mapped n (Max s) a b ≡ selected n (mapped n (Less s) a b) b a
mapped-max n s a b =
    lanes-same n (λ i. applied (Max s) (lane a i) (lane b i)) (λ i. if lane (mapped n (Less s) a b) i == 0 then lane a i else lane b i) 0
    (λ i h. rw (get_or-lanes n (λ (j : ℕ). applied (Less s) (lane a j) (lane b j)) i 0 h) (max_by_less s (lane a i) (lane b i)))
