-- What the recipes of the built-in functions give.
use Rattle.std.proofs.Common.{◌≡◌, ℕ, ◌+◌, ◌*◌, ◌-◌, ◌%◌, ◌^◌, ◌<◌, ◌≤◌, inl, inr, Bool, true, false, refl, sym, ap, ◌∙◌, arith}
use Rattle.std.specs.Prelude.{◌*ℤ◌, if◌then◌else◌, pos, negsuc, int_lt, ◌-ℤ◌}
use Rattle.std.proofs.lemmas.Bool.{cases_lt}
use Rattle.std.proofs.lemmas.Int.{ints}
use Rattle.std.proofs.lemmas.Nat.{mul-lt}
use Rattle.q_lane.proofs.WordLaws.{applied-below}
use Rattle.q_lane.specs.declared.kinds.Scalar.{Scalar}
use Rattle.q_lane.specs.declared.kinds.Scalar.TheVariants.{Char, Uchar, Short, Ushort, Int, Uint}
use Rattle.q_lane.specs.declared.operations.BinOp.TheVariants as op
use Rattle.q_lane.specs.Numbers.{applied, is_less, signed, word_of, narrowed, high_product, shifted_down}
use Rattle.q_lane.proofs.WordLaws.{narrowed-below}
use Rattle.q_functions.specs.declared.functions.NumberFunction.{NumberFunction}
use Rattle.q_functions.specs.declared.functions.NumberFunction.TheVariants.{Min, Max, Clamp, MulHi}
use Rattle.builtin_lower.proofs.BuiltIns.{built_in, lesser, greater, apart}
use Rattle.q_functions.specs.NumberFunctions.{number}
use Rattle.lane_ir.specs.LaneMeaning.{World}
use Rattle.lane_ir.specs.Recipe.{after, gives}
use Rattle.builtin_lower.specs.Lower.{min_of, max_of, clamp_of, abs_diff_of, is_flipped, function_recipe}
use Rattle.builtin_lower.proofs.Orders.{copied, flip, flip-below, flip-back, min_by_flipped, max_by_flipped}
use Rattle.builtin_lower.proofs.Narrows.{signed-low, signed-high}

pub word-signed : (a : ℕ) → a < 2 ^ 32 → word_of (signed a) ≡ a
word-signed a h = elim (cases_lt a (2 ^ 31)) [
  | inl l ↦ ap word_of (signed-low a l) ∙ omega (arith, h)
  | inr l ↦ ap word_of (signed-high a l h) ∙ omega (arith, h, l)
]

-- the number of a word of a type, for the types whose order is that of signed words
pub number-signed : (t : Scalar) (a : ℕ) → is_flipped t ≡ false → number t (narrowed t a) ≡ signed (narrowed t a)
unfolding narrowed
number-signed Char a h = refl
number-signed Uchar a h = sym (signed-low (a % 2 ^ 8) (omega arith))
number-signed Short a h = refl
number-signed Ushort a h = sym (signed-low (a % 2 ^ 16) (omega arith))
number-signed Int a h = refl
number-signed Uint a h = cc

pick-lesser : (b : Bool) (x y : ℕ) → x < 2 ^ 32 → y < 2 ^ 32 → word_of (if b then signed x else signed y) ≡ (if b then x else y)
pick-lesser true x y h g = word-signed x h
pick-lesser false x y h g = word-signed y g

pub lesser-signed : (x y : ℕ) → x < 2 ^ 32 → y < 2 ^ 32 → word_of (lesser (signed x) (signed y)) ≡ applied (op.Min true) x y
unfolding applied is_less
lesser-signed x y h g = pick-lesser (int_lt (signed x) (signed y)) x y h g

greater-signed : (x y : ℕ) → x < 2 ^ 32 → y < 2 ^ 32 → word_of (greater (signed x) (signed y)) ≡ applied (op.Max true) x y
unfolding applied is_less
greater-signed x y h g = pick-lesser (int_lt (signed x) (signed y)) y x g h

-- the same of words without a sign
pick-word : (b : Bool) (x y : ℕ) → x < 2 ^ 32 → y < 2 ^ 32 → word_of (if b then pos x else pos y) ≡ (if b then x else y)
pick-word true x y h g = omega (arith, h)
pick-word false x y h g = omega (arith, g)

lesser-unsigned : (x y : ℕ) → x < 2 ^ 32 → y < 2 ^ 32 → word_of (lesser (pos x) (pos y)) ≡ applied (op.Min false) x y
unfolding applied is_less
lesser-unsigned x y h g = pick-word (int_lt (pos x) (pos y)) x y h g

greater-unsigned : (x y : ℕ) → x < 2 ^ 32 → y < 2 ^ 32 → word_of (greater (pos x) (pos y)) ≡ applied (op.Max false) x y
unfolding applied is_less
greater-unsigned x y h g = pick-word (int_lt (pos x) (pos y)) y x g h

-- a recipe gives its function's value where temporaries 0 to 2 are words of the type
abbrev pub Right : NumberFunction → Scalar → Type 0
Right f t = (w : World) (l : ℕ) (x y : ℕ → ℕ) (a b c : ℕ) → y 0 ≡ narrowed t a → y 1 ≡ narrowed t b → y 2 ≡ narrowed t c
    → gives w l x (after w l x y (function_recipe f t).steps) (function_recipe f t).last ≡ built_in f t (narrowed t a) (narrowed t b) (narrowed t c)

min_plain : (w : World) (l : ℕ) (x y : ℕ → ℕ) (t : Scalar) (a b : ℕ) → is_flipped t ≡ false → y 0 ≡ narrowed t a → y 1 ≡ narrowed t b
    → gives w l x (after w l x y (min_of false).steps) (min_of false).last ≡ word_of (lesser (number t (narrowed t a)) (number t (narrowed t b)))
min_plain w l x y t a b h e f =
    copied _ ∙ (λ i. applied (op.Min true) (e i) (f i)) ∙ sym (lesser-signed (narrowed t a) (narrowed t b) (narrowed-below t a) (narrowed-below t b))
    ∙ (λ i. word_of (lesser (sym (number-signed t a h) i) (sym (number-signed t b h) i)))

max_plain : (w : World) (l : ℕ) (x y : ℕ → ℕ) (t : Scalar) (a b : ℕ) → is_flipped t ≡ false → y 0 ≡ narrowed t a → y 1 ≡ narrowed t b
    → gives w l x (after w l x y (max_of false).steps) (max_of false).last ≡ word_of (greater (number t (narrowed t a)) (number t (narrowed t b)))
max_plain w l x y t a b h e f =
    copied _ ∙ (λ i. applied (op.Max true) (e i) (f i)) ∙ sym (greater-signed (narrowed t a) (narrowed t b) (narrowed-below t a) (narrowed-below t b))
    ∙ (λ i. word_of (greater (sym (number-signed t a h) i) (sym (number-signed t b h) i)))

pub min_right : (t : Scalar) → Right Min t
min_right Char w l x y a b c e f g = min_plain w l x y Char a b refl e f
min_right Uchar w l x y a b c e f g = min_plain w l x y Uchar a b refl e f
min_right Short w l x y a b c e f g = min_plain w l x y Short a b refl e f
min_right Ushort w l x y a b c e f g = min_plain w l x y Ushort a b refl e f
min_right Int w l x y a b c e f g = min_plain w l x y Int a b refl e f
min_right Uint w l x y a b c e f g =
    (λ i. flip (applied (op.Min true) (flip (e i)) (flip (f i)))) ∙ min_by_flipped (narrowed Uint a) (narrowed Uint b) (narrowed-below Uint a) (narrowed-below Uint b)
    ∙ sym (lesser-unsigned (narrowed Uint a) (narrowed Uint b) (narrowed-below Uint a) (narrowed-below Uint b))

pub max_right : (t : Scalar) → Right Max t
max_right Char w l x y a b c e f g = max_plain w l x y Char a b refl e f
max_right Uchar w l x y a b c e f g = max_plain w l x y Uchar a b refl e f
max_right Short w l x y a b c e f g = max_plain w l x y Short a b refl e f
max_right Ushort w l x y a b c e f g = max_plain w l x y Ushort a b refl e f
max_right Int w l x y a b c e f g = max_plain w l x y Int a b refl e f
max_right Uint w l x y a b c e f g =
    (λ i. flip (applied (op.Max true) (flip (e i)) (flip (f i)))) ∙ max_by_flipped (narrowed Uint a) (narrowed Uint b) (narrowed-below Uint a) (narrowed-below Uint b)
    ∙ sym (greater-unsigned (narrowed Uint a) (narrowed Uint b) (narrowed-below Uint a) (narrowed-below Uint b))

-- ---- clamp

pull-signed : (b : Bool) (x y : ℕ) → (if b then signed x else signed y) ≡ signed (if b then x else y)
pull-signed true x y = refl
pull-signed false x y = refl

pull-word : (b : Bool) (x y : ℕ) → (if b then pos x else pos y) ≡ pos (if b then x else y)
pull-word true x y = refl
pull-word false x y = refl

max-word : (t : Bool) (x y : ℕ) → x < 2 ^ 32 → y < 2 ^ 32 → applied (op.Max t) x y < 2 ^ 32
max-word t x y h g = applied-below (op.Max t) x y h g

pub greater-is : (x y : ℕ) → greater (signed x) (signed y) ≡ signed (applied (op.Max true) x y)
unfolding applied is_less
greater-is x y = pull-signed (int_lt (signed x) (signed y)) y x

greater-is-word : (x y : ℕ) → greater (pos x) (pos y) ≡ pos (applied (op.Max false) x y)
unfolding applied is_less
greater-is-word x y = pull-word (int_lt (pos x) (pos y)) y x

clamp_plain : (w : World) (l : ℕ) (x y : ℕ → ℕ) (t : Scalar) (a b c : ℕ) → is_flipped t ≡ false → y 0 ≡ narrowed t a → y 1 ≡ narrowed t b → y 2 ≡ narrowed t c
    → gives w l x (after w l x y (clamp_of false).steps) (clamp_of false).last ≡ word_of (lesser (greater (number t (narrowed t a)) (number t (narrowed t b))) (number t (narrowed t c)))
clamp_plain w l x y t a b c h e f g =
    let X = narrowed t a in
    let Y = narrowed t b in
    let Z = narrowed t c in
    copied _ ∙ (λ i. applied (op.Min true) (applied (op.Max true) (e i) (f i)) (g i))
    ∙ sym (lesser-signed (applied (op.Max true) X Y) Z (max-word true X Y (narrowed-below t a) (narrowed-below t b)) (narrowed-below t c))
    ∙ (λ i. word_of (lesser (sym (greater-is X Y) i) (signed Z)))
    ∙ (λ i. word_of (lesser (greater (sym (number-signed t a h) i) (sym (number-signed t b h) i)) (sym (number-signed t c h) i)))

pub max-flipped : (a b : ℕ) → a < 2 ^ 32 → b < 2 ^ 32 → applied (op.Max true) (flip a) (flip b) ≡ flip (applied (op.Max false) a b)
max-flipped a b h g = sym (flip-back (applied (op.Max true) (flip a) (flip b)) (max-word true (flip a) (flip b) (flip-below a) (flip-below b))) ∙ ap flip (max_by_flipped a b h g)

pub clamp_right : (t : Scalar) → Right Clamp t
clamp_right Char w l x y a b c e f g = clamp_plain w l x y Char a b c refl e f g
clamp_right Uchar w l x y a b c e f g = clamp_plain w l x y Uchar a b c refl e f g
clamp_right Short w l x y a b c e f g = clamp_plain w l x y Short a b c refl e f g
clamp_right Ushort w l x y a b c e f g = clamp_plain w l x y Ushort a b c refl e f g
clamp_right Int w l x y a b c e f g = clamp_plain w l x y Int a b c refl e f g
clamp_right Uint w l x y a b c e f g =
    let X = narrowed Uint a in
    let Y = narrowed Uint b in
    let Z = narrowed Uint c in
    let hx = narrowed-below Uint a in
    let hy = narrowed-below Uint b in
    let hz = narrowed-below Uint c in
    (λ i. flip (applied (op.Min true) (applied (op.Max true) (flip (e i)) (flip (f i))) (flip (g i))))
    ∙ ap (λ z. flip (applied (op.Min true) z (flip Z))) (max-flipped X Y hx hy)
    ∙ min_by_flipped (applied (op.Max false) X Y) Z (max-word false X Y hx hy) hz
    ∙ sym (lesser-unsigned (applied (op.Max false) X Y) Z (max-word false X Y hx hy) hz)
    ∙ (λ i. word_of (lesser (sym (greater-is-word X Y) i) (pos Z)))

-- ---- high halves of 32 bits

pub mul_hi_int : Right MulHi Int
unfolding applied high_product
mul_hi_int w l x y a b c e f g = λ i. applied (op.MulHi true) (e i) (f i)

high-word : (a b : ℕ) → a < 2 ^ 32 → b < 2 ^ 32 → applied (op.MulHi false) a b ≡ word_of (shifted_down (pos a *ℤ pos b) 32)
unfolding applied high_product
high-word a b h g = let p : a * b < 2 ^ 32 * 2 ^ 32 = mul-lt a b (2 ^ 32) (2 ^ 32) h g in omega (arith, p)

pub mul_hi_uint : Right MulHi Uint
mul_hi_uint w l x y a b c e f g = (λ i. applied (op.MulHi false) (e i) (f i)) ∙ high-word (narrowed Uint a) (narrowed Uint b) (narrowed-below Uint a) (narrowed-below Uint b)

-- ---- distances

pub diff-up : (a b : ℕ) → b ≤ a → pos a -ℤ pos b ≡ pos (a - b)
diff-up a b h = omega (arith, ints, h)

pub diff-down : (a b : ℕ) → a < b → pos a -ℤ pos b ≡ negsuc (b - a - 1)
diff-down a b h = omega (arith, ints, h)

pub diff-low : (k b : ℕ) → negsuc k -ℤ pos b ≡ negsuc (k + b)
diff-low k b = omega (arith, ints)

pub diff-high : (a k : ℕ) → pos a -ℤ negsuc k ≡ pos (a + k + 1)
diff-high a k = omega (arith, ints)

pub diff-both_up : (j k : ℕ) → j ≤ k → negsuc j -ℤ negsuc k ≡ pos (k - j)
diff-both_up j k h = omega (arith, ints, h)

pub diff-both_down : (j k : ℕ) → k < j → negsuc j -ℤ negsuc k ≡ negsuc (j - k - 1)
diff-both_down j k h = omega (arith, ints, h)

sub-word : (x y : ℕ) → x < 2 ^ 32 → y < 2 ^ 32 → word_of (signed y -ℤ signed x) ≡ applied op.Sub y x
unfolding applied
sub-word x y h g = elim (cases_lt x (2 ^ 31)) [
  | inl a ↦ elim (cases_lt y (2 ^ 31)) [
    | inl b ↦ (λ i. word_of (signed-low y b i -ℤ signed-low x a i)) ∙ elim (cases_lt y x) [
      | inl p ↦ ap word_of (diff-down y x p) ∙ omega (arith, a, b, p)
      | inr p ↦ ap word_of (diff-up y x p) ∙ omega (arith, a, b, p)
    ]
    | inr b ↦ (λ i. word_of (signed-high y b g i -ℤ signed-low x a i)) ∙ ap word_of (diff-low (2 ^ 32 - 1 - y) x) ∙ omega (arith, a, b, g)
  ]
  | inr a ↦ elim (cases_lt y (2 ^ 31)) [
    | inl b ↦ (λ i. word_of (signed-low y b i -ℤ signed-high x a h i)) ∙ ap word_of (diff-high y (2 ^ 32 - 1 - x)) ∙ omega (arith, a, b, h)
    | inr b ↦ (λ i. word_of (signed-high y b g i -ℤ signed-high x a h i)) ∙ elim (cases_lt y x) [
      | inl p ↦ ap word_of (diff-both_down (2 ^ 32 - 1 - y) (2 ^ 32 - 1 - x) (omega (arith, p, h, g))) ∙ omega (arith, a, b, g, h, p)
      | inr p ↦ ap word_of (diff-both_up (2 ^ 32 - 1 - y) (2 ^ 32 - 1 - x) (omega (arith, p, h, g))) ∙ omega (arith, a, b, g, h, p)
    ]
  ]
]

pick-apart : (b : Bool) (x y : ℕ) → x < 2 ^ 32 → y < 2 ^ 32 → applied op.Sub (if b then y else x) (if b then x else y) ≡ word_of (if b then signed y -ℤ signed x else signed x -ℤ signed y)
pick-apart true x y h g = sym (sub-word x y h g)
pick-apart false x y h g = sym (sub-word y x g h)

apart-signed : (x y : ℕ) → x < 2 ^ 32 → y < 2 ^ 32 → applied op.Sub (applied (op.Max true) x y) (applied (op.Min true) x y) ≡ word_of (apart (signed x) (signed y))
unfolding applied is_less
apart-signed x y h g = pick-apart (int_lt (signed x) (signed y)) x y h g

pub abs_diff_plain : (w : World) (l : ℕ) (x y : ℕ → ℕ) (t : Scalar) (a b : ℕ) → is_flipped t ≡ false → y 0 ≡ narrowed t a → y 1 ≡ narrowed t b
    → gives w l x (after w l x y (abs_diff_of false).steps) (abs_diff_of false).last ≡ word_of (apart (number t (narrowed t a)) (number t (narrowed t b)))
abs_diff_plain w l x y t a b h e f =
    (λ i. applied op.Sub (applied (op.Max true) (e i) (f i)) (applied (op.Min true) (e i) (f i))) ∙ apart-signed (narrowed t a) (narrowed t b) (narrowed-below t a) (narrowed-below t b)
    ∙ (λ i. word_of (apart (sym (number-signed t a h) i) (sym (number-signed t b h) i)))
