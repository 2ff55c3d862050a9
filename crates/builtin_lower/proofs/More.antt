-- What the recipes of further built-in functions give.
use Rattle.std.proofs.Common.{◌≡◌, ℕ, ◌+◌, ◌-◌, ◌%◌, ◌^◌, ◌<◌, ◌≤◌, inl, inr, Bool, true, false, refl, sym, ap, ◌∙◌, arith}
use Rattle.std.specs.Prelude.{if◌then◌else◌, pos, int_lt, ◌-ℤ◌, count_ones}
use Rattle.std.specs.Int.Count.{count_leading_zeros, leading_unique}
use Rattle.std.proofs.lemmas.Bool.{cases_lt, lt-ltb, le-ltb}
use Rattle.std.proofs.lemmas.Nat.{and_mask, leading_length, leading_le}
use Rattle.q_lane.specs.declared.kinds.Scalar.{Scalar}
use Rattle.q_lane.specs.declared.kinds.Scalar.TheVariants.{Char, Uchar, Short, Ushort, Int, Uint}
use Rattle.q_lane.specs.declared.operations.BinOp.TheVariants as op
use Rattle.q_lane.specs.declared.operations.UnOp.TheVariants as one_op
use Rattle.q_lane.specs.Numbers.{applied, applied_one, is_less, signed, word_of, narrowed}
use Rattle.q_lane.proofs.WordLaws.{narrowed-below, applied-below}
use Rattle.q_functions.specs.declared.functions.NumberFunction.TheVariants.{Abs, AbsDiff, Clz, Popcount}
use Rattle.builtin_lower.proofs.BuiltIns.{apart}
use Rattle.lane_ir.specs.LaneMeaning.{World}
use Rattle.item_ir.specs.Memory.{with_at}
use Rattle.lane_ir.specs.Recipe.{after, gives}
use Rattle.lane_ir.specs.declared.recipe.Source.TheVariants.{Temp}
use Rattle.builtin_lower.specs.Lower.{ones_of}
use Rattle.builtin_lower.proofs.Orders.{copied, flip, flip-below, flip-back, min_by_flipped}
use Rattle.builtin_lower.proofs.Narrows.{signed-low, signed-high}
use Rattle.builtin_lower.proofs.CountsOnes.{ones_by_halves}
use Rattle.builtin_lower.proofs.Functions.{Right, diff-up, diff-high, max-flipped}

low_8 : (a : ℕ) → applied op.And a 255 ≡ a % 2 ^ 8
unfolding applied
low_8 a = and_mask a 8

low_16 : (a : ℕ) → applied op.And a 65535 ≡ a % 2 ^ 16
unfolding applied
low_16 a = and_mask a 16

whole : (t : Scalar) (a : ℕ) → narrowed t a ≡ narrowed t a % 2 ^ 32
whole t a = let h = narrowed-below t a in omega (arith, h)

ones_from : (w : World) (l : ℕ) (x y : ℕ → ℕ) (v : ℕ) → y 0 ≡ v → v < 2 ^ 32 → gives w l x (after w l x y (ones_of (Temp 0)).steps) (ones_of (Temp 0)).last ≡ count_ones v
ones_from w l x y v e h =
    copied _ ∙ ones_by_halves w l x (with_at (with_at (with_at y 4 (applied (op.Min true) (y 0) (y 0))) 5 (applied (op.Min true) (y 0) (y 0))) 6 1) v h refl (copied (y 0) ∙ e) (copied (y 0) ∙ e)

pub popcount_right : (t : Scalar) → Right Popcount t
popcount_right Char w l x y a b c e f g = ones_from w l x (with_at (with_at y 15 255) 0 (applied op.And (y 0) 255)) (narrowed Char a % 2 ^ 8) (low_8 (y 0) ∙ ap (λ z. z % 2 ^ 8) e) (omega arith)
popcount_right Uchar w l x y a b c e f g = ones_from w l x (with_at (with_at y 15 255) 0 (applied op.And (y 0) 255)) (narrowed Uchar a % 2 ^ 8) (low_8 (y 0) ∙ ap (λ z. z % 2 ^ 8) e) (omega arith)
popcount_right Short w l x y a b c e f g = ones_from w l x (with_at (with_at y 15 65535) 0 (applied op.And (y 0) 65535)) (narrowed Short a % 2 ^ 16) (low_16 (y 0) ∙ ap (λ z. z % 2 ^ 16) e) (omega arith)
popcount_right Ushort w l x y a b c e f g = ones_from w l x (with_at (with_at y 15 65535) 0 (applied op.And (y 0) 65535)) (narrowed Ushort a % 2 ^ 16) (low_16 (y 0) ∙ ap (λ z. z % 2 ^ 16) e) (omega arith)
popcount_right Int w l x y a b c e f g = ones_from w l x (with_at y 0 (applied (op.Min true) (y 0) (y 0))) (narrowed Int a % 2 ^ 32) (copied (y 0) ∙ e ∙ whole Int a) (omega arith)
popcount_right Uint w l x y a b c e f g = ones_from w l x (with_at y 0 (applied (op.Min true) (y 0) (y 0))) (narrowed Uint a % 2 ^ 32) (copied (y 0) ∙ e ∙ whole Uint a) (omega arith)

-- the leading zeros of k bits are those of the word less the bits above
clz_narrow : (k v d : ℕ) → d + k ≡ 32 → v < 2 ^ k → applied op.Sub (applied_one one_op.Clz v) d ≡ count_leading_zeros k v
unfolding applied applied_one
clz_narrow k v d h g =
    let r = leading_length k v g in
    let u : count_leading_zeros k v + d ≡ count_leading_zeros 32 v = leading_unique 32 v (count_leading_zeros k v + d) r.0 (let e = r.1 in omega (arith, e, h)) r.2 r.3 in
    let t = leading_le 32 v in
    omega (arith, u, t, h)

clz_by : (k a v d : ℕ) → d + k ≡ 32 → v < 2 ^ k → a ≡ v → applied op.Sub (applied_one one_op.Clz a) d ≡ count_leading_zeros k v
clz_by k a v d h g e = ap (λ z. applied op.Sub (applied_one one_op.Clz z) d) e ∙ clz_narrow k v d h g

pub clz_right : (t : Scalar) → Right Clz t
clz_right Char w l x y a b c e f g = clz_by 8 _ (narrowed Char a % 2 ^ 8) 24 refl (omega arith) (low_8 (y 0) ∙ ap (λ z. z % 2 ^ 8) e)
clz_right Uchar w l x y a b c e f g = clz_by 8 _ (narrowed Uchar a % 2 ^ 8) 24 refl (omega arith) (low_8 (y 0) ∙ ap (λ z. z % 2 ^ 8) e)
clz_right Short w l x y a b c e f g = clz_by 16 _ (narrowed Short a % 2 ^ 16) 16 refl (omega arith) (low_16 (y 0) ∙ ap (λ z. z % 2 ^ 16) e)
clz_right Ushort w l x y a b c e f g = clz_by 16 _ (narrowed Ushort a % 2 ^ 16) 16 refl (omega arith) (low_16 (y 0) ∙ ap (λ z. z % 2 ^ 16) e)
clz_right Int w l x y a b c e f g = clz_by 32 _ (narrowed Int a % 2 ^ 32) 0 refl (omega arith) (copied (y 0) ∙ e ∙ whole Int a)
clz_right Uint w l x y a b c e f g = clz_by 32 _ (narrowed Uint a % 2 ^ 32) 0 refl (omega arith) (copied (y 0) ∙ e ∙ whole Uint a)

-- ---- the distance of words without a sign

min-flipped : (a b : ℕ) → a < 2 ^ 32 → b < 2 ^ 32 → applied (op.Min true) (flip a) (flip b) ≡ flip (applied (op.Min false) a b)
min-flipped a b h g = sym (flip-back (applied (op.Min true) (flip a) (flip b)) (applied-below (op.Min true) (flip a) (flip b) (flip-below a) (flip-below b))) ∙ ap flip (min_by_flipped a b h g)

sub-flipped : (a b : ℕ) → a < 2 ^ 32 → b < 2 ^ 32 → applied op.Sub (flip a) (flip b) ≡ applied op.Sub a b
unfolding applied
sub-flipped a b h g = omega (arith, h, g)

sub-up : (a b : ℕ) → b ≤ a → a < 2 ^ 32 → applied op.Sub a b ≡ word_of (pos a -ℤ pos b)
unfolding applied
sub-up a b h g = (let e : (a + (2 ^ 32 - b)) % 2 ^ 32 ≡ word_of (pos (a - b)) = omega (arith, h, g) in e) ∙ ap word_of (sym (diff-up a b h))

apart-word : (x y : ℕ) → x < 2 ^ 32 → y < 2 ^ 32 → applied op.Sub (applied (op.Max false) x y) (applied (op.Min false) x y) ≡ word_of (apart (pos x) (pos y))
unfolding applied is_less
apart-word x y h g = elim (cases_lt x y) [
  | inl p ↦ (λ i. applied op.Sub (if lt-ltb x y p i then y else x) (if lt-ltb x y p i then x else y)) ∙ sub-up y x (omega (arith, p)) g ∙ sym (ap (λ b. word_of (if b then pos y -ℤ pos x else pos x -ℤ pos y)) (lt-ltb x y p))
  | inr p ↦ (λ i. applied op.Sub (if le-ltb x y p i then y else x) (if le-ltb x y p i then x else y)) ∙ sub-up x y p h ∙ sym (ap (λ b. word_of (if b then pos y -ℤ pos x else pos x -ℤ pos y)) (le-ltb x y p))
]

pub abs_diff_uint : Right AbsDiff Uint
abs_diff_uint w l x y a b c e f g =
    let X = narrowed Uint a in
    let Y = narrowed Uint b in
    let hx = narrowed-below Uint a in
    let hy = narrowed-below Uint b in
    (λ i. applied op.Sub (applied (op.Max true) (flip (e i)) (flip (f i))) (applied (op.Min true) (flip (e i)) (flip (f i))))
    ∙ (λ i. applied op.Sub (max-flipped X Y hx hy i) (min-flipped X Y hx hy i))
    ∙ sub-flipped (applied (op.Max false) X Y) (applied (op.Min false) X Y) (applied-below (op.Max false) X Y hx hy) (applied-below (op.Min false) X Y hx hy)
    ∙ apart-word X Y hx hy

-- ---- magnitudes

neg-is : (x : ℕ) → 0 < x → x < 2 ^ 32 → applied_one one_op.Neg x ≡ 2 ^ 32 - x
unfolding applied_one
neg-is x h g = omega (arith, h, g)

neg-zero : applied_one one_op.Neg 0 ≡ 0
unfolding applied_one
neg-zero = refl

max-left : (x y : ℕ) → is_less true x y ≡ false → applied (op.Max true) x y ≡ x
unfolding applied
max-left x y e = ap (λ b. if b then y else x) e

max-right : (x y : ℕ) → is_less true x y ≡ true → applied (op.Max true) x y ≡ y
unfolding applied
max-right x y e = ap (λ b. if b then y else x) e

pub less-signs : (x y : ℕ) → x < 2 ^ 31 → 2 ^ 31 ≤ y → y < 2 ^ 32 → is_less true x y ≡ false
unfolding is_less
less-signs x y h g k = λ i. int_lt (signed-low x h i) (signed-high y g k i)

pub more-signs : (x y : ℕ) → 2 ^ 31 ≤ x → x < 2 ^ 32 → y < 2 ^ 31 → is_less true x y ≡ true
unfolding is_less
more-signs x y g k h = λ i. int_lt (signed-high x g k i) (signed-low y h i)

abs-low : (x : ℕ) → x < 2 ^ 31 → word_of (apart (signed x) (pos 0)) ≡ x
abs-low x h = ap (λ z. word_of (apart z (pos 0))) (signed-low x h) ∙ ap (λ b. word_of (if b then pos 0 -ℤ pos x else pos x -ℤ pos 0)) (le-ltb x 0 (omega arith)) ∙ ap word_of (diff-up x 0 (omega arith)) ∙ omega (arith, h)

abs-high : (x : ℕ) → 2 ^ 31 ≤ x → x < 2 ^ 32 → word_of (apart (signed x) (pos 0)) ≡ 2 ^ 32 - x
abs-high x h g = ap (λ z. word_of (apart z (pos 0))) (signed-high x h g) ∙ ap word_of (diff-high 0 (2 ^ 32 - 1 - x)) ∙ omega (arith, h, g)

max-same : (v : ℕ) → applied (op.Max true) v v ≡ v
unfolding applied
max-same v = same (is_less true v v)
  where
    same : (b : Bool) → (if b then v else v) ≡ v
    same true = refl
    same false = refl

abs-word : (x : ℕ) → x < 2 ^ 32 → applied (op.Max true) x (applied_one one_op.Neg x) ≡ word_of (apart (signed x) (pos 0))
abs-word x h = elim (cases_lt x (2 ^ 31)) [
  | inl l ↦ elim (cases_lt 0 x) [
    | inl p ↦ max-left x (applied_one one_op.Neg x) (ap (is_less true x) (neg-is x p h) ∙ less-signs x (2 ^ 32 - x) l (omega (arith, l)) (omega (arith, p))) ∙ sym (abs-low x l)
    | inr p ↦
        let z : x ≡ 0 = omega (arith, p) in
        ap (λ v. applied (op.Max true) v (applied_one one_op.Neg v)) z ∙ ap (applied (op.Max true) 0) neg-zero ∙ max-same 0 ∙ sym z ∙ sym (abs-low x l)
  ]
  | inr l ↦ elim (cases_lt (2 ^ 31) x) [
    | inl p ↦ ap (applied (op.Max true) x) (neg-is x (omega (arith, l)) h) ∙ max-right x (2 ^ 32 - x) (more-signs x (2 ^ 32 - x) l h (omega (arith, p))) ∙ sym (abs-high x l h)
    | inr p ↦
        let z : 2 ^ 32 - x ≡ x = omega (arith, l, p) in
        ap (applied (op.Max true) x) (neg-is x (omega (arith, l)) h ∙ z) ∙ max-same x ∙ sym z ∙ sym (abs-high x l h)
  ]
]

unsigned_same : (v : ℕ) → v < 2 ^ 32 → v ≡ word_of (apart (pos v) (pos 0))
unsigned_same v h = sym (ap (λ b. word_of (if b then pos 0 -ℤ pos v else pos v -ℤ pos 0)) (le-ltb v 0 (omega arith)) ∙ ap word_of (diff-up v 0 (omega arith)) ∙ omega (arith, h))

pub abs_right : (t : Scalar) → Right Abs t
abs_right Char w l x y a b c e f g = (λ i. applied (op.Max true) (e i) (applied_one one_op.Neg (e i))) ∙ abs-word (narrowed Char a) (narrowed-below Char a)
abs_right Short w l x y a b c e f g = (λ i. applied (op.Max true) (e i) (applied_one one_op.Neg (e i))) ∙ abs-word (narrowed Short a) (narrowed-below Short a)
abs_right Int w l x y a b c e f g = (λ i. applied (op.Max true) (e i) (applied_one one_op.Neg (e i))) ∙ abs-word (narrowed Int a) (narrowed-below Int a)
abs_right Uchar w l x y a b c e f g = copied (y 0) ∙ e ∙ unsigned_same (narrowed Uchar a) (narrowed-below Uchar a)
abs_right Ushort w l x y a b c e f g = copied (y 0) ∙ e ∙ unsigned_same (narrowed Ushort a) (narrowed-below Ushort a)
abs_right Uint w l x y a b c e f g = copied (y 0) ∙ e ∙ unsigned_same (narrowed Uint a) (narrowed-below Uint a)
