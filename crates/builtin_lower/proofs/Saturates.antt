-- Sums and differences that stay within their type.
use Rattle.std.proofs.Common.{◌≡◌, ℕ, ◌+◌, ◌-◌, ◌%◌, ◌^◌, ◌<◌, ◌≤◌, ◌⊎◌, inl, inr, true, false, refl, sym, ap, ◌∙◌, arith}
use Rattle.std.specs.Prelude.{if◌then◌else◌, ℤ, pos, negsuc, ◌-ℤ◌, ◌+ℤ◌, nat_lt}
use Rattle.std.proofs.lemmas.Bool.{cases_lt, lt-ltb, le-ltb}
use Rattle.std.proofs.lemmas.Int.{ints}
use Rattle.q_lane.specs.declared.kinds.Scalar.TheVariants.{Char, Uchar, Short, Ushort, Uint}
use Rattle.q_lane.specs.declared.operations.BinOp.TheVariants as op
use Rattle.q_lane.specs.declared.operations.UnOp.TheVariants as one_op
use Rattle.q_lane.specs.Numbers.{applied, applied_one, is_less, signed, word_of, narrowed}
use Rattle.q_lane.proofs.WordLaws.{narrowed-below, applied-below}
use Rattle.q_functions.specs.declared.functions.NumberFunction.TheVariants.{AddSat, SubSat}
use Rattle.builtin_lower.proofs.BuiltIns.{lesser, greater}
use Rattle.q_functions.specs.NumberFunctions.{number}
use Rattle.builtin_lower.proofs.Orders.{flip, min_by_flipped}
use Rattle.builtin_lower.proofs.Narrows.{signed-low, signed-high}
use Rattle.builtin_lower.proofs.Functions.{Right, number-signed, lesser-signed, greater-is, diff-up, diff-down, diff-low, diff-high, diff-both_up, diff-both_down}

-- a word of a narrow type
abbrev Small : ℕ → Type 0
Small x = (x < 2 ^ 16) ⊎ ((2 ^ 32 - 2 ^ 16 ≤ x) × (x < 2 ^ 32))

pub sum-up : (x k : ℕ) → k < x → pos x +ℤ negsuc k ≡ pos (x - k - 1)
sum-up x k h = omega (arith, ints, h)

pub sum-down : (x k : ℕ) → x ≤ k → pos x +ℤ negsuc k ≡ negsuc (k - x)
sum-down x k h = omega (arith, ints, h)

pub sum-up' : (x k : ℕ) → k < x → negsuc k +ℤ pos x ≡ pos (x - k - 1)
sum-up' x k h = omega (arith, ints, h)

pub sum-down' : (x k : ℕ) → x ≤ k → negsuc k +ℤ pos x ≡ negsuc (k - x)
sum-down' x k h = omega (arith, ints, h)

pub sum-both : (j k : ℕ) → negsuc j +ℤ negsuc k ≡ negsuc (j + k + 1)
sum-both j k = omega (arith, ints)

-- a signed word, given as a number
signed-pos : (a n : ℕ) → a ≡ n → n < 2 ^ 31 → signed a ≡ pos n
signed-pos a n e h = ap signed e ∙ signed-low n h

signed-neg : (a n : ℕ) → a + n + 1 ≡ 2 ^ 32 → n < 2 ^ 31 → signed a ≡ negsuc n
signed-neg a n e h = signed-high a (omega (arith, e, h)) (omega (arith, e)) ∙ ap negsuc (omega (arith, e))

add-signed : (x y : ℕ) → Small x → Small y → signed (applied op.Add x y) ≡ signed x +ℤ signed y
unfolding applied
add-signed x y (inl h) (inl g) = signed-pos _ (x + y) (omega (arith, h, g)) (omega (arith, h, g)) ∙ (λ i. sym (signed-low x (omega (arith, h))) i +ℤ sym (signed-low y (omega (arith, g))) i)
add-signed x y (inl h) (inr g) =
    elim (cases_lt (2 ^ 32 - 1 - y) x) [
      | inl p ↦ signed-pos _ (x - (2 ^ 32 - 1 - y) - 1) (omega (arith, h, g.0, g.1, p)) (omega (arith, h)) ∙ sym (sum-up x (2 ^ 32 - 1 - y) p) ∙ (λ i. sym (signed-low x (omega (arith, h))) i +ℤ sym (signed-high y (omega (arith, g.0)) g.1) i)
      | inr p ↦ signed-neg _ (2 ^ 32 - 1 - y - x) (omega (arith, h, g.0, g.1, p)) (omega (arith, g.0)) ∙ sym (sum-down x (2 ^ 32 - 1 - y) p) ∙ (λ i. sym (signed-low x (omega (arith, h))) i +ℤ sym (signed-high y (omega (arith, g.0)) g.1) i)
    ]
add-signed x y (inr h) (inl g) =
    elim (cases_lt (2 ^ 32 - 1 - x) y) [
      | inl p ↦ signed-pos _ (y - (2 ^ 32 - 1 - x) - 1) (omega (arith, g, h.0, h.1, p)) (omega (arith, g)) ∙ sym (sum-up' y (2 ^ 32 - 1 - x) p) ∙ (λ i. sym (signed-high x (omega (arith, h.0)) h.1) i +ℤ sym (signed-low y (omega (arith, g))) i)
      | inr p ↦ signed-neg _ (2 ^ 32 - 1 - x - y) (omega (arith, g, h.0, h.1, p)) (omega (arith, h.0)) ∙ sym (sum-down' y (2 ^ 32 - 1 - x) p) ∙ (λ i. sym (signed-high x (omega (arith, h.0)) h.1) i +ℤ sym (signed-low y (omega (arith, g))) i)
    ]
add-signed x y (inr h) (inr g) =
    signed-neg _ (2 ^ 32 - 1 - x + (2 ^ 32 - 1 - y) + 1) (omega (arith, h.0, h.1, g.0, g.1)) (omega (arith, h.0, g.0)) ∙ sym (sum-both (2 ^ 32 - 1 - x) (2 ^ 32 - 1 - y)) ∙ (λ i. sym (signed-high x (omega (arith, h.0)) h.1) i +ℤ sym (signed-high y (omega (arith, g.0)) g.1) i)

char_small : (a : ℕ) → Small (narrowed Char a)
unfolding narrowed
char_small a = elim (cases_lt (a % 2 ^ 8) (2 ^ 7)) [
  | inl h ↦ let e : narrowed Char a ≡ a % 2 ^ 8 = ap (λ b. if b then a % 2 ^ 8 else a % 2 ^ 8 + (2 ^ 32 - 2 ^ 8)) (lt-ltb (a % 2 ^ 8) (2 ^ 7) h) in inl (omega (arith, e, h))
  | inr h ↦ let e : narrowed Char a ≡ a % 2 ^ 8 + (2 ^ 32 - 2 ^ 8) = ap (λ b. if b then a % 2 ^ 8 else a % 2 ^ 8 + (2 ^ 32 - 2 ^ 8)) (le-ltb (a % 2 ^ 8) (2 ^ 7) h) in inr (omega (arith, e), omega (arith, e))
]

short_small : (a : ℕ) → Small (narrowed Short a)
unfolding narrowed
short_small a = elim (cases_lt (a % 2 ^ 16) (2 ^ 15)) [
  | inl h ↦ let e : narrowed Short a ≡ a % 2 ^ 16 = ap (λ b. if b then a % 2 ^ 16 else a % 2 ^ 16 + (2 ^ 32 - 2 ^ 16)) (lt-ltb (a % 2 ^ 16) (2 ^ 15) h) in inl (omega (arith, e, h))
  | inr h ↦ let e : narrowed Short a ≡ a % 2 ^ 16 + (2 ^ 32 - 2 ^ 16) = ap (λ b. if b then a % 2 ^ 16 else a % 2 ^ 16 + (2 ^ 32 - 2 ^ 16)) (le-ltb (a % 2 ^ 16) (2 ^ 15) h) in inr (omega (arith, e), omega (arith, e))
]

uchar_small : (a : ℕ) → Small (narrowed Uchar a)
unfolding narrowed
uchar_small a = inl (omega arith)

ushort_small : (a : ℕ) → Small (narrowed Ushort a)
unfolding narrowed
ushort_small a = inl (omega arith)

add-below : (a b : ℕ) → applied op.Add a b < 2 ^ 32
unfolding applied
add-below a b = omega arith

-- clamped sums of narrow words
sat_plain : (X Y lo hi : ℕ) (u v : ℤ) → lo < 2 ^ 32 → hi < 2 ^ 32 → signed X ≡ u → signed Y ≡ v → Small X → Small Y
    → applied (op.Min true) (applied (op.Max true) (applied op.Add X Y) lo) hi ≡ word_of (lesser (greater (u +ℤ v) (signed lo)) (signed hi))
sat_plain X Y lo hi u v hl hh eu ev sx sy =
    let S = applied op.Add X Y in
    let hs : S < 2 ^ 32 = add-below X Y in
    sym (lesser-signed (applied (op.Max true) S lo) hi (applied-below (op.Max true) S lo hs hl) hh)
    ∙ (λ i. word_of (lesser (sym (greater-is S lo) i) (signed hi)))
    ∙ (λ i. word_of (lesser (greater ((add-signed X Y sx sy ∙ (λ j. eu j +ℤ ev j)) i) (signed lo)) (signed hi)))

pub add_sat_char : Right AddSat Char
add_sat_char w l x y a b c e f g =
    (λ i. applied (op.Min true) (applied (op.Max true) (applied op.Add (e i) (f i)) 4294967168) 127)
    ∙ sat_plain (narrowed Char a) (narrowed Char b) 4294967168 127 (number Char (narrowed Char a)) (number Char (narrowed Char b)) (omega arith) (omega arith) (sym (number-signed Char a refl)) (sym (number-signed Char b refl)) (char_small a) (char_small b)

pub add_sat_uchar : Right AddSat Uchar
add_sat_uchar w l x y a b c e f g =
    (λ i. applied (op.Min true) (applied (op.Max true) (applied op.Add (e i) (f i)) 0) 255)
    ∙ sat_plain (narrowed Uchar a) (narrowed Uchar b) 0 255 (number Uchar (narrowed Uchar a)) (number Uchar (narrowed Uchar b)) (omega arith) (omega arith) (sym (number-signed Uchar a refl)) (sym (number-signed Uchar b refl)) (uchar_small a) (uchar_small b)

pub add_sat_short : Right AddSat Short
add_sat_short w l x y a b c e f g =
    (λ i. applied (op.Min true) (applied (op.Max true) (applied op.Add (e i) (f i)) 4294934528) 32767)
    ∙ sat_plain (narrowed Short a) (narrowed Short b) 4294934528 32767 (number Short (narrowed Short a)) (number Short (narrowed Short b)) (omega arith) (omega arith) (sym (number-signed Short a refl)) (sym (number-signed Short b refl)) (short_small a) (short_small b)

pub add_sat_ushort : Right AddSat Ushort
add_sat_ushort w l x y a b c e f g =
    (λ i. applied (op.Min true) (applied (op.Max true) (applied op.Add (e i) (f i)) 0) 65535)
    ∙ sat_plain (narrowed Ushort a) (narrowed Ushort b) 0 65535 (number Ushort (narrowed Ushort a)) (number Ushort (narrowed Ushort b)) (omega arith) (omega arith) (sym (number-signed Ushort a refl)) (sym (number-signed Ushort b refl)) (ushort_small a) (ushort_small b)

sub-signed : (x y : ℕ) → Small x → Small y → signed (applied op.Sub x y) ≡ signed x -ℤ signed y
unfolding applied
sub-signed x y (inl h) (inl g) = elim (cases_lt x y) [
  | inl p ↦ signed-neg _ (y - x - 1) (omega (arith, h, g, p)) (omega (arith, g)) ∙ sym (diff-down x y p) ∙ (λ i. sym (signed-low x (omega (arith, h))) i -ℤ sym (signed-low y (omega (arith, g))) i)
  | inr p ↦ signed-pos _ (x - y) (omega (arith, h, g, p)) (omega (arith, h)) ∙ sym (diff-up x y p) ∙ (λ i. sym (signed-low x (omega (arith, h))) i -ℤ sym (signed-low y (omega (arith, g))) i)
]
sub-signed x y (inl h) (inr g) =
    signed-pos _ (x + (2 ^ 32 - 1 - y) + 1) (omega (arith, h, g.0, g.1)) (omega (arith, h, g.0)) ∙ sym (diff-high x (2 ^ 32 - 1 - y)) ∙ (λ i. sym (signed-low x (omega (arith, h))) i -ℤ sym (signed-high y (omega (arith, g.0)) g.1) i)
sub-signed x y (inr h) (inl g) =
    signed-neg _ (2 ^ 32 - 1 - x + y) (omega (arith, h.0, h.1, g)) (omega (arith, h.0, g)) ∙ sym (diff-low (2 ^ 32 - 1 - x) y) ∙ (λ i. sym (signed-high x (omega (arith, h.0)) h.1) i -ℤ sym (signed-low y (omega (arith, g))) i)
sub-signed x y (inr h) (inr g) = elim (cases_lt x y) [
  | inl p ↦ signed-neg _ (2 ^ 32 - 1 - x - (2 ^ 32 - 1 - y) - 1) (omega (arith, h.0, h.1, g.0, g.1, p)) (omega (arith, h.0)) ∙ sym (diff-both_down (2 ^ 32 - 1 - x) (2 ^ 32 - 1 - y) (omega (arith, p, g.1))) ∙ (λ i. sym (signed-high x (omega (arith, h.0)) h.1) i -ℤ sym (signed-high y (omega (arith, g.0)) g.1) i)
  | inr p ↦ signed-pos _ (2 ^ 32 - 1 - y - (2 ^ 32 - 1 - x)) (omega (arith, h.0, h.1, g.0, g.1, p)) (omega (arith, g.0)) ∙ sym (diff-both_up (2 ^ 32 - 1 - x) (2 ^ 32 - 1 - y) (omega (arith, p))) ∙ (λ i. sym (signed-high x (omega (arith, h.0)) h.1) i -ℤ sym (signed-high y (omega (arith, g.0)) g.1) i)
]

sub-below : (a b : ℕ) → applied op.Sub a b < 2 ^ 32
unfolding applied
sub-below a b = omega arith

sat_minus : (X Y lo hi : ℕ) (u v : ℤ) → lo < 2 ^ 32 → hi < 2 ^ 32 → signed X ≡ u → signed Y ≡ v → Small X → Small Y
    → applied (op.Min true) (applied (op.Max true) (applied op.Sub X Y) lo) hi ≡ word_of (lesser (greater (u -ℤ v) (signed lo)) (signed hi))
sat_minus X Y lo hi u v hl hh eu ev sx sy =
    let S = applied op.Sub X Y in
    let hs : S < 2 ^ 32 = sub-below X Y in
    sym (lesser-signed (applied (op.Max true) S lo) hi (applied-below (op.Max true) S lo hs hl) hh)
    ∙ (λ i. word_of (lesser (sym (greater-is S lo) i) (signed hi)))
    ∙ (λ i. word_of (lesser (greater ((sub-signed X Y sx sy ∙ (λ j. eu j -ℤ ev j)) i) (signed lo)) (signed hi)))

pub sub_sat_char : Right SubSat Char
sub_sat_char w l x y a b c e f g =
    (λ i. applied (op.Min true) (applied (op.Max true) (applied op.Sub (e i) (f i)) 4294967168) 127)
    ∙ sat_minus (narrowed Char a) (narrowed Char b) 4294967168 127 (number Char (narrowed Char a)) (number Char (narrowed Char b)) (omega arith) (omega arith) (sym (number-signed Char a refl)) (sym (number-signed Char b refl)) (char_small a) (char_small b)

pub sub_sat_uchar : Right SubSat Uchar
sub_sat_uchar w l x y a b c e f g =
    (λ i. applied (op.Min true) (applied (op.Max true) (applied op.Sub (e i) (f i)) 0) 255)
    ∙ sat_minus (narrowed Uchar a) (narrowed Uchar b) 0 255 (number Uchar (narrowed Uchar a)) (number Uchar (narrowed Uchar b)) (omega arith) (omega arith) (sym (number-signed Uchar a refl)) (sym (number-signed Uchar b refl)) (uchar_small a) (uchar_small b)

pub sub_sat_short : Right SubSat Short
sub_sat_short w l x y a b c e f g =
    (λ i. applied (op.Min true) (applied (op.Max true) (applied op.Sub (e i) (f i)) 4294934528) 32767)
    ∙ sat_minus (narrowed Short a) (narrowed Short b) 4294934528 32767 (number Short (narrowed Short a)) (number Short (narrowed Short b)) (omega arith) (omega arith) (sym (number-signed Short a refl)) (sym (number-signed Short b refl)) (short_small a) (short_small b)

pub sub_sat_ushort : Right SubSat Ushort
sub_sat_ushort w l x y a b c e f g =
    (λ i. applied (op.Min true) (applied (op.Max true) (applied op.Sub (e i) (f i)) 0) 65535)
    ∙ sat_minus (narrowed Ushort a) (narrowed Ushort b) 0 65535 (number Ushort (narrowed Ushort a)) (number Ushort (narrowed Ushort b)) (omega arith) (omega arith) (sym (number-signed Ushort a refl)) (sym (number-signed Ushort b refl)) (ushort_small a) (ushort_small b)

-- without a sign
clamp-pos : (s : ℕ) → word_of (lesser (greater (pos s) (pos 0)) (pos 4294967295)) ≡ (if nat_lt s 4294967295 then s else 4294967295)
clamp-pos s = ap (λ b. word_of (lesser (if b then pos 0 else pos s) (pos 4294967295))) (le-ltb s 0 (omega arith)) ∙ elim (cases_lt s 4294967295) [
  | inl h ↦ ap (λ b. word_of (if b then pos s else pos 4294967295)) (lt-ltb s 4294967295 h) ∙ (let e : s % 2 ^ 32 ≡ s = omega (arith, h) in e) ∙ sym (ap (λ b. if b then s else 4294967295) (lt-ltb s 4294967295 h))
  | inr h ↦ ap (λ b. word_of (if b then pos s else pos 4294967295)) (le-ltb s 4294967295 h) ∙ sym (ap (λ b. if b then s else 4294967295) (le-ltb s 4294967295 h))
]

add-least : (x y : ℕ) → x < 2 ^ 32 → y < 2 ^ 32 → applied op.Add x (applied (op.Min false) y (applied_one one_op.Not x)) ≡ word_of (lesser (greater (pos (x + y)) (pos 0)) (pos 4294967295))
unfolding applied applied_one is_less
add-least x y h g = elim (cases_lt y (2 ^ 32 - 1 - x)) [
  | inl p ↦ ap (λ b. (x + (if b then y else 2 ^ 32 - 1 - x)) % 2 ^ 32) (lt-ltb y (2 ^ 32 - 1 - x) p) ∙ sym (clamp-pos (x + y) ∙ ap (λ b. if b then x + y else 4294967295) (lt-ltb (x + y) 4294967295 (omega (arith, p, h))) ∙ omega (arith, p, h))
  | inr p ↦ ap (λ b. (x + (if b then y else 2 ^ 32 - 1 - x)) % 2 ^ 32) (le-ltb y (2 ^ 32 - 1 - x) p) ∙ sym (clamp-pos (x + y) ∙ ap (λ b. if b then x + y else 4294967295) (le-ltb (x + y) 4294967295 (omega (arith, p, h))) ∙ omega (arith, p, h))
]

not-below : (x : ℕ) → applied_one one_op.Not x < 2 ^ 32
unfolding applied_one
not-below x = omega arith

pub add_sat_uint : Right AddSat Uint
add_sat_uint w l x y a b c e f g =
    (λ i. applied op.Add (e i) (flip (applied (op.Min true) (flip (f i)) (flip (applied_one one_op.Not (e i))))))
    ∙ ap (applied op.Add (narrowed Uint a)) (min_by_flipped (narrowed Uint b) (applied_one one_op.Not (narrowed Uint a)) (narrowed-below Uint b) (not-below (narrowed Uint a)))
    ∙ add-least (narrowed Uint a) (narrowed Uint b) (narrowed-below Uint a) (narrowed-below Uint b)

sub-least : (x y : ℕ) → x < 2 ^ 32 → y < 2 ^ 32 → applied op.Sub x (applied (op.Min false) y x) ≡ word_of (lesser (greater (pos x -ℤ pos y) (pos 0)) (pos 4294967295))
unfolding applied is_less
sub-least x y h g = elim (cases_lt y x) [
  | inl p ↦ ap (λ b. (x + (2 ^ 32 - (if b then y else x))) % 2 ^ 32) (lt-ltb y x p) ∙ sym (ap (λ z. word_of (lesser (greater z (pos 0)) (pos 4294967295))) (diff-up x y (omega (arith, p))) ∙ clamp-pos (x - y) ∙ least_of (x - y) (omega (arith, h)) ∙ omega (arith, p, h))
  | inr p ↦ ap (λ b. (x + (2 ^ 32 - (if b then y else x))) % 2 ^ 32) (le-ltb y x p) ∙ (let z : (x + (2 ^ 32 - x)) % 2 ^ 32 ≡ 0 = omega (arith, h) in z) ∙ sym (below (cases_lt x y) p)
]
  where
    least_of : (s : ℕ) → s < 2 ^ 32 → (if nat_lt s 4294967295 then s else 4294967295) ≡ s
    least_of s q = elim (cases_lt s 4294967295) [
      | inl t ↦ ap (λ b. if b then s else 4294967295) (lt-ltb s 4294967295 t)
      | inr t ↦ ap (λ b. if b then s else 4294967295) (le-ltb s 4294967295 t) ∙ omega (arith, q, t)
    ]

    below : (x < y) ⊎ (y ≤ x) → x ≤ y → word_of (lesser (greater (pos x -ℤ pos y) (pos 0)) (pos 4294967295)) ≡ 0
    below (inl q) p = ap (λ z. word_of (lesser (greater z (pos 0)) (pos 4294967295))) (diff-down x y q)
    below (inr q) p = ap (λ z. word_of (lesser (greater z (pos 0)) (pos 4294967295))) (diff-up x y q) ∙ clamp-pos (x - y) ∙ least_of (x - y) (omega (arith, h)) ∙ omega (arith, p)

pub sub_sat_uint : Right SubSat Uint
sub_sat_uint w l x y a b c e f g =
    (λ i. applied op.Sub (e i) (flip (applied (op.Min true) (flip (f i)) (flip (e i)))))
    ∙ ap (applied op.Sub (narrowed Uint a)) (min_by_flipped (narrowed Uint b) (narrowed Uint a) (narrowed-below Uint b) (narrowed-below Uint a))
    ∙ sub-least (narrowed Uint a) (narrowed Uint b) (narrowed-below Uint a) (narrowed-below Uint b)
