-- Digits and their values.
use Rattle.std.proofs.Common.{◌≡◌, ℕ, zero, suc, ◌+◌, ◌*◌, ◌^◌, ◌<◌, ◌≤◌, nat_lt, Bool, true, false, cond, List, [], ◌∷◌, refl, sym, ap, ◌∙◌, arith, length, take, get_or}
use Rattle.std.specs.Char.{digit_value}
use Rattle.std.specs.Str.Parse.{AllDigits, digits_value}
use Rattle.std.proofs.lemmas.Str.Parse.{digits_value-take-le}
use Rattle.std.proofs.lemmas.Int.Digits.{digits_value_more}
use Rattle.std.proofs.lemmas.Bool.{ltb-true}
use Rattle.clc_lexer.specs.Reading.{digits_of}

-- a digit among digits
pub digit_at : (r : ℕ) (ds : List ℕ) (i : ℕ) → AllDigits r ds → i < length ds → digit_value (get_or ds i 0) < r
digit_at r [] i h lt = absurd (omega (arith, lt))
digit_at r (d ∷ ds) zero h lt = h.0
digit_at r (d ∷ ds) (suc i) h lt = digit_at r ds i h.1 (omega (arith, lt))

-- a value that is too large stays so
pub too_large : (r : ℕ) (ds : List ℕ) (i v : ℕ) → 8 ≤ r → i < length ds → v ≡ digits_value r (take i ds) → 2 ^ 32 ≤ v * r + digit_value (get_or ds i 0) → 2 ^ 32 ≤ digits_value r ds
too_large r ds i v low lt e h =
    let one : 1 ≤ r = omega arith in
    let next = digits_value_more r ds i lt ∙ ap (λ z. z * r + digit_value (get_or ds i 0)) (sym e) in
    let le = digits_value-take-le r ds (i + 1) one in
    omega (arith, next, le, h)

-- the digits at the front are digits, and as many as are taken
digits_all_at : (r b : ℕ) (bs : List ℕ) (v : Bool) → nat_lt (digit_value b) r ≡ v → AllDigits r (digits_of r bs) → AllDigits r (cond v (b ∷ digits_of r bs) [])
digits_all_at r b bs true e h = (ltb-true (digit_value b) r e, h)
digits_all_at r b bs false e h = tt

pub digits_all : (r : ℕ) (bs : List ℕ) → AllDigits r (digits_of r bs)
digits_all r [] = tt
digits_all r (b ∷ bs) = digits_all_at r b bs (nat_lt (digit_value b) r) refl (digits_all r bs)

digits_taken_at : (r b : ℕ) (bs : List ℕ) (v : Bool) → take (length (digits_of r bs)) bs ≡ digits_of r bs
    → take (length (cond v (b ∷ digits_of r bs) [])) (b ∷ bs) ≡ cond v (b ∷ digits_of r bs) []
digits_taken_at r b bs true h = ap (λ z. b ∷ z) h
digits_taken_at r b bs false h = refl

pub digits_taken : (r : ℕ) (bs : List ℕ) → take (length (digits_of r bs)) bs ≡ digits_of r bs
digits_taken r [] = refl
digits_taken r (b ∷ bs) = digits_taken_at r b bs (nat_lt (digit_value b) r) (digits_taken r bs)
