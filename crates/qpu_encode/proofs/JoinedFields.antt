-- A number is its fields.
use Rattle.std.specs.Prelude.{◌≡◌, ℕ, ◌+◌, ◌/◌, ◌%◌, ◌^◌, ◌<◌, List, [], ◌∷◌, refl}
use Rattle.std.proofs.Common.{arith, sym, ap, subst, ◌∙◌}
use Rattle.std.proofs.lemmas.Nat.{shr-shr, shr_high, mod_low, shr_split, shr_below}
use Rattle.qpu_encode.specs.WordFields.{FitEach, join, fields_from, bits_of}

-- the fields of a joined number are its parts
pub fields_of_join : (ws vs : List ℕ) → FitEach ws vs → (lo n : ℕ) → n / 2 ^ lo ≡ join ws vs → fields_from lo ws n ≡ vs
fields_of_join [] [] h lo n e = refl
fields_of_join [] (v ∷ vs) h lo n e = absurd h
fields_of_join (w ∷ ws) [] h lo n e = absurd h
fields_of_join (w ∷ ws) (v ∷ vs) h lo n e =
    let low : n / 2 ^ lo % 2 ^ w ≡ v = ap (λ m. m % 2 ^ w) e ∙ mod_low (join ws vs) w v h.0 in
    let high : n / 2 ^ (lo + w) ≡ join ws vs = sym (shr-shr n lo w) ∙ ap (λ m. m / 2 ^ w) e ∙ shr_high (join ws vs) w v h.0 in
    rw (low, fields_of_join ws vs h.1 (lo + w) n high)

-- a number joined from its fields is the number
pub join_of_fields : (ws : List ℕ) (lo n : ℕ) → n < 2 ^ (lo + bits_of ws) → join ws (fields_from lo ws n) ≡ n / 2 ^ lo
join_of_fields [] lo n h =
    let small : n / 2 ^ lo < 2 ^ 0 = shr_below n 0 lo (subst (λ (k : ℕ). n < 2 ^ k) (let e : lo + 0 ≡ 0 + lo = omega arith in e) h) in
    omega arith
join_of_fields (w ∷ ws) lo n h =
    let e : lo + (w + bits_of ws) ≡ lo + w + bits_of ws = omega arith in
    let again : join ws (fields_from (lo + w) ws n) ≡ n / 2 ^ (lo + w) = join_of_fields ws (lo + w) n (subst (λ (k : ℕ). n < 2 ^ k) e h) in
    rw (again, ← shr-shr n lo w) (shr_split (n / 2 ^ lo) w)
