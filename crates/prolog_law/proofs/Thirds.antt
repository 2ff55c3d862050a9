-- A quotient of a quotient.
use Rattle.std.proofs.Common.{◌≡◌, ℕ, ◌+◌, ◌*◌, ◌/◌, ◌%◌, ◌<◌, sym, ap, ◌∙◌, arith}
use Rattle.std.proofs.lemmas.Nat.{div-add-mod', mul-add-lt, div-mul-add, mod_below}

parts_together : (q r b c x : ℕ) → (q * c + r) * b + x ≡ q * (b * c) + (r * b + x)
parts_together q r b c x = omega arith

pub quotient_twice : (a b c : ℕ) → 0 < b → 0 < c → a / b / c ≡ a / (b * c)
quotient_twice a b c p q =
    let low = mul-add-lt (a / b % c) b (a % b) c (mod_below (a / b) c q) (mod_below a b p) in
    let whole : a / b / c * (b * c) + (a / b % c * b + a % b) ≡ a =
    sym (parts_together (a / b / c) (a / b % c) b c (a % b)) ∙ ap (λ z. z * b + a % b) (div-add-mod' (a / b) c) ∙ div-add-mod' a b in
    sym (div-mul-add (a / b / c) (b * c) (a / b % c * b + a % b) low) ∙ ap (λ z. z / (b * c)) whole
