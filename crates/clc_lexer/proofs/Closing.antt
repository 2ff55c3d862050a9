-- Looking for the end of a comment, byte by byte.
use Rattle.std.proofs.Common.{◌≡◌, ℕ, suc, ◌+◌, ◌<◌, false, cond, List, [], ◌∷◌, Option, Some, None, refl, sym, ap, ◌∙◌, length, drop, get_or, drop-cons, arith}
use Rattle.clc_lexer.specs.Scanning.{starts_with, close_of, more_by}

pub close_next : (b : ℕ) (rest : List ℕ) → starts_with (42 ∷ 47 ∷ []) (b ∷ rest) ≡ false → close_of (b ∷ rest) ≡ more_by 1 (close_of rest)
close_next b rest h = ap (λ v. cond v (Some 0) (more_by 1 (close_of rest))) h

pub more_next : (k : ℕ) (o : Option ℕ) → more_by k (more_by 1 o) ≡ more_by (k + 1) o
more_next k None = refl
more_next k (Some n) = ap Some (omega arith)

-- one byte further on
pub close_step : (bytes : List ℕ) (i : ℕ) (o : Option ℕ) → i < length bytes → o ≡ more_by i (close_of (drop i bytes)) → starts_with (42 ∷ 47 ∷ []) (drop i bytes) ≡ false
    → o ≡ more_by (i + 1) (close_of (drop (i + 1) bytes))
close_step bytes i o lt h no_close =
    let e : drop i bytes ≡ get_or bytes i 0 ∷ drop (suc i) bytes = drop-cons bytes i 0 lt in
    let one : i + 1 ≡ suc i = omega arith in
    let s = ap (starts_with (42 ∷ 47 ∷ [])) (sym e) ∙ no_close in
    h ∙ ap (λ z. more_by i (close_of z)) e ∙ ap (more_by i) (close_next (get_or bytes i 0) (drop (suc i) bytes) s)
    ∙ more_next i (close_of (drop (suc i) bytes)) ∙ ap (λ z. more_by (i + 1) (close_of (drop z bytes))) (sym one)
