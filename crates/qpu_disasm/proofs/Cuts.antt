-- A text is cut where its first mark stands: a space, a comma, a dot or a colon.
use Rattle.std.proofs.Common.{◌≡◌, ◌∙◌, ℕ, Bool, true, List, [], ◌∷◌, ◌++◌, refl, sym, ap}
use Rattle.std.specs.Prelude.{◌==◌, ◌||◌, ◌&&◌, not}
use Rattle.std.proofs.lemmas.Bool.{and_parts}

abbrev pub is_mark : ℕ → Bool
is_mark c = (c == 32) || ((c == 44) || ((c == 46) || (c == 58)))

-- no byte is a mark
abbrev pub is_whole : List ℕ → Bool
is_whole [] = true
is_whole (c ∷ cs) = not (is_mark c) && is_whole cs

-- nothing, or a mark and more
abbrev pub opens : List ℕ → Bool
opens [] = true
opens (c ∷ cs) = is_mark c

-- a byte is a mark or not
clash : (c d : ℕ) → c ≡ d → is_mark c ≡ true → not (is_mark d) ≡ true → ⊥
clash c d e m n = let t : is_mark d ≡ true = sym (ap is_mark e) ∙ m in cc (rw t at n)

pub rest_of : {c d : ℕ} {s t : List ℕ} → c ∷ s ≡ d ∷ t → s ≡ t
rest_of e = cc

-- what stands before the first mark, and what from it on
pub cut : (xs ys s t : List ℕ) → xs ++ s ≡ ys ++ t → is_whole xs ≡ true → is_whole ys ≡ true → opens s ≡ true → opens t ≡ true → (xs ≡ ys) × (s ≡ t)
cut [] [] s t e a b o p = (refl, e)
cut [] (y ∷ ys) [] t e a b o p = cc
cut [] (y ∷ ys) (c ∷ s) t e a b o p = absurd (clash c y (cc) o (and_parts (not (is_mark y)) (is_whole ys) b).0)
cut (x ∷ xs) [] s [] e a b o p = cc
cut (x ∷ xs) [] s (d ∷ t) e a b o p = absurd (clash d x (cc) p (and_parts (not (is_mark x)) (is_whole xs) a).0)
cut (x ∷ xs) (y ∷ ys) s t e a b o p =
    let r = cut xs ys s t (cc) (and_parts (not (is_mark x)) (is_whole xs) a).1 (and_parts (not (is_mark y)) (is_whole ys) b).1 o p in
    let whole : x ∷ xs ≡ y ∷ ys = cc in
    (whole, r.1)
