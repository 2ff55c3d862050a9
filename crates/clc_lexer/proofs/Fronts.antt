-- What stands at the front of a list.
use Rattle.std.proofs.Common.{◌≡◌, ℕ, Bool, true, false, cond, ◌&&◌, List, [], ◌∷◌, ◌++◌, refl, sym, ap, ◌∙◌, length, take, drop, nat_eq, eqb}
use Rattle.std.proofs.lemmas.Bool.{eqb-true, eq-eqb}
use Rattle.std.specs.Cmp.Lexicographic.{pointwise, bytes_decides}
use Rattle.std.specs.Str.{bytes_eq}
use Rattle.clc_lexer.specs.Scanning.{starts_with}

pub starts_append : (m rest : List ℕ) → starts_with m (m ++ rest) ≡ true
starts_append [] rest = refl
starts_append (c ∷ cs) rest = ap (λ v. cond v (starts_with cs (cs ++ rest)) false) (eq-eqb c c refl) ∙ starts_append cs rest

pub starts_split : (m bytes : List ℕ) → starts_with m bytes ≡ true → (rest : List ℕ) × (bytes ≡ m ++ rest)
starts_split [] bytes h = (bytes, refl)
starts_split (m ∷ ms) [] h = absurd (cc)
starts_split (m ∷ ms) (b ∷ bs) h = starts_split_at (eqb m b) refl h (starts_split ms bs)
  where
    starts_split_at : (v : Bool) → eqb m b ≡ v → cond v (starts_with ms bs) false ≡ true → (starts_with ms bs ≡ true → (rest : List ℕ) × (bs ≡ ms ++ rest)) → (rest : List ℕ) × (b ∷ bs ≡ (m ∷ ms) ++ rest)
    starts_split_at true e g ih = let x = ih g in let same_byte : m ≡ b = eqb-true m b e in (x.0, ap (λ z. b ∷ z) x.1 ∙ ap (λ z. z ∷ (ms ++ x.0)) (sym same_byte))
    starts_split_at false e g ih = absurd (cc)

pub same_is : (m bytes : List ℕ) → bytes_eq m bytes ≡ true → m ≡ bytes
same_is m bytes h = (bytes_decides m bytes).0 h

pub same_self : (m : List ℕ) → bytes_eq m m ≡ true
same_self m = (bytes_decides m m).1 refl

-- std's test of a front is ours
both_at : (v : Bool) (x y : Bool) → x ≡ y → (v && x) ≡ cond v y false
both_at true x y h = h
both_at false x y h = refl

pub test_is : (m bytes : List ℕ) → pointwise nat_eq m (take (length m) bytes) ≡ starts_with m bytes
test_is [] [] = refl
test_is [] (b ∷ bs) = refl
test_is (m ∷ ms) [] = refl
test_is (m ∷ ms) (b ∷ bs) = both_at (eqb m b) (pointwise nat_eq ms (take (length ms) bs)) (starts_with ms bs) (test_is ms bs)

-- where the front is taken off
pub stripped : (m bytes : List ℕ) → pointwise nat_eq (take (length m) bytes) m ≡ true → starts_with m bytes ≡ true
stripped m bytes h =
    let e = same_is (take (length m) bytes) m h in
    sym (test_is m bytes) ∙ ap (λ z. bytes_eq m z) e ∙ same_self m

not_both : (v : Bool) (P : Type 0) → v ≡ false → v ≡ true → P
not_both v P e f = let bad : ◌≡◌ {A = Bool} false true = sym e ∙ f in absurd (cc)

by_test : (v : Bool) → (v ≡ true → ⊥) → v ≡ false
by_test true h = absurd (h refl)
by_test false h = refl

pub not_stripped : (m bytes : List ℕ) → pointwise nat_eq (take (length m) bytes) m ≡ false → starts_with m bytes ≡ false
not_stripped m bytes h =
    by_test (starts_with m bytes) (λ s.
    let e : m ≡ take (length m) bytes = same_is m (take (length m) bytes) (test_is m bytes ∙ s) in
    not_both (pointwise nat_eq (take (length m) bytes) m) ⊥ h (ap (λ z. bytes_eq z m) (sym e) ∙ same_self m))

pub starts_is : (m bytes : List ℕ) → starts_with m bytes ≡ true → bytes ≡ m ++ drop (length m) bytes
starts_is [] bytes h = refl
starts_is (m ∷ ms) [] h = absurd (cc)
starts_is (m ∷ ms) (b ∷ bs) h = starts_is_at (eqb m b) refl h (starts_is ms bs)
  where
    starts_is_at : (v : Bool) → eqb m b ≡ v → cond v (starts_with ms bs) false ≡ true → (starts_with ms bs ≡ true → bs ≡ ms ++ drop (length ms) bs) → b ∷ bs ≡ m ∷ (ms ++ drop (length ms) bs)
    starts_is_at true e g ih = let same : m ≡ b = eqb-true m b e in ap (λ z. b ∷ z) (ih g) ∙ ap (λ z. z ∷ (ms ++ drop (length ms) bs)) (sym same)
    starts_is_at false e g ih = absurd (cc)
