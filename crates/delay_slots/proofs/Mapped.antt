-- A list that is mapped, and what is left of it.
use Rattle.std.proofs.Common.{◌≡◌, ℕ, zero, suc, ◌+◌, ◌<◌, ◌≤◌, List, [], ◌∷◌, ◌++◌, drop, length, get_or, refl, sym, ap, subst, ◌∙◌, arith}
use Rattle.std.specs.Prelude.{map}
use Rattle.std.proofs.lemmas.List.{append_assoc, append-nil}
use Rattle.qpu_encode.specs.declared.form.Form.{Form}
use Rattle.qpu_encode.specs.WordFields.{word_of}

map_last : (fs : List Form) (f : Form) → map word_of (fs ++ f ∷ []) ≡ map word_of fs ++ word_of f ∷ []
map_last [] f = refl
map_last (x ∷ fs) f = ap (λ ws. word_of x ∷ ws) (map_last fs f)

-- what is left begins with the next word
left_over : (ws : List ℕ) (i d : ℕ) → i < length ws → drop i ws ≡ get_or ws i d ∷ drop (i + 1) ws
left_over [] i d h = absurd (omega (arith, h))
left_over (w ∷ ws) zero d h = refl
left_over (w ∷ ws) (suc i) d h = subst (λ (n : ℕ). drop i ws ≡ get_or ws i d ∷ drop n (w ∷ ws)) (let e : suc (i + 1) ≡ suc i + 1 = omega arith in e) (left_over ws i d (omega (arith, h)))

drop_all : (ws : List ℕ) (i : ℕ) → length ws ≤ i → drop i ws ≡ []
drop_all [] zero h = refl
drop_all [] (suc i) h = refl
drop_all (w ∷ ws) zero h = absurd (omega (arith, h))
drop_all (w ∷ ws) (suc i) h = drop_all ws i (omega (arith, h))

pub one_more : (ws : List ℕ) (i w : ℕ) (fs gs : List Form) (f : Form) → i < length ws → w ≡ get_or ws i w → word_of f ≡ w → gs ≡ fs ++ f ∷ []
    → map word_of fs ++ drop i ws ≡ ws → map word_of gs ++ drop (i + 1) ws ≡ ws
one_more ws i w fs gs f h g e n inv =
    ap (λ hs. map word_of hs ++ drop (i + 1) ws) n
    ∙ ap (λ vs. vs ++ drop (i + 1) ws) (map_last fs f)
    ∙ append_assoc (map word_of fs) (word_of f ∷ []) (drop (i + 1) ws)
    ∙ ap (λ v. map word_of fs ++ v ∷ drop (i + 1) ws) (e ∙ g)
    ∙ ap (λ vs. map word_of fs ++ vs) (sym (left_over ws i w h))
    ∙ inv

pub all_done : (ws : List ℕ) (i : ℕ) (fs : List Form) → length ws ≤ i → map word_of fs ++ drop i ws ≡ ws → map word_of fs ≡ ws
all_done ws i fs h inv = sym (append-nil (map word_of fs)) ∙ ap (λ vs. map word_of fs ++ vs) (sym (drop_all ws i h)) ∙ inv
