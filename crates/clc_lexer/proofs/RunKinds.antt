-- What letters and digits are read as is what they say, or a rule that they violate.
use Rattle.std.proofs.Common.{◌≡◌, ℕ, Bool, true, false, cond, ◌||◌, List, [], ◌∷◌, ◌++◌, map, Option, Some, None, refl, sym, ap, ◌∙◌, subst}
use Rattle.std.specs.Str.{bytes_eq}
use Rattle.clc_lexer.specs.Tables.{among, word_spelling, all_words, left_out_words}
use Rattle.clc_lexer.specs.Characters.{is_letter, is_digit, all_word, is_run, begins_with_digit, begins_with_letter}
use Rattle.clc_lexer.specs.SourceText.{Text, IsPiece, Says, Violates}
use Rattle.clc_lexer.specs.Reading.{Is, Breaks, number_of, number_kind, spelled, word_kind, run_kind}
use Rattle.clc_lexer.specs.declared.words.Word.{Word as WordType}
use Rattle.clc_lexer.specs.declared.token.Tok.{Tok}
use Rattle.clc_lexer.specs.declared.token.Tok.TheVariants.{Name, Number, Word}
use Rattle.clc_lexer.specs.declared.token.LexRule.{LexRule}
use Rattle.clc_lexer.specs.declared.token.LexRule.TheVariants.{L3, L5}
use Rattle.clc_lexer.proofs.Fronts.{same_is}
use Rattle.clc_lexer.proofs.NumberRight.{spelled_is_read, read_is_spelled}

-- ---- tables

spelled_at : {A : Type 0} (f : A → List ℕ) (y x : A) (ys : List A) (text : List ℕ) (v : Bool) → bytes_eq (f y) text ≡ v → (spelled f ys text ≡ Some x → f x ≡ text)
    → cond v (Some y) (spelled f ys text) ≡ Some x → f x ≡ text
spelled_at f y x ys text true e ih h = let same : y ≡ x = cc in ap f (sym same) ∙ same_is (f y) text e
spelled_at f y x ys text false e ih h = ih h

pub spelled_is : {A : Type 0} (f : A → List ℕ) (xs : List A) (text : List ℕ) (x : A) → spelled f xs text ≡ Some x → f x ≡ text
spelled_is f [] text x h = absurd (cc)
spelled_is f (y ∷ ys) text x h = spelled_at f y x ys text (bytes_eq (f y) text) refl (spelled_is f ys text x) h

unspelled_at : {A : Type 0} (f : A → List ℕ) (y : A) (ys : List A) (text : List ℕ) (v : Bool) → (spelled f ys text ≡ None → among (map f ys) text ≡ false)
    → cond v (Some y) (spelled f ys text) ≡ None → (v || among (map f ys) text) ≡ false
unspelled_at f y ys text true ih h = absurd (cc)
unspelled_at f y ys text false ih h = ih h

pub unspelled : {A : Type 0} (f : A → List ℕ) (xs : List A) (text : List ℕ) → spelled f xs text ≡ None → among (map f xs) text ≡ false
unspelled f [] text h = refl
unspelled f (y ∷ ys) text h = unspelled_at f y ys text (bytes_eq (f y) text) (unspelled f ys text) h

-- ---- what they say

pub letter_first : (text : List ℕ) → is_run text ≡ true → begins_with_digit text ≡ false → begins_with_letter text ≡ true
letter_first [] h d = absurd (cc)
letter_first (b ∷ bs) h d = by (is_letter b) (is_digit b) d h
  where
    by : (v w : Bool) → w ≡ false → cond (v || w) (all_word bs) false ≡ true → v ≡ true
    by true w e g = refl
    by false true e g = absurd (cc)
    by false false e g = absurd (cc)

number_says : (text : List ℕ) (t : Tok) (o : Option (ℕ × Bool)) → number_of text ≡ o → number_kind o ≡ Is t → Says text t
number_says text t None e h = absurd (cc)
number_says text t (Some (value, unsigned)) e h = let same : Number value unsigned ≡ t = cc in subst (Says text) same (read_is_spelled text value unsigned e)

word_says : (text : List ℕ) (t : Tok) (o : Option WordType) → is_run text ≡ true → begins_with_letter text ≡ true → spelled word_spelling all_words text ≡ o → word_kind o text ≡ Is t → Says text t
word_says text t (Some w) r l e h = let same : Word w ≡ t = cc in subst (Says text) same (sym (spelled_is word_spelling all_words text w e))
word_says text t None r l e h = by (among left_out_words text) refl h
  where
    by : (v : Bool) → among left_out_words text ≡ v → cond v (Breaks L5) (Is (Name text)) ≡ Is t → Says text t
    by true f g = absurd (cc)
    by false f g = let same : Name text ≡ t = cc in subst (Says text) same (refl, r, l, unspelled word_spelling all_words text e, f)

pub run_says : (text : List ℕ) (t : Tok) → is_run text ≡ true → run_kind text ≡ Is t → Says text t
run_says text t r h = by (begins_with_digit text) refl h
  where
    by : (v : Bool) → begins_with_digit text ≡ v → cond v (number_kind (number_of text)) (word_kind (spelled word_spelling all_words text) text) ≡ Is t → Says text t
    by true e g = number_says text t (number_of text) refl g
    by false e g = word_says text t (spelled word_spelling all_words text) r (letter_first text r e) refl g

-- ---- what they violate

abbrev Stands : List ℕ → List ℕ → List ℕ → Type 0
Stands bytes text after = (bytes ≡ text ++ after) × IsPiece (Text text) after

some_is_none : (p : ℕ × Bool) → ◌≡◌ {A = Option (ℕ × Bool)} (Some p) None → ⊥
some_is_none p h = cc

number_breaks : (bytes text after : List ℕ) (r : LexRule) (o : Option (ℕ × Bool)) → Stands bytes text after → is_run text ≡ true → begins_with_digit text ≡ true
    → number_of text ≡ o → number_kind o ≡ Breaks r → Violates r bytes
number_breaks bytes text after r None s run d e h =
    let same : L3 ≡ r = cc in
    subst (λ z. Violates z bytes) same (text, (after, s.0, s.1), run, d, λ v u n. some_is_none (v, u) (sym (spelled_is_read text v u n) ∙ e))
number_breaks bytes text after r (Some (value, unsigned)) s run d e h = absurd (cc)

word_breaks : (bytes text after : List ℕ) (r : LexRule) (o : Option WordType) → Stands bytes text after → word_kind o text ≡ Breaks r → Violates r bytes
word_breaks bytes text after r (Some w) s h = absurd (cc)
word_breaks bytes text after r None s h = by (among left_out_words text) refl h
  where
    by : (v : Bool) → among left_out_words text ≡ v → cond v (Breaks L5) (Is (Name text)) ≡ Breaks r → Violates r bytes
    by true f g = let same : L5 ≡ r = cc in subst (λ z. Violates z bytes) same (text, (after, s.0, s.1), f)
    by false f g = absurd (cc)

pub run_breaks : (bytes text after : List ℕ) (r : LexRule) → bytes ≡ text ++ after → IsPiece (Text text) after → is_run text ≡ true → run_kind text ≡ Breaks r → Violates r bytes
run_breaks bytes text after r e i run h = by (begins_with_digit text) refl h
  where
    by : (v : Bool) → begins_with_digit text ≡ v → cond v (number_kind (number_of text)) (word_kind (spelled word_spelling all_words text) text) ≡ Breaks r → Violates r bytes
    by true f g = number_breaks bytes text after r (number_of text) (e, i) run f refl g
    by false f g = word_breaks bytes text after r (spelled word_spelling all_words text) (e, i) g
