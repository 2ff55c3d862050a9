-- Left-out words: a table and the types of vectors.
use Rattle.std.proofs.Common.{◌≡◌, ℕ, Bool, true, false, cond, ◌||◌, ◌&&◌, List, [], ◌∷◌, ◌++◌, map, refl, ap, ◌∙◌, length, drop, eqb}
use Rattle.std.specs.List.{flat_map}
use Rattle.std.specs.Str.{bytes_eq}
use Rattle.clc_lexer.specs.Tables.{among, single_left_out, left_out_words, vector_sizes, vector_elements}
use Rattle.clc_lexer.specs.Scanning.{starts_with}
use Rattle.clc_lexer.specs.Reading.{is_vector_name, is_vector_among}

or_assoc : (a b c : Bool) → (a || (b || c)) ≡ ((a || b) || c)
or_assoc true b c = refl
or_assoc false b c = refl

pub among_append : (a b : List (List ℕ)) (x : List ℕ) → among (a ++ b) x ≡ (among a x || among b x)
among_append [] b x = refl
among_append (s ∷ a) b x = ap (λ v. bytes_eq s x || v) (among_append a b x) ∙ or_assoc (bytes_eq s x) (among a x) (among b x)

and_at : (v p q r : Bool) → p ≡ cond q r false → (v && p) ≡ cond (cond v q false) r false
and_at true p q r h = h
and_at false p q r h = refl

same_joined : (e s x : List ℕ) → bytes_eq (e ++ s) x ≡ cond (starts_with e x) (bytes_eq s (drop (length e) x)) false
same_joined [] s x = refl
same_joined (b ∷ e) s [] = refl
same_joined (b ∷ e) s (c ∷ x) = and_at (eqb b c) (bytes_eq (e ++ s) x) (starts_with e x) (bytes_eq s (drop (length e) x)) (same_joined e s x)

or_at : (v p q : Bool) → (cond v p false || cond v q false) ≡ cond v (p || q) false
or_at true p q = refl
or_at false p q = refl

none_at : (v : Bool) → false ≡ cond v false false
none_at true = refl
none_at false = refl

among_joined : (e : List ℕ) (sizes : List (List ℕ)) (x : List ℕ) → among (map (λ size. e ++ size) sizes) x ≡ cond (starts_with e x) (among sizes (drop (length e) x)) false
among_joined e [] x = none_at (starts_with e x)
among_joined e (s ∷ sizes) x =
    ap (λ v. v || among (map (λ size. e ++ size) sizes) x) (same_joined e s x)
    ∙ ap (λ v. cond (starts_with e x) (bytes_eq s (drop (length e) x)) false || v) (among_joined e sizes x)
    ∙ or_at (starts_with e x) (bytes_eq s (drop (length e) x)) (among sizes (drop (length e) x))

vectors_are : (elements : List (List ℕ)) (x : List ℕ) → among (flat_map (λ element. map (λ size. element ++ size) vector_sizes) elements) x ≡ is_vector_among elements x
vectors_are [] x = refl
vectors_are (e ∷ elements) x =
    among_append (map (λ size. e ++ size) vector_sizes) (flat_map (λ element. map (λ size. element ++ size) vector_sizes) elements) x
    ∙ ap (λ v. v || among (flat_map (λ element. map (λ size. element ++ size) vector_sizes) elements) x) (among_joined e vector_sizes x)
    ∙ ap (λ v. is_vector_name e x || v) (vectors_are elements x)

pub left_out_is : (x : List ℕ) → among left_out_words x ≡ (among single_left_out x || is_vector_among vector_elements x)
left_out_is x =
    among_append single_left_out (flat_map (λ element. map (λ size. element ++ size) vector_sizes) vector_elements) x
    ∙ ap (λ v. among single_left_out x || v) (vectors_are vector_elements x)
