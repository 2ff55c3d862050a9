-- What the scanner takes is the longest token.
use Rattle.std.proofs.Common.{◌≡◌, ℕ, ◌≤◌, Bool, true, false, cond, nat_le, ◌||◌, ◌&&◌, eqb, List, [], ◌∷◌, ◌++◌, refl, sym, ap, ◌∙◌, subst, arith, length, length-append, append_assoc}
use Rattle.std.proofs.lemmas.Bool.{eqb-true, leb-true}
use Rattle.std.specs.Str.{bytes_eq}
use Rattle.clc_lexer.specs.Tables.{among, mark_spellings}
use Rattle.clc_lexer.specs.Characters.{is_word, all_word, is_run}
use Rattle.clc_lexer.specs.Scanning.{run_of, starts_with}
use Rattle.clc_lexer.specs.SourceText.{IsLongest}
use Rattle.clc_lexer.proofs.Fronts.{starts_append, same_is}

pub first_of_two : (a b : Bool) → (a && b) ≡ true → a ≡ true
first_of_two true b h = refl
first_of_two false b h = absurd (cc)

pub second_of_two : (a b : Bool) → (a && b) ≡ true → b ≡ true
second_of_two true b h = h
second_of_two false b h = absurd (cc)

-- ---- runs

run_words_at : (b : ℕ) (r : List ℕ) (v : Bool) → is_word b ≡ v → all_word r ≡ true → all_word (cond v (b ∷ r) []) ≡ true
run_words_at b r true e h = ap (λ z. cond z (all_word r) false) e ∙ h
run_words_at b r false e h = refl

pub run_words : (bs : List ℕ) → all_word (run_of bs) ≡ true
run_words [] = refl
run_words (b ∷ bs) = run_words_at b (run_of bs) (is_word b) refl (run_words bs)

-- what comes after a run
abbrev pub after_run : List ℕ → List ℕ
after_run [] = []
after_run (b ∷ bs) = cond (is_word b) (after_run bs) (b ∷ bs)

abbrev pub no_word : List ℕ → Bool
no_word [] = true
no_word (b ∷ bs) = cond (is_word b) false true

run_split_at : (b : ℕ) (bs : List ℕ) (v : Bool) → bs ≡ run_of bs ++ after_run bs → b ∷ bs ≡ cond v (b ∷ run_of bs) [] ++ cond v (after_run bs) (b ∷ bs)
run_split_at b bs true h = ap (λ z. b ∷ z) h
run_split_at b bs false h = refl

pub run_split : (bs : List ℕ) → bs ≡ run_of bs ++ after_run bs
run_split [] = refl
run_split (b ∷ bs) = run_split_at b bs (is_word b) (run_split bs)

after_no_word_at : (b : ℕ) (bs : List ℕ) (v : Bool) → is_word b ≡ v → no_word (after_run bs) ≡ true → no_word (cond v (after_run bs) (b ∷ bs)) ≡ true
after_no_word_at b bs true e h = h
after_no_word_at b bs false e h = ap (λ z. cond z false true) e

pub after_no_word : (bs : List ℕ) → no_word (after_run bs) ≡ true
after_no_word [] = refl
after_no_word (b ∷ bs) = after_no_word_at b bs (is_word b) refl (after_no_word bs)

all_word_head_at : (b : ℕ) (bs : List ℕ) (v : Bool) → is_word b ≡ v → cond v (all_word bs) false ≡ true → (is_word b ≡ true) × (all_word bs ≡ true)
all_word_head_at b bs true e h = (e, h)
all_word_head_at b bs false e h = absurd (cc)

pub all_word_head : (b : ℕ) (bs : List ℕ) → all_word (b ∷ bs) ≡ true → (is_word b ≡ true) × (all_word bs ≡ true)
all_word_head b bs h = all_word_head_at b bs (is_word b) refl h

all_word_end : (w more : List ℕ) → all_word (w ++ more) ≡ true → all_word more ≡ true
all_word_end [] more h = h
all_word_end (b ∷ w) more h = all_word_end w more (all_word_head b (w ++ more) h).1

-- no mark of the table is empty or begins as a word does
abbrev no_words : List (List ℕ) → Bool
no_words [] = true
no_words ([] ∷ ms) = false
no_words ((b ∷ bs) ∷ ms) = cond (is_word b) false (no_words ms)

no_words_at : (c : ℕ) (cs : List ℕ) (ms : List (List ℕ)) (v : Bool) → is_word c ≡ v → cond v false (no_words ms) ≡ true → (is_word c ≡ false) × (no_words ms ≡ true)
no_words_at c cs ms true e h = absurd (cc)
no_words_at c cs ms false e h = (e, h)

not_same_at : (c b : ℕ) (cs bs : List ℕ) (v : Bool) → eqb c b ≡ v → is_word c ≡ false → is_word b ≡ true → (v && bytes_eq cs bs) ≡ false
not_same_at c b cs bs true e h g = let same_byte : c ≡ b = eqb-true c b e in let bad : true ≡ false = sym g ∙ ap is_word (sym same_byte) ∙ h in absurd (cc)
not_same_at c b cs bs false e h g = refl

among_none : (ms : List (List ℕ)) → no_words ms ≡ true → (b : ℕ) (bs : List ℕ) → is_word b ≡ true → among ms (b ∷ bs) ≡ false
among_none [] n b bs h = refl
among_none ([] ∷ ms) n b bs h = absurd (cc)
among_none ((c ∷ cs) ∷ ms) n b bs h =
    let m = no_words_at c cs ms (is_word c) refl n in
    ap (λ v. v || among ms (b ∷ bs)) (not_same_at c b cs bs (eqb c b) refl m.0 h) ∙ among_none ms m.1 b bs h

either : (a b : Bool) → (a || b) ≡ true → b ≡ false → a ≡ true
either true b h e = refl
either false b h e = absurd (cc)

-- a run is longest where no byte of a word comes after it
pub longest_run : (b : ℕ) (w rest : List ℕ) → is_word b ≡ true → no_word rest ≡ true → IsLongest (b ∷ w) rest
longest_run b w rest h n [] tail e t = refl
longest_run b w rest h n (c ∷ more) tail e t =
    let run : is_run (b ∷ (w ++ c ∷ more)) ≡ true = either (is_run (b ∷ (w ++ c ∷ more))) (among mark_spellings (b ∷ (w ++ c ∷ more))) t (among_none mark_spellings refl b (w ++ c ∷ more) h) in
    let words = all_word_end w (c ∷ more) (all_word_head b (w ++ c ∷ more) run).1 in
    let one = (all_word_head c more words).0 in
    let none = ap no_word (sym e) ∙ n in
    let bad : ◌≡◌ {A = Bool} (cond true false true) true = ap (λ v. cond v false true) (sym one) ∙ none in
    absurd (cc)

-- ---- marks

-- the first of these that stands at the front
abbrev pub front_of : List (List ℕ) → List ℕ → List ℕ
front_of [] bytes = []
front_of (m ∷ ms) bytes = cond (starts_with m bytes) m (front_of ms bytes)

abbrev all_up_to : ℕ → List (List ℕ) → Bool
all_up_to n [] = true
all_up_to n (m ∷ ms) = nat_le (length m) n && all_up_to n ms

-- none is longer than one before it
abbrev falls : List (List ℕ) → Bool
falls [] = true
falls (m ∷ ms) = all_up_to (length m) ms && falls ms

up_to_at : (n : ℕ) (m x : List ℕ) (ms : List (List ℕ)) (v : Bool) → bytes_eq m x ≡ v → length m ≤ n → (among ms x ≡ true → length x ≤ n) → (v || among ms x) ≡ true → length x ≤ n
up_to_at n m x ms true e le ih h = subst (λ z. length z ≤ n) (same_is m x e) le
up_to_at n m x ms false e le ih h = ih h

up_to : (n : ℕ) (ms : List (List ℕ)) (x : List ℕ) → all_up_to n ms ≡ true → among ms x ≡ true → length x ≤ n
up_to n [] x a h = absurd (cc)
up_to n (m ∷ ms) x a h =
    up_to_at n m x ms (bytes_eq m x) refl (leb-true (length m) n (first_of_two (nat_le (length m) n) (all_up_to n ms) a))
    (up_to n ms x (second_of_two (nat_le (length m) n) (all_up_to n ms) a)) h

front_longest_at : (m x bytes : List ℕ) (ms : List (List ℕ)) (v w : Bool) → bytes_eq m x ≡ v → starts_with m bytes ≡ w → all_up_to (length m) ms ≡ true → starts_with x bytes ≡ true
    → (among ms x ≡ true → length x ≤ length (front_of ms bytes)) → (v || among ms x) ≡ true → length x ≤ length (cond w m (front_of ms bytes))
front_longest_at m x bytes ms true true e f a s ih h = let g = ap length (same_is m x e) in omega arith
front_longest_at m x bytes ms true false e f a s ih h = let bad = sym f ∙ ap (λ z. starts_with z bytes) (same_is m x e) ∙ s in absurd (cc)
front_longest_at m x bytes ms false true e f a s ih h = up_to (length m) ms x a h
front_longest_at m x bytes ms false false e f a s ih h = ih h

pub front_longest : (ms : List (List ℕ)) → falls ms ≡ true → (x bytes : List ℕ) → among ms x ≡ true → starts_with x bytes ≡ true → length x ≤ length (front_of ms bytes)
front_longest [] f x bytes h s = absurd (cc)
front_longest (m ∷ ms) f x bytes h s =
    front_longest_at m x bytes ms (bytes_eq m x) (starts_with m bytes) refl refl (first_of_two (all_up_to (length m) ms) (falls ms) f) s
    (λ g. front_longest ms (second_of_two (all_up_to (length m) ms) (falls ms) f) x bytes g s) h

pub not_run : (b : ℕ) (bs : List ℕ) → is_word b ≡ false → is_run (b ∷ bs) ≡ false
not_run b bs h = ap (λ v. cond v (all_word bs) false) h

pub other : (a b : Bool) → (a || b) ≡ true → a ≡ false → b ≡ true
other true b h e = absurd (cc)
other false b h e = h

empty_more : (m more : List ℕ) → length (m ++ more) ≤ length m → more ≡ []
empty_more m [] h = refl
empty_more m (c ∷ more) h = let e = length-append m (c ∷ more) in absurd (omega arith)

pub marks_fall : falls mark_spellings ≡ true
marks_fall = refl

-- the first mark of the table is longest
pub longest_mark : (bytes rest : List ℕ) (b : ℕ) (w : List ℕ) → front_of mark_spellings bytes ≡ b ∷ w → is_word b ≡ false → bytes ≡ (b ∷ w) ++ rest → IsLongest (b ∷ w) rest
longest_mark bytes rest b w f h e more tail d t =
    let table = other (is_run (b ∷ (w ++ more))) (among mark_spellings (b ∷ (w ++ more))) t (not_run b (w ++ more) h) in
    let is : bytes ≡ (b ∷ (w ++ more)) ++ tail = e ∙ ap (λ z. (b ∷ w) ++ z) d ∙ sym (append_assoc (b ∷ w) more tail) in
    let s = ap (starts_with (b ∷ (w ++ more))) is ∙ starts_append (b ∷ (w ++ more)) tail in
    let le = front_longest mark_spellings marks_fall (b ∷ (w ++ more)) bytes table s in
    let g = ap length f in
    empty_more (b ∷ w) more (omega arith)
