-- Lines and columns, byte by byte; a place has one column.
use Rattle.std.proofs.Common.{◌≡◌, ◌⊎◌, inl, inr, ℕ, ◌+◌, ◌<◌, ◌≤◌, Bool, true, false, ◌||◌, eqb, List, [], ◌∷◌, ◌++◌, refl, sym, ap, ◌∙◌, arith, length, length-append, take, get_or, append_assoc, append-nil}
use Rattle.std.proofs.lemmas.Bool.{eqb-true, eq-eqb}
use Rattle.std.proofs.lemmas.List.{take_more}
use Rattle.std.proofs.lemmas.List.Sums.{count_by_more_no, count_by_more_yes}
use Rattle.clc_lexer.specs.SourceText.{has_newline}
use Rattle.clc_lexer.specs.LineColumn.{line_after, IsLineStart, IsColumnAfter}
use Rattle.clc_lexer.proofs.OnePiece.{true_false, GoesOn, two_fronts}

-- what the loop keeps after i bytes
abbrev pub Counted : List ℕ → ℕ → ℕ → ℕ → Type 0
Counted bytes i line column = (line ≡ line_after (take i bytes)) × IsColumnAfter (take i bytes) column × (line ≤ i + 1) × (column ≤ i + 1)

plain_end : (own : List ℕ) (b : ℕ) → has_newline own ≡ false → eqb b 10 ≡ false → has_newline (own ++ b ∷ []) ≡ false
plain_end [] b h e = ap (λ v. v || false) e
plain_end (c ∷ own) b h e = by (eqb c 10) (λ g. plain_end own b g e) h
  where
    by : (v : Bool) → (has_newline own ≡ false → has_newline (own ++ b ∷ []) ≡ false) → (v || has_newline own) ≡ false → (v || has_newline (own ++ b ∷ [])) ≡ false
    by true ih g = absurd (true_false g)
    by false ih g = ih g

by_test : (v : Bool) → (v ≡ true → ⊥) → v ≡ false
by_test true h = absurd (h refl)
by_test false h = refl

pub newline_counted : (bytes : List ℕ) (i line column : ℕ) → i < length bytes → Counted bytes i line column → get_or bytes i 0 ≡ 10 → Counted bytes (i + 1) (line + 1) 1
newline_counted bytes i line column lt (l, (before, own, e, start, plain, c), x, y) is =
    let more : take (i + 1) bytes ≡ take i bytes ++ 10 ∷ [] = take_more bytes i 0 lt ∙ ap (λ z. take i bytes ++ z ∷ []) is in
    let count = count_by_more_yes (λ b. eqb b 10) bytes i 0 lt (eq-eqb (get_or bytes i 0) 10 is) in
    let lines : line + 1 ≡ line_after (take (i + 1) bytes) = omega (arith, l, count) in
    (lines, (take (i + 1) bytes, [], sym (append-nil (take (i + 1) bytes)), inr (take i bytes, more), refl, refl), omega (arith, x), omega arith)

pub other_counted : (bytes : List ℕ) (i line column : ℕ) → i < length bytes → Counted bytes i line column → (get_or bytes i 0 ≡ 10 → ⊥) → Counted bytes (i + 1) line (column + 1)
other_counted bytes i line column lt (l, (before, own, e, start, plain, c), x, y) other =
    let none : eqb (get_or bytes i 0) 10 ≡ false = by_test (eqb (get_or bytes i 0) 10) (λ h. other (eqb-true (get_or bytes i 0) 10 h)) in
    let b = get_or bytes i 0 in
    let more : take (i + 1) bytes ≡ before ++ (own ++ b ∷ []) = take_more bytes i 0 lt ∙ ap (λ z. z ++ b ∷ []) e ∙ append_assoc before own (b ∷ []) in
    let count = count_by_more_no (λ z. eqb z 10) bytes i 0 lt none in
    let lines : line ≡ line_after (take (i + 1) bytes) = omega (arith, l, count) in
    (lines, (before, own ++ b ∷ [], more, start, plain_end own b plain none, omega (arith, c, length-append own (b ∷ []))), omega (arith, x), omega (arith, y))

-- ---- one column

newline_last : (front : List ℕ) → has_newline (front ++ 10 ∷ []) ≡ true
newline_last [] = refl
newline_last (b ∷ front) = by (eqb b 10) (newline_last front)
  where
    by : (v : Bool) → has_newline (front ++ 10 ∷ []) ≡ true → (v || has_newline (front ++ 10 ∷ [])) ≡ true
    by true h = refl
    by false h = h

abbrev tail_of : List ℕ → List ℕ
tail_of [] = []
tail_of (b ∷ bs) = bs

no_end : (xs : List ℕ) (m : ℕ) (ms : List ℕ) → xs ++ m ∷ ms ≡ [] → ⊥
no_end [] m ms e = cc
no_end (x ∷ xs) m ms e = cc

newline_at_end : (xs : List ℕ) (m : ℕ) (ms front : List ℕ) → xs ++ m ∷ ms ≡ front ++ 10 ∷ [] → has_newline (m ∷ ms) ≡ true
newline_at_end [] m ms front e = ap has_newline e ∙ newline_last front
newline_at_end (x ∷ xs) m ms [] e = absurd (no_end xs m ms (ap tail_of e))
newline_at_end (x ∷ xs) m ms (f ∷ front) e = newline_at_end xs m ms front (ap tail_of e)

newline_append : (xs ys : List ℕ) → has_newline xs ≡ true → has_newline (xs ++ ys) ≡ true
newline_append [] ys h = absurd (true_false (sym h))
newline_append (x ∷ xs) ys h = by (eqb x 10) (newline_append xs ys) h
  where
    by : (v : Bool) → (has_newline xs ≡ true → has_newline (xs ++ ys) ≡ true) → (v || has_newline xs) ≡ true → (v || has_newline (xs ++ ys)) ≡ true
    by true ih g = refl
    by false ih g = ih g

-- a line that begins later would begin within another one
no_later : (before later own rest : List ℕ) → IsLineStart later → has_newline own ≡ false → GoesOn before later own rest → length own ≡ length rest
no_later before later own rest s h ([], x, y) = ap length y
no_later before later own rest (inl z) h (m ∷ ms, x, y) = absurd (no_end before m ms (sym x ∙ z))
no_later before later own rest (inr (front, z)) h (m ∷ ms, x, y) =
    absurd (true_false (sym (newline_append (m ∷ ms) rest (newline_at_end before m ms front (sym x ∙ z))) ∙ ap has_newline (sym y) ∙ h))

pub one_column : (bytes : List ℕ) (a b : ℕ) → IsColumnAfter bytes a → IsColumnAfter bytes b → a ≡ b
one_column bytes a b (before, own, e, s, h, c) (later, rest, f, t, k, d) = by (two_fronts before later own rest (sym e ∙ f))
  where
    by : GoesOn before later own rest ⊎ GoesOn later before rest own → a ≡ b
    by (inl g) = omega (arith, c, d, no_later before later own rest t h g)
    by (inr g) = omega (arith, c, d, no_later later before rest own s k g)
