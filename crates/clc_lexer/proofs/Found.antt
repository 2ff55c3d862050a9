-- What the scanner takes is a piece of a split.
use Rattle.std.proofs.Common.{◌≡◌, ℕ, ◌+◌, ◌<◌, Bool, true, false, cond, eqb, ◌||◌, ◌&&◌, List, [], ◌∷◌, ◌++◌, Option, Some, None, refl, sym, ap, ◌∙◌, arith, length, length-append, drop, append_assoc, map}
use Rattle.std.proofs.lemmas.Bool.{eqb-true}
use Rattle.std.specs.Str.{bytes_eq}
use Rattle.clc_lexer.specs.Tables.{among, mark_spelling, mark_spellings, all_marks}
use Rattle.clc_lexer.specs.Characters.{is_space, is_word, all_word, is_run, is_token}
use Rattle.clc_lexer.specs.SourceText.{Space, LineComment, BlockComment, Text, bytes_of, opens_comment, has_newline, at_line_end, Closes, IsPiece, IsStray}
use Rattle.clc_lexer.specs.Scanning.{run_of, line_of, starts_with, front_mark, mark_of_front, more_by, close_of, closed, mark_found, first_found, found, IsFound, IsWithin}
use Rattle.clc_lexer.specs.declared.marks.Mark.{Mark as MarkType}
use Rattle.clc_lexer.specs.declared.scanning.Found.{Found}
use Rattle.clc_lexer.specs.declared.scanning.Found.TheVariants.{Blank, Run, Mark, Stray, Open}
use Rattle.clc_lexer.proofs.Fronts.{starts_append, starts_split, same_self}
use Rattle.clc_lexer.proofs.Longest.{run_words, after_run, run_split, after_no_word, longest_run, front_of, longest_mark, front_longest, marks_fall, other, not_run}

-- ---- lines

abbrev after_line : List ℕ → List ℕ
after_line [] = []
after_line (b ∷ bs) = cond (eqb b 10) (b ∷ bs) (after_line bs)

line_split_at : (b : ℕ) (bs : List ℕ) (v : Bool) → bs ≡ line_of bs ++ after_line bs → b ∷ bs ≡ cond v [] (b ∷ line_of bs) ++ cond v (b ∷ bs) (after_line bs)
line_split_at b bs true h = refl
line_split_at b bs false h = ap (λ z. b ∷ z) h

line_split : (bs : List ℕ) → bs ≡ line_of bs ++ after_line bs
line_split [] = refl
line_split (b ∷ bs) = line_split_at b bs (eqb b 10) (line_split bs)

line_plain_at : (b : ℕ) (l : List ℕ) (v : Bool) → eqb b 10 ≡ v → has_newline l ≡ false → has_newline (cond v [] (b ∷ l)) ≡ false
line_plain_at b l true e h = refl
line_plain_at b l false e h = ap (λ z. z || has_newline l) e ∙ h

line_plain : (bs : List ℕ) → has_newline (line_of bs) ≡ false
line_plain [] = refl
line_plain (b ∷ bs) = line_plain_at b (line_of bs) (eqb b 10) refl (line_plain bs)

line_end_at : (b : ℕ) (bs : List ℕ) (v : Bool) → eqb b 10 ≡ v → at_line_end (after_line bs) ≡ true → at_line_end (cond v (b ∷ bs) (after_line bs)) ≡ true
line_end_at b bs true e h = e
line_end_at b bs false e h = h

line_end : (bs : List ℕ) → at_line_end (after_line bs) ≡ true
line_end [] = refl
line_end (b ∷ bs) = line_end_at b bs (eqb b 10) refl (line_end bs)

-- ---- a front of two bytes

two_at : (m k a b : ℕ) (rest : List ℕ) (v w : Bool) → eqb m a ≡ v → eqb k b ≡ w → cond v (cond w true false) false ≡ true → a ∷ b ∷ rest ≡ m ∷ k ∷ rest
two_at m k a b rest true true e f h = let p : m ≡ a = eqb-true m a e in let q : k ≡ b = eqb-true k b f in cc
two_at m k a b rest true false e f h = absurd (cc)
two_at m k a b rest false w e f h = absurd (cc)

one_at : (v : Bool) → cond v false false ≡ true → ⊥
one_at true h = cc
one_at false h = cc

two : (m k : ℕ) (bytes : List ℕ) → starts_with (m ∷ k ∷ []) bytes ≡ true → bytes ≡ m ∷ k ∷ drop 2 bytes
two m k [] h = absurd (cc)
two m k (a ∷ []) h = absurd (one_at (eqb m a) h)
two m k (a ∷ b ∷ rest) h = two_at m k a b rest (eqb m a) (eqb k b) refl refl h

-- a line comment
line_right : (bytes : List ℕ) → starts_with (47 ∷ 47 ∷ []) bytes ≡ true → IsFound bytes (Blank (length (line_of (drop 2 bytes)) + 2))
line_right bytes h =
    let rest = drop 2 bytes in
    (LineComment (line_of rest), after_line rest, two 47 47 bytes h ∙ ap (λ z. 47 ∷ 47 ∷ z) (line_split rest), (line_plain rest, line_end rest), tt, omega arith)

-- ---- comments in marks

close_none_at : (a : ℕ) (rest : List ℕ) (v : Bool) → starts_with (42 ∷ 47 ∷ []) (a ∷ rest) ≡ v → (close_of rest ≡ None → Closes rest → ⊥) → cond v (Some 0) (more_by 1 (close_of rest)) ≡ None → Closes (a ∷ rest) → ⊥
close_none_at a rest true e ih h c = cc
close_none_at a rest false e ih h ([], after, is) = let bad = sym e ∙ ap (starts_with (42 ∷ 47 ∷ [])) is in cc
close_none_at a rest false e ih h (f ∷ front, after, is) = let tail : rest ≡ front ++ (42 ∷ 47 ∷ after) = cc in ih (none_of (close_of rest) h) (front, after, tail)
  where
    none_of : (o : Option ℕ) → more_by 1 o ≡ None → o ≡ None
    none_of None h = refl
    none_of (Some n) h = absurd (cc)

close_none : (bytes : List ℕ) → close_of bytes ≡ None → Closes bytes → ⊥
close_none [] h ([], after, is) = cc
close_none [] h (f ∷ front, after, is) = cc
close_none (a ∷ rest) h c = close_none_at a rest (starts_with (42 ∷ 47 ∷ []) (a ∷ rest)) refl (close_none rest) h c

open_right : (bytes : List ℕ) → starts_with (47 ∷ 42 ∷ []) bytes ≡ true → close_of (drop 2 bytes) ≡ None → IsFound bytes Open
open_right bytes h e = (drop 2 bytes, two 47 42 bytes h, close_none (drop 2 bytes) e)

-- ---- a byte that begins nothing

stray_right : (b : ℕ) (bs : List ℕ) → is_space b ≡ false → opens_comment (b ∷ bs) ≡ false → is_word b ≡ false → front_of mark_spellings (b ∷ bs) ≡ [] → IsStray (b ∷ bs)
stray_right b bs s o h e = (s, o, no_token)
  where
    no_token : (front rest : List ℕ) → b ∷ bs ≡ front ++ rest → is_token front ≡ true → ⊥
    no_token [] rest is t = cc
    no_token (c ∷ front) rest is t =
        let first : b ≡ c = cc in
        let plain : is_word c ≡ false = ap is_word (sym first) ∙ h in
        let table = other (is_run (c ∷ front)) (among mark_spellings (c ∷ front)) t (not_run c front plain) in
        let at = ap (starts_with (c ∷ front)) is ∙ starts_append (c ∷ front) rest in
        let le = front_longest mark_spellings marks_fall (c ∷ front) (b ∷ bs) table at in
        let g = ap length e in
        omega arith

-- ---- a comment in marks, to its first end

FirstClose : List ℕ → ℕ → Type 0
FirstClose rest n = (body : List ℕ) × (after : List ℕ) × (rest ≡ body ++ (42 ∷ 47 ∷ after)) × (length body ≡ n) × (Closes (body ++ 42 ∷ []) → ⊥)

short_close : Closes (42 ∷ []) → ⊥
short_close ([], after, is) = cc
short_close (f ∷ [], after, is) = cc
short_close (f ∷ g ∷ front, after, is) = cc

abbrev head_of : List ℕ → ℕ
head_of [] = 0
head_of (b ∷ bs) = b

numbers_apart : ◌≡◌ {A = ℕ} 42 47 → ⊥
numbers_apart h = omega arith

head_same : (body after r x : List ℕ) → r ≡ body ++ (42 ∷ 47 ∷ after) → body ++ 42 ∷ [] ≡ 47 ∷ x → (y : List ℕ) × (r ≡ 47 ∷ y)
head_same [] after r x e h = absurd (numbers_apart (ap head_of h))
head_same (b ∷ body) after r x e h = let first : b ≡ 47 = ap head_of h in (body ++ (42 ∷ 47 ∷ after), e ∙ ap (λ z. z ∷ (body ++ (42 ∷ 47 ∷ after))) first)

one_more_is : (o : Option ℕ) (n : ℕ) → more_by 1 o ≡ Some n → (k : ℕ) × (o ≡ Some k) × (n ≡ 1 + k)
one_more_is None n h = absurd (cc)
one_more_is (Some k) n h = let same : 1 + k ≡ n = cc in (k, refl, sym same)

not_at_front : (a : ℕ) (r body after : List ℕ) → starts_with (42 ∷ 47 ∷ []) (a ∷ r) ≡ false → r ≡ body ++ (42 ∷ 47 ∷ after) → (Closes (body ++ 42 ∷ []) → ⊥) → Closes ((a ∷ body) ++ 42 ∷ []) → ⊥
not_at_front a r body after e is never ([], x, h) =
    let first : a ≡ 42 = cc in
    let tail : body ++ 42 ∷ [] ≡ 47 ∷ x = cc in
    let y = head_same body after r x is tail in
    let whole : a ∷ r ≡ 42 ∷ 47 ∷ y.0 = ap (λ z. z ∷ r) first ∙ ap (λ z. 42 ∷ z) y.1 in
    let bad = sym e ∙ ap (starts_with (42 ∷ 47 ∷ [])) whole in
    cc
not_at_front a r body after e is never (f ∷ front, x, h) = let tail : body ++ 42 ∷ [] ≡ front ++ (42 ∷ 47 ∷ x) = cc in never (front, x, tail)

close_some_at : (a : ℕ) (r : List ℕ) (n : ℕ) (v : Bool) → starts_with (42 ∷ 47 ∷ []) (a ∷ r) ≡ v → ((k : ℕ) → close_of r ≡ Some k → FirstClose r k)
    → cond v (Some 0) (more_by 1 (close_of r)) ≡ Some n → FirstClose (a ∷ r) n
unfolding FirstClose
close_some_at a r n true e ih h = let zero_is : 0 ≡ n = cc in ([], drop 2 (a ∷ r), two 42 47 (a ∷ r) e, zero_is, short_close)
close_some_at a r n false e ih h =
    let k = one_more_is (close_of r) n h in
    let x = ih k.0 k.1 in
    (a ∷ x.0, x.1, ap (λ z. a ∷ z) x.2, omega (arith, x.3, k.2), not_at_front a r x.0 x.1 e x.2 x.4)

close_some : (bytes : List ℕ) (n : ℕ) → close_of bytes ≡ Some n → FirstClose bytes n
close_some [] n h = absurd (cc)
close_some (a ∷ r) n h = close_some_at a r n (starts_with (42 ∷ 47 ∷ []) (a ∷ r)) refl (close_some r) h

block_right : (bytes : List ℕ) (n : ℕ) → starts_with (47 ∷ 42 ∷ []) bytes ≡ true → close_of (drop 2 bytes) ≡ Some n → IsFound bytes (Blank (n + 4))
unfolding FirstClose
block_right bytes n h e =
    let x = close_some (drop 2 bytes) n e in
    (BlockComment x.0, x.1, two 47 42 bytes h ∙ ap (λ z. 47 ∷ 42 ∷ z) (x.2 ∙ sym (append_assoc x.0 (42 ∷ 47 ∷ []) x.1)), x.4, tt, omega (arith, length-append x.0 (42 ∷ 47 ∷ []), x.3))

-- ---- the first byte of no comment

first_right_word : (b : ℕ) (bs : List ℕ) → is_word b ≡ true → opens_comment (b ∷ bs) ≡ false → IsFound (b ∷ bs) (Run (length (run_of (b ∷ bs))))
first_right_word b bs h o =
    let is : run_of (b ∷ bs) ≡ b ∷ run_of bs = ap (λ v. cond v (b ∷ run_of bs) []) h in
    let rest = after_run bs in
    let split : b ∷ bs ≡ (b ∷ run_of bs) ++ rest = ap (λ z. b ∷ z) (run_split bs) in
    let run : is_run (b ∷ run_of bs) ≡ true = ap (λ v. cond v (all_word (run_of bs)) false) h ∙ run_words bs in (
      b ∷ run_of bs,
      rest,
      split,
      (ap (λ v. v || among mark_spellings (b ∷ run_of bs)) run, ap opens_comment (sym split) ∙ o, longest_run b (run_of bs) rest h (after_no_word bs)),
      run,
      sym (ap length is),
    )

-- the mark that a table's search finds
abbrev spelling_of : Option MarkType → List ℕ
spelling_of None = []
spelling_of (Some m) = mark_spelling m

front_same_at : (m : MarkType) (ms : List MarkType) (bytes : List ℕ) (v : Bool) → front_of (map mark_spelling ms) bytes ≡ spelling_of (front_mark ms bytes)
    → cond v (mark_spelling m) (front_of (map mark_spelling ms) bytes) ≡ spelling_of (cond v (Some m) (front_mark ms bytes))
front_same_at m ms bytes true h = refl
front_same_at m ms bytes false h = h

front_same : (ms : List MarkType) (bytes : List ℕ) → front_of (map mark_spelling ms) bytes ≡ spelling_of (front_mark ms bytes)
front_same [] bytes = refl
front_same (m ∷ ms) bytes = front_same_at m ms bytes (starts_with (mark_spelling m) bytes) (front_same ms bytes)

or_true : (v : Bool) (w : Bool) → w ≡ true → (v || w) ≡ true
or_true true w g = refl
or_true false w g = g

same_mark : (m n : MarkType) → ◌≡◌ {A = Option MarkType} (Some m) (Some n) → m ≡ n
same_mark m n h = cc

front_at : (m : MarkType) (ms : List MarkType) (bytes : List ℕ) (n : MarkType) (v : Bool) → starts_with (mark_spelling m) bytes ≡ v
    → (front_mark ms bytes ≡ Some n → (starts_with (mark_spelling n) bytes ≡ true) × (among (map mark_spelling ms) (mark_spelling n) ≡ true))
    → cond v (Some m) (front_mark ms bytes) ≡ Some n
    → (starts_with (mark_spelling n) bytes ≡ true) × ((bytes_eq (mark_spelling m) (mark_spelling n) || among (map mark_spelling ms) (mark_spelling n)) ≡ true)
front_at m ms bytes n true e ih h =
    let one = same_mark m n h in (
      ap (λ z. starts_with (mark_spelling z) bytes) (sym one) ∙ e,
      ap (λ v. v || among (map mark_spelling ms) (mark_spelling n)) (ap (λ z. bytes_eq (mark_spelling m) (mark_spelling z)) (sym one) ∙ same_self (mark_spelling m)),
    )
front_at m ms bytes n false e ih h = let x = ih h in (x.0, or_true (bytes_eq (mark_spelling m) (mark_spelling n)) (among (map mark_spelling ms) (mark_spelling n)) x.1)

front_is : (ms : List MarkType) (bytes : List ℕ) (n : MarkType) → front_mark ms bytes ≡ Some n
    → (starts_with (mark_spelling n) bytes ≡ true) × (among (map mark_spelling ms) (mark_spelling n) ≡ true)
front_is [] bytes n h = absurd (cc)
front_is (m ∷ ms) bytes n h = front_at m ms bytes n (starts_with (mark_spelling m) bytes) refl (front_is ms bytes n) h

true_right : (a : Bool) → (a || true) ≡ true
true_right true = refl
true_right false = refl

mark_piece : (b : ℕ) (bs : List ℕ) → opens_comment (b ∷ bs) ≡ false → is_word b ≡ false → (m after : List ℕ)
    → front_of mark_spellings (b ∷ bs) ≡ m → among mark_spellings m ≡ true → b ∷ bs ≡ m ++ after → IsPiece (Text m) after
mark_piece b bs o h [] after e a is = absurd (cc)
mark_piece b bs o h (f ∷ w) after e a is =
    let first : f ≡ b = cc in
    (ap (λ z. is_run (f ∷ w) || z) a ∙ true_right (is_run (f ∷ w)), ap opens_comment (sym is) ∙ o, longest_mark (b ∷ bs) after f w e (ap is_word first ∙ h) is)

mark_right : (b : ℕ) (bs : List ℕ) → is_space b ≡ false → opens_comment (b ∷ bs) ≡ false → is_word b ≡ false
    → (m : Option MarkType) → mark_of_front (b ∷ bs) ≡ m → IsFound (b ∷ bs) (mark_found m)
unfolding mark_of_front
mark_right b bs s o h None e = stray_right b bs s o h (front_same all_marks (b ∷ bs) ∙ ap spelling_of e)
mark_right b bs s o h (Some m) e =
    let x = front_is all_marks (b ∷ bs) m e in
    let y = starts_split (mark_spelling m) (b ∷ bs) x.0 in
    (y.0, y.1, mark_piece b bs o h (mark_spelling m) y.0 (front_same all_marks (b ∷ bs) ∙ ap spelling_of e) x.1 y.1)

first_right : (b : ℕ) (bs : List ℕ) → opens_comment (b ∷ bs) ≡ false → (v w : Bool) → is_space b ≡ v → is_word b ≡ w
    → IsFound (b ∷ bs) (cond v (Blank 1) (cond w (Run (length (run_of (b ∷ bs)))) (mark_found (mark_of_front (b ∷ bs)))))
first_right b bs o true w s h = (Space b, bs, refl, s, tt, refl)
first_right b bs o false true s h = first_right_word b bs h o
first_right b bs o false false s h = mark_right b bs s o h (mark_of_front (b ∷ bs)) refl

two_is : (m k a b : ℕ) (rest : List ℕ) → eqb a m ≡ true → eqb b k ≡ true → starts_with (m ∷ k ∷ []) (a ∷ b ∷ rest) ≡ true
two_is m k a b rest h g =
    let p : a ≡ m = eqb-true a m h in
    let q : b ≡ k = eqb-true b k g in
    ap (λ z. starts_with (m ∷ k ∷ []) (z ∷ b ∷ rest)) p ∙ ap (λ z. starts_with (m ∷ k ∷ []) (m ∷ z ∷ rest)) q ∙ starts_append (m ∷ k ∷ []) rest

opens_at : (a b : ℕ) (rest : List ℕ) (p q r : Bool) → eqb a 47 ≡ p → eqb b 47 ≡ q → eqb b 42 ≡ r
    → starts_with (47 ∷ 47 ∷ []) (a ∷ b ∷ rest) ≡ false → starts_with (47 ∷ 42 ∷ []) (a ∷ b ∷ rest) ≡ false → (p && (q || r)) ≡ false
opens_at a b rest false q r e f g h k = refl
opens_at a b rest true false false e f g h k = refl
opens_at a b rest true true r e f g h k = let bad = sym h ∙ two_is 47 47 a b rest e f in absurd (cc)
opens_at a b rest true false true e f g h k = let bad = sym k ∙ two_is 47 42 a b rest e g in absurd (cc)

opens_none : (bytes : List ℕ) → starts_with (47 ∷ 47 ∷ []) bytes ≡ false → starts_with (47 ∷ 42 ∷ []) bytes ≡ false → opens_comment bytes ≡ false
opens_none [] h k = refl
opens_none (a ∷ []) h k = refl
opens_none (a ∷ b ∷ rest) h k = opens_at a b rest (eqb a 47) (eqb b 47) (eqb b 42) refl refl refl h k

first_of_bytes : (bytes : List ℕ) → 0 < length bytes → opens_comment bytes ≡ false → IsFound bytes (first_found bytes)
first_of_bytes [] some o = absurd (omega (arith, some))
first_of_bytes (b ∷ bs) some o = first_right b bs o (is_space b) (is_word b) refl refl

closed_right : (bytes : List ℕ) → starts_with (47 ∷ 42 ∷ []) bytes ≡ true → (o : Option ℕ) → close_of (drop 2 bytes) ≡ o → IsFound bytes (closed o)
closed_right bytes h None e = open_right bytes h e
closed_right bytes h (Some n) e = block_right bytes n h e

found_at : (bytes : List ℕ) → 0 < length bytes → (v w : Bool) → starts_with (47 ∷ 47 ∷ []) bytes ≡ v → starts_with (47 ∷ 42 ∷ []) bytes ≡ w
    → IsFound bytes (cond v (Blank (length (line_of (drop 2 bytes)) + 2)) (cond w (closed (close_of (drop 2 bytes))) (first_found bytes)))
found_at bytes some true w h k = line_right bytes h
found_at bytes some false true h k = closed_right bytes k (close_of (drop 2 bytes)) refl
found_at bytes some false false h k = first_of_bytes bytes some (opens_none bytes h k)

-- what is found is a piece; where nothing is, none can be
pub found_right : (bytes : List ℕ) → 0 < length bytes → IsFound bytes (found bytes)
found_right bytes some = found_at bytes some (starts_with (47 ∷ 47 ∷ []) bytes) (starts_with (47 ∷ 42 ∷ []) bytes) refl refl

pub found_within : (bytes : List ℕ) (f : Found) → IsFound bytes f → IsWithin (length bytes) f
found_within bytes (Blank n) (p, after, e, i, b, len) = omega (arith, ap length e, length-append (bytes_of p) after, len)
found_within bytes (Run n) (text, after, e, i, r, len) = omega (arith, ap length e, length-append text after, len)
found_within bytes (Mark mark) (after, e, i) = omega (arith, ap length e, length-append (mark_spelling mark) after)
found_within bytes Stray h = tt
found_within bytes Open h = tt
