-- A line's text is read as that line.
use Rattle.std.proofs.Common.{zero, suc, ◌≡◌, ◌≢◌, ℕ, ◌+◌, ◌≤◌, ◌<◌, ◌^◌, eqb, Bool, true, false, cond, List, [], ◌∷◌, ◌++◌, map, length, get_or, Option, Some, None, sym, refl, ap, ◌∙◌, subst, arith, append_assoc, append-nil, decimal}
use Rattle.std.specs.Prelude.{ℤ, pos, negsuc, nat_abs, nat_le, IfSome, slice_get, ◌&&◌, not, codes, bytes_eq, option_map}
use Rattle.std.specs.List.{slice_split, onto_first, join_with_byte, list_all, AllByRecursion}
use Rattle.std.specs.Fmt.{signed_decimal}
use Rattle.std.proofs.lemmas.Bool.{leb-true, le-leb}
use Rattle.std.proofs.lemmas.Bool.Decides.{Decides-eqb}
use Rattle.std.proofs.lemmas.Slice.Eq.{bytes_eq-Decides}
use Rattle.std.proofs.lemmas.Str.Parse.{digit_at}
use Rattle.std.proofs.lemmas.Fmt.{digits_decimal, decimal_nonempty}
use Rattle.launch_file.specs.Launches.{IsName}
use Rattle.launch_file.specs.Words.{number_of, value_of, is_name, name_of, file_of, file_text, dash}
use Rattle.launch_file.specs.LineText.{Line, FirstLine, QpusLine, GlobalLine, LocalLine, BufferIs, ArgValue, ArgBuffer, RoundsLine, SeedLine, FileLine, IsProper, AreNumbers, line_words, line_text, line_from, line_of, two_words, three_words, four_words, argument_of, rounds_of, schedule_of}
use Rattle.launch_file.proofs.Numbers.{own, number_of-decimal}

not_true : (b : Bool) → (b ≡ true → ⊥) → b ≡ false
not_true true h = absurd (h refl)
not_true false h = refl

-- the byte stands nowhere in the list
abbrev pub Lacks : ℕ → List ℕ → Type 0
Lacks c [] = Unit {0}
Lacks c (x ∷ xs) = (eqb x c ≡ false) × Lacks c xs

same_byte : (c : ℕ) → eqb c c ≡ true
same_byte c = (Decides-eqb c c).1 refl

-- what stands before the first such byte is the first part
pub split_piece : (c : ℕ) (xs rest : List ℕ) → Lacks c xs → slice_split (λ (x : ℕ). eqb x c) (xs ++ c ∷ rest) ≡ xs ∷ slice_split (λ (x : ℕ). eqb x c) rest
split_piece c [] rest h = rw (same_byte c) refl
split_piece c (x ∷ xs) rest h = rw (h.0, split_piece c xs rest h.1) refl

pub split_last : (c : ℕ) (xs : List ℕ) → Lacks c xs → slice_split (λ (x : ℕ). eqb x c) xs ≡ xs ∷ []
split_last c [] h = refl
split_last c (x ∷ xs) h = rw (h.0, split_last c xs h.1) refl

-- the bytes of a word are above those of a space and of the end of a line
abbrev pub Above : List ℕ → Type 0
Above [] = Unit {0}
Above (x ∷ xs) = (33 ≤ x) × Above xs

pub lacks-above : (c : ℕ) (xs : List ℕ) → c < 33 → Above xs → Lacks c xs
lacks-above c [] h a = tt
lacks-above c (x ∷ xs) h a = (not_true _ (λ e. let same = (Decides-eqb x c).0 e in omega arith), lacks-above c xs h a.1)

pub lacks-append : (c : ℕ) (xs ys : List ℕ) → Lacks c xs → Lacks c ys → Lacks c (xs ++ ys)
lacks-append c [] ys a b = b
lacks-append c (x ∷ xs) ys a b = (a.0, lacks-append c xs ys a.1 b)

-- words of such bytes
abbrev pub AreAbove : List (List ℕ) → Type 0
AreAbove [] = Unit {0}
AreAbove (word ∷ words) = Above word × AreAbove words

-- words joined by spaces are split into the same words
pub split-join : (word : List ℕ) (words : List (List ℕ)) → AreAbove (word ∷ words) → slice_split (λ (x : ℕ). eqb x 32) (join_with_byte 32 (word ∷ words)) ≡ word ∷ words
split-join word [] h = split_last 32 word (lacks-above 32 word (omega arith) h.0)
split-join word (next ∷ words) h =
    split_piece 32 word (join_with_byte 32 (next ∷ words)) (lacks-above 32 word (omega arith) h.0) ∙ ap (λ (ws : List (List ℕ)). word ∷ ws) (split-join next words h.1)

-- and have no byte 10
pub join-lacks : (words : List (List ℕ)) → AreAbove words → Lacks 10 (join_with_byte 32 words)
join-lacks [] h = tt
join-lacks (word ∷ []) h = lacks-above 10 word (omega arith) h.0
join-lacks (word ∷ next ∷ words) h =
    lacks-append 10 word (32 ∷ join_with_byte 32 (next ∷ words)) (lacks-above 10 word (omega arith) h.0) (refl, join-lacks (next ∷ words) h.1)

-- words of letters and digits that are written out
above_test : (xs : List ℕ) → list_all (λ (x : ℕ). nat_le 33 x) xs ≡ true → Above xs
above_test [] e = tt
above_test (x ∷ xs) e = let b = both_true (nat_le 33 x) _ e in (leb-true 33 x b.0, above_test xs b.1)
  where
    both_true : (a b : Bool) → (a && b) ≡ true → (a ≡ true) × (b ≡ true)
    both_true true b e = (refl, e)
    both_true false b e = absurd (cc)

above_each : (xs : List ℕ) → ((i : ℕ) → i < length xs → 33 ≤ get_or xs i 0) → Above xs
above_each [] h = tt
above_each (x ∷ xs) h = (h 0 (omega arith), above_each xs (λ i l. h (suc i) (omega arith)))

above-decimal : (n : ℕ) → n < 2 ^ 64 → Above (decimal n)
above-decimal n small = above_each (decimal n) (λ i l. let d = digit_at (decimal n) i (digits_decimal own n small) l in omega (arith, d))

above_name : (xs : List ℕ) → ((i : ℕ) → IfSome (slice_get xs i) (λ x. (33 ≤ x) × (x ≤ 126))) → Above xs
above_name [] h = tt
above_name (x ∷ xs) h = ((h 0).0, above_name xs (λ i. h (suc i)))

above_file : (f : Option (List ℕ)) → IfSome f IsName → Above (file_text f)
above_file (Some name) h = above_name name h.each
above_file None h = (omega arith, tt)

above-signed : (z : ℤ) → nat_abs z < 2 ^ 64 → Above (signed_decimal z)
above-signed (pos n) h = above-decimal n h
above-signed (negsuc n) h = (omega arith, above-decimal (suc n) h)

above_numbers : (ns : List ℕ) → AllByRecursion (λ n. n < 2 ^ 64) ns → AreAbove (map decimal ns)
above_numbers [] h = tt
above_numbers (n ∷ ns) h = (above-decimal n h.0, above_numbers ns h.1)

pub words_above : (line : Line) → IsProper line → AreAbove (line_words line)
words_above FirstLine h = (above_test (codes "launch") refl, (above_test (codes "1") refl, tt))
words_above (QpusLine n) h = (above_test (codes "qpus") refl, (above-decimal n h, tt))
words_above (GlobalLine ns) h = (above_test (codes "global") refl, above_numbers ns h.each)
words_above (LocalLine ns) h = (above_test (codes "local") refl, above_numbers ns h.each)
words_above (BufferIs size from to) h = (above_test (codes "buffer") refl, (above-decimal size h.0, (above_file from h.1, (above_file to h.2, tt))))
words_above (ArgValue z) h = (above_test (codes "arg") refl, (above_test (codes "value") refl, (above-signed z h, tt)))
words_above (ArgBuffer n) h = (above_test (codes "arg") refl, (above_test (codes "buffer") refl, (above-decimal n h, tt)))
words_above (RoundsLine n) h = (above_test (codes "schedule") refl, (above_test (codes "rr") refl, (above-decimal n h, tt)))
words_above (SeedLine n m) h = (above_test (codes "schedule") refl, (above_test (codes "seed") refl, (above-decimal n h.0, (above-decimal m h.1, tt))))
words_above (FileLine name n) h = (above_test (codes "schedule") refl, (above_test (codes "file") refl, (above_name name h.0.each, (above-decimal n h.1, tt))))

-- a line's text has no byte 10
pub text-lacks : (line : Line) → IsProper line → Lacks 10 (line_text line)
unfolding line_text
text-lacks line h = join-lacks (line_words line) (words_above line h)

-- a name is read
all_printed : (xs : List ℕ) → ((i : ℕ) → IfSome (slice_get xs i) (λ x. (33 ≤ x) × (x ≤ 126))) → list_all (λ byte. nat_le 33 byte && nat_le byte 126) xs ≡ true
all_printed [] h = refl
all_printed (x ∷ xs) h = rw (le-leb 33 x (h 0).0, le-leb x 126 (h 0).1, all_printed xs (λ i. h (suc i))) refl

is_name-back : (xs : List ℕ) → IsName xs → is_name xs ≡ true
unfolding is_name
is_name-back xs h =
    let other : bytes_eq xs dash ≡ false = not_true _ (λ e. h.names ((bytes_eq-Decides xs dash).0 e)) in
    rw (le-leb 1 (length xs) h.some, le-leb (length xs) 255 h.short, all_printed xs h.each, other) refl

pub name_of-back : (xs : List ℕ) → IsName xs → name_of xs ≡ Some xs
unfolding name_of
name_of-back xs h = rw (is_name-back xs h) refl

pub file_of-back : (f : Option (List ℕ)) → IfSome f IsName → file_of (file_text f) ≡ Some f
unfolding file_of
file_of-back (Some name) h =
    let other : bytes_eq name dash ≡ false = not_true _ (λ e. h.names ((bytes_eq-Decides name dash).0 e)) in
    rw (other, name_of-back name h) refl
file_of-back None h = refl

-- a value is read
plain_value : (n : ℕ) (word : List ℕ) → decimal n ≡ word → n < 2 ^ 64 → value_of word ≡ Some (pos n)
unfolding value_of
plain_value n [] e h = absurd (omega (arith, decimal_nonempty n h, ap length e))
plain_value n (x ∷ xs) e h =
    let d = digit_at (decimal n) 0 (digits_decimal own n h) (decimal_nonempty n h) in
    let first : get_or (decimal n) 0 0 ≡ x = ap (λ (ws : List ℕ). get_or ws 0 0) e in
    let other : eqb x 45 ≡ false = not_true _ (λ t. let same = (Decides-eqb x 45).0 t in omega (arith, d)) in
    rw other (ap (option_map pos) (ap number_of (sym e) ∙ number_of-decimal n h))

pub value_of-back : (z : ℤ) → nat_abs z < 2 ^ 64 → value_of (signed_decimal z) ≡ Some z
unfolding value_of
value_of-back (pos n) h = plain_value n (decimal n) refl h
value_of-back (negsuc n) h = rw (number_of-decimal (suc n) h) refl

global-back : (ns : List ℕ) → AreNumbers ns → line_from (codes "global" ∷ map decimal ns) ≡ Some (GlobalLine ns)
unfolding two_words three_words four_words
global-back [] h = absurd (omega (arith, h.some))
global-back (x ∷ []) h = rw (number_of-decimal x h.each.0) refl
global-back (x ∷ y ∷ []) h = rw (number_of-decimal x h.each.0, number_of-decimal y h.each.1.0) refl
global-back (x ∷ y ∷ z ∷ []) h = rw (number_of-decimal x h.each.0, number_of-decimal y h.each.1.0, number_of-decimal z h.each.1.1.0) refl
global-back (x ∷ y ∷ z ∷ w ∷ ns) h = absurd (omega (arith, h.few))

local-back : (ns : List ℕ) → AreNumbers ns → line_from (codes "local" ∷ map decimal ns) ≡ Some (LocalLine ns)
unfolding two_words three_words four_words
local-back [] h = absurd (omega (arith, h.some))
local-back (x ∷ []) h = rw (number_of-decimal x h.each.0) refl
local-back (x ∷ y ∷ []) h = rw (number_of-decimal x h.each.0, number_of-decimal y h.each.1.0) refl
local-back (x ∷ y ∷ z ∷ []) h = rw (number_of-decimal x h.each.0, number_of-decimal y h.each.1.0, number_of-decimal z h.each.1.1.0) refl
local-back (x ∷ y ∷ z ∷ w ∷ ns) h = absurd (omega (arith, h.few))

from_words : (line : Line) → IsProper line → line_from (line_words line) ≡ Some line
unfolding two_words three_words four_words argument_of rounds_of schedule_of
from_words FirstLine h = refl
from_words (QpusLine n) h = rw (number_of-decimal n h) refl
from_words (GlobalLine ns) h = global-back ns h
from_words (LocalLine ns) h = local-back ns h
from_words (BufferIs size from to) h = rw (number_of-decimal size h.0, file_of-back from h.1, file_of-back to h.2) refl
from_words (ArgValue z) h = rw (value_of-back z h) refl
from_words (ArgBuffer n) h = rw (number_of-decimal n h) refl
from_words (RoundsLine n) h = rw (number_of-decimal n h) refl
from_words (SeedLine n m) h = rw (number_of-decimal n h.0, number_of-decimal m h.1) refl
from_words (FileLine name n) h = rw (name_of-back name h.0, number_of-decimal n h.1) refl

split-words : (words : List (List ℕ)) → 1 ≤ length words → AreAbove words → slice_split (λ (x : ℕ). eqb x 32) (join_with_byte 32 words) ≡ words
split-words [] some h = absurd (omega arith)
split-words (word ∷ words) some h = split-join word words h

some_words : (line : Line) → 1 ≤ length (line_words line)
some_words FirstLine = omega arith
some_words (QpusLine n) = omega arith
some_words (GlobalLine ns) = omega arith
some_words (LocalLine ns) = omega arith
some_words (BufferIs size from to) = omega arith
some_words (ArgValue z) = omega arith
some_words (ArgBuffer n) = omega arith
some_words (RoundsLine n) = omega arith
some_words (SeedLine n m) = omega arith
some_words (FileLine name n) = omega arith

-- a proper line's text is read as it
pub line_of-text : (line : Line) → IsProper line → line_of (line_text line) ≡ Some line
unfolding line_of line_text
line_of-text line h = ap line_from (split-words (line_words line) (some_words line) (words_above line h)) ∙ from_words line h
