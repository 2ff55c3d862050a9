-- The bytes of a token say one thing.
use Rattle.std.proofs.Common.{◌≡◌, inl, inr, ℕ, ◌≤◌, nat_le, Bool, true, false, cond, ◌||◌, ◌&&◌, eqb, List, [], ◌∷◌, ◌++◌, map, Option, Some, None, refl, sym, ap, ◌∙◌, arith}
use Rattle.std.proofs.lemmas.Bool.{eqb-true, leb-true, le-leb}
use Rattle.std.proofs.lemmas.Str.Parse.{digit_from_value}
use Rattle.std.specs.Str.{bytes_eq}
use Rattle.clc_lexer.specs.Tables.{among, mark_spelling, all_marks, word_spelling, all_words, left_out_words}
use Rattle.clc_lexer.specs.Characters.{is_letter, is_digit, begins_with_digit, begins_with_letter}
use Rattle.clc_lexer.specs.Numerals.{HasDigits, IsNumber}
use Rattle.clc_lexer.specs.SourceText.{Says}
use Rattle.clc_lexer.specs.Reading.{Kind, Is, Breaks, number_of, number_kind, spelled, word_kind}
use Rattle.clc_lexer.specs.declared.numbers.Base.{Base}
use Rattle.clc_lexer.specs.declared.numbers.Base.TheVariants.{Decimal, Octal, Hexadecimal}
use Rattle.clc_lexer.specs.declared.marks.Mark.{Mark as MarkType}
use Rattle.clc_lexer.specs.declared.marks.Mark.TheVariants as mark
use Rattle.clc_lexer.specs.declared.words.Word.{Word as WordType}
use Rattle.clc_lexer.specs.declared.words.Word.TheVariants as word
use Rattle.clc_lexer.specs.declared.token.Tok.{Tok}
use Rattle.clc_lexer.specs.declared.token.Tok.TheVariants.{Name, Number, Word, Mark}
use Rattle.clc_lexer.specs.declared.token.LexRule.TheVariants.{L1, L2, L3, L4, L5}
use Rattle.clc_lexer.proofs.Fronts.{same_is}
use Rattle.clc_lexer.proofs.NumberRight.{spelled_is_read, read_is_spelled}

abbrev mark_kind : Option MarkType → Kind
mark_kind None = Breaks L2
mark_kind (Some m) = Is (Mark m)

-- what any bytes are read as
pub tok_of : List ℕ → Kind
tok_of text =
    cond (begins_with_digit text) (number_kind (number_of text))
    (cond (begins_with_letter text) (word_kind (spelled word_spelling all_words text) text) (mark_kind (spelled mark_spelling all_marks text)))

mark_read : (m : MarkType) → tok_of (mark_spelling m) ≡ Is (Mark m)
unfolding tok_of
mark_read mark.ShiftLeftAssign = refl
mark_read mark.ShiftRightAssign = refl
mark_read mark.PlusPlus = refl
mark_read mark.MinusMinus = refl
mark_read mark.ShiftLeft = refl
mark_read mark.ShiftRight = refl
mark_read mark.LessEqual = refl
mark_read mark.GreaterEqual = refl
mark_read mark.EqualEqual = refl
mark_read mark.BangEqual = refl
mark_read mark.AndAnd = refl
mark_read mark.OrOr = refl
mark_read mark.PlusAssign = refl
mark_read mark.MinusAssign = refl
mark_read mark.StarAssign = refl
mark_read mark.SlashAssign = refl
mark_read mark.PercentAssign = refl
mark_read mark.AndAssign = refl
mark_read mark.OrAssign = refl
mark_read mark.XorAssign = refl
mark_read mark.LeftParen = refl
mark_read mark.RightParen = refl
mark_read mark.LeftBrace = refl
mark_read mark.RightBrace = refl
mark_read mark.LeftBracket = refl
mark_read mark.RightBracket = refl
mark_read mark.Semicolon = refl
mark_read mark.Comma = refl
mark_read mark.Question = refl
mark_read mark.Colon = refl
mark_read mark.Plus = refl
mark_read mark.Minus = refl
mark_read mark.Star = refl
mark_read mark.Slash = refl
mark_read mark.Percent = refl
mark_read mark.Ampersand = refl
mark_read mark.Bar = refl
mark_read mark.Caret = refl
mark_read mark.Tilde = refl
mark_read mark.Bang = refl
mark_read mark.Less = refl
mark_read mark.Greater = refl
mark_read mark.Assign = refl

word_read : (w : WordType) → tok_of (word_spelling w) ≡ Is (Word w)
unfolding tok_of
word_read word.Kernel = refl
word_read word.UnderscoreKernel = refl
word_read word.Global = refl
word_read word.UnderscoreGlobal = refl
word_read word.Constant = refl
word_read word.UnderscoreConstant = refl
word_read word.Const = refl
word_read word.Restrict = refl
word_read word.Inline = refl
word_read word.Void = refl
word_read word.Char = refl
word_read word.Uchar = refl
word_read word.Short = refl
word_read word.Ushort = refl
word_read word.Int = refl
word_read word.Uint = refl
word_read word.SizeT = refl
word_read word.Unsigned = refl
word_read word.Signed = refl
word_read word.If = refl
word_read word.Else = refl
word_read word.While = refl
word_read word.Do = refl
word_read word.For = refl
word_read word.Break = refl
word_read word.Continue = refl
word_read word.Return = refl

-- ---- names

by_test : (v : Bool) → (v ≡ true → ⊥) → v ≡ false
by_test true h = absurd (h refl)
by_test false h = refl

two_true : (a b : Bool) → (a && b) ≡ true → (a ≡ true) × (b ≡ true)
two_true true b h = (refl, h)
two_true false b h = absurd (cc)

letter_from : (b : ℕ) → is_letter b ≡ true → 65 ≤ b
letter_from b h = by (nat_le 65 b && nat_le b 90) (nat_le 97 b && nat_le b 122) (eqb b 95) refl refl refl h
  where
    by : (u v w : Bool) → (nat_le 65 b && nat_le b 90) ≡ u → (nat_le 97 b && nat_le b 122) ≡ v → eqb b 95 ≡ w → (u || v || w) ≡ true → 65 ≤ b
    by true v w e f g i = leb-true 65 b (two_true (nat_le 65 b) (nat_le b 90) e).0
    by false true w e f g i = let le = leb-true 97 b (two_true (nat_le 97 b) (nat_le b 122) f).0 in omega (arith, le)
    by false false true e f g i = let is = eqb-true b 95 g in omega (arith, is)
    by false false false e f g i = absurd (cc)

digit_to : (b : ℕ) → is_digit b ≡ true → b ≤ 57
digit_to b h = leb-true b 57 (two_true (nat_le 48 b) (nat_le b 57) h).1

no_digit : (text : List ℕ) → begins_with_letter text ≡ true → begins_with_digit text ≡ false
no_digit [] h = absurd (cc)
no_digit (b ∷ bs) h = by_test (is_digit b) (λ d. let low = letter_from b h in let high = digit_to b d in omega (arith, low, high))

not_spelled_at : {A : Type 0} (f : A → List ℕ) (y : A) (ys : List A) (text : List ℕ) (v : Bool) → (among (map f ys) text ≡ false → spelled f ys text ≡ None)
    → (v || among (map f ys) text) ≡ false → cond v (Some y) (spelled f ys text) ≡ None
not_spelled_at f y ys text true ih h = absurd (cc)
not_spelled_at f y ys text false ih h = ih h

not_spelled : {A : Type 0} (f : A → List ℕ) (xs : List A) (text : List ℕ) → among (map f xs) text ≡ false → spelled f xs text ≡ None
not_spelled f [] text h = refl
not_spelled f (y ∷ ys) text h = not_spelled_at f y ys text (bytes_eq (f y) text) (not_spelled f ys text) h

-- ---- numbers

digit_is : (d : ℕ) → 48 ≤ d → d ≤ 57 → is_digit d ≡ true
digit_is d low high = ap (λ v. v && nat_le d 57) (le-leb 48 d low) ∙ le-leb d 57 high

digits_begin : (base : Base) (front digits rest : List ℕ) → HasDigits base front digits → begins_with_digit (front ++ (digits ++ rest)) ≡ true
digits_begin Decimal front [] rest h = absurd (omega (arith, h.1.0))
digits_begin Decimal front (d ∷ ds) rest h =
    let r = digit_from_value d h.1.1.0 in
    ap (λ z. begins_with_digit (z ++ (d ∷ (ds ++ rest)))) h.0 ∙ digit_is d (let P : 48 ≤ d = omega (arith, r.0) in P) (let P : d ≤ 57 = omega (arith, r.1) in P)
digits_begin Octal front digits rest h = ap (λ z. begins_with_digit (z ++ (digits ++ rest))) h.0
digits_begin Hexadecimal front digits rest (inl e, n) = ap (λ z. begins_with_digit (z ++ (digits ++ rest))) e
digits_begin Hexadecimal front digits rest (inr e, n) = ap (λ z. begins_with_digit (z ++ (digits ++ rest))) e

number_begins : (text : List ℕ) (v : ℕ) (u : Bool) → IsNumber text v u → begins_with_digit text ≡ true
number_begins text v u n = ap begins_with_digit n.spelled ∙ digits_begin n.base n.front n.digits n.suffix n.has_digits

-- ---- what is said is read

pub said_is_read : (text : List ℕ) (t : Tok) → Says text t → tok_of text ≡ Is t
unfolding tok_of
said_is_read text (Name name) (e, r, l, nw, nl) =
    ap (λ v. cond v (number_kind (number_of text)) (cond (begins_with_letter text) (word_kind (spelled word_spelling all_words text) text) (mark_kind (spelled mark_spelling all_marks text)))) (no_digit text l)
    ∙ ap (λ v. cond v (word_kind (spelled word_spelling all_words text) text) (mark_kind (spelled mark_spelling all_marks text))) l
    ∙ ap (λ o. word_kind o text) (not_spelled word_spelling all_words text nw)
    ∙ ap (λ v. cond v (Breaks L5) (Is (Name text))) nl
    ∙ ap (λ z. Is (Name z)) (sym e)
said_is_read text (Number v u) n =
    ap (λ b. cond b (number_kind (number_of text)) (cond (begins_with_letter text) (word_kind (spelled word_spelling all_words text) text) (mark_kind (spelled mark_spelling all_marks text)))) (number_begins text v u n)
    ∙ ap number_kind (spelled_is_read text v u n)
said_is_read text (Word w) e = ap tok_of e ∙ word_read w
said_is_read text (Mark m) e = ap tok_of e ∙ mark_read m

-- the bytes of a token say one thing
pub one_saying : (text : List ℕ) (a b : Tok) → Says text a → Says text b → a ≡ b
one_saying text a b s t = same a b (sym (said_is_read text a s) ∙ said_is_read text b t)
  where
    same : (a b : Tok) → ◌≡◌ {A = Kind} (Is a) (Is b) → a ≡ b
    same a b h = cc

-- ---- what violates a rule says nothing

pub no_number_breaks : (text : List ℕ) → begins_with_digit text ≡ true → ((v : ℕ) (u : Bool) → IsNumber text v u → ⊥) → tok_of text ≡ Breaks L3
unfolding tok_of
no_number_breaks text d none =
    ap (λ b. cond b (number_kind (number_of text)) (cond (begins_with_letter text) (word_kind (spelled word_spelling all_words text) text) (mark_kind (spelled mark_spelling all_marks text)))) d
    ∙ by (number_of text) refl
  where
    by : (o : Option (ℕ × Bool)) → number_of text ≡ o → number_kind o ≡ Breaks L3
    by None e = refl
    by (Some (v, u)) e = absurd (none v u (read_is_spelled text v u e))

abbrev pub is_l5 : Kind → Bool
is_l5 (Is t) = false
is_l5 (Breaks L1) = false
is_l5 (Breaks L2) = false
is_l5 (Breaks L3) = false
is_l5 (Breaks L4) = false
is_l5 (Breaks L5) = true

abbrev each : (List ℕ → Bool) → List (List ℕ) → Bool
each p [] = true
each p (x ∷ xs) = p x && each p xs

each_of : (p : List ℕ → Bool) (table : List (List ℕ)) (x : List ℕ) → each p table ≡ true → among table x ≡ true → p x ≡ true
each_of p [] x h a = absurd (cc)
each_of p (y ∷ ys) x h a = by (bytes_eq y x) refl (each_of p ys x (two_true (p y) (each p ys) h).1) a
  where
    by : (v : Bool) → bytes_eq y x ≡ v → (among ys x ≡ true → p x ≡ true) → (v || among ys x) ≡ true → p x ≡ true
    by true e ih g = ap p (sym (same_is y x e)) ∙ (two_true (p y) (each p ys) h).0
    by false e ih g = ih g

all_left_out : each (λ x. is_l5 (tok_of x)) left_out_words ≡ true
unfolding tok_of
all_left_out = refl

pub left_out_breaks : (text : List ℕ) → among left_out_words text ≡ true → is_l5 (tok_of text) ≡ true
left_out_breaks text h = each_of (λ x. is_l5 (tok_of x)) left_out_words text all_left_out h
