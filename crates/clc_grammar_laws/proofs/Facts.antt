-- Facts on kinds of tokens. Each is read off the list of all classes.
use Rattle.std.proofs.Common.{◌≡◌, ℕ, zero, suc, Bool, true, false, not, cond, List, [], ◌∷◌, ◌++◌, refl, subst, map}
use Rattle.clc_reading.specs.Reading.{sees}
use Rattle.clc_lexer.specs.Tables.{all_marks, all_words}
use Rattle.clc_lexer.specs.declared.token.Token.{Token}
use Rattle.clc_lexer.specs.declared.marks.Mark.TheVariants as m
use Rattle.clc_lexer.specs.declared.words.Word.TheVariants as w
use Rattle.clc_tree.specs.Kinds.{Class, Name, Number, Word, Mark, class_of, takes, is}
use Rattle.clc_tree.specs.declared.kinds.Kind.{Kind}

abbrev pub Test : Type 0
Test = Class → Bool

-- a test of classes, at a token
abbrev pub of : Test → Token → Bool
of f t = f (class_of t.kind)

abbrev others : List Class
others = Number ∷ (map Word all_words ++ map Mark all_marks)

abbrev classes : List Class
classes = Name ∷ others

-- where a class stands in that list
abbrev number : Class → ℕ
number Name = 0
number Number = 1
number (Word w.Kernel) = 2
number (Word w.UnderscoreKernel) = 3
number (Word w.Global) = 4
number (Word w.UnderscoreGlobal) = 5
number (Word w.Constant) = 6
number (Word w.UnderscoreConstant) = 7
number (Word w.Const) = 8
number (Word w.Restrict) = 9
number (Word w.Inline) = 10
number (Word w.Void) = 11
number (Word w.Char) = 12
number (Word w.Uchar) = 13
number (Word w.Short) = 14
number (Word w.Ushort) = 15
number (Word w.Int) = 16
number (Word w.Uint) = 17
number (Word w.SizeT) = 18
number (Word w.Unsigned) = 19
number (Word w.Signed) = 20
number (Word w.If) = 21
number (Word w.Else) = 22
number (Word w.While) = 23
number (Word w.Do) = 24
number (Word w.For) = 25
number (Word w.Break) = 26
number (Word w.Continue) = 27
number (Word w.Return) = 28
number (Mark m.ShiftLeftAssign) = 29
number (Mark m.ShiftRightAssign) = 30
number (Mark m.PlusPlus) = 31
number (Mark m.MinusMinus) = 32
number (Mark m.ShiftLeft) = 33
number (Mark m.ShiftRight) = 34
number (Mark m.LessEqual) = 35
number (Mark m.GreaterEqual) = 36
number (Mark m.EqualEqual) = 37
number (Mark m.BangEqual) = 38
number (Mark m.AndAnd) = 39
number (Mark m.OrOr) = 40
number (Mark m.PlusAssign) = 41
number (Mark m.MinusAssign) = 42
number (Mark m.StarAssign) = 43
number (Mark m.SlashAssign) = 44
number (Mark m.PercentAssign) = 45
number (Mark m.AndAssign) = 46
number (Mark m.OrAssign) = 47
number (Mark m.XorAssign) = 48
number (Mark m.LeftParen) = 49
number (Mark m.RightParen) = 50
number (Mark m.LeftBrace) = 51
number (Mark m.RightBrace) = 52
number (Mark m.LeftBracket) = 53
number (Mark m.RightBracket) = 54
number (Mark m.Semicolon) = 55
number (Mark m.Comma) = 56
number (Mark m.Question) = 57
number (Mark m.Colon) = 58
number (Mark m.Plus) = 59
number (Mark m.Minus) = 60
number (Mark m.Star) = 61
number (Mark m.Slash) = 62
number (Mark m.Percent) = 63
number (Mark m.Ampersand) = 64
number (Mark m.Bar) = 65
number (Mark m.Caret) = 66
number (Mark m.Tilde) = 67
number (Mark m.Bang) = 68
number (Mark m.Less) = 69
number (Mark m.Greater) = 70
number (Mark m.Assign) = 71

nth : List Class → ℕ → Class
nth [] n = Name
nth (x ∷ xs) zero = x
nth (x ∷ xs) (suc n) = nth xs n

nth_number : (c : Class) → nth classes (number c) ≡ c
unfolding nth
nth_number Name = refl
nth_number Number = refl
nth_number (Word w.Kernel) = refl
nth_number (Word _) = refl
nth_number (Mark m.Comma) = refl
nth_number (Mark _) = refl

abbrev pub for_all : Test → List Class → Bool
for_all f [] = true
for_all f (x ∷ xs) = cond (f x) (for_all f xs) false

for_all_at : (f : Test) (x : Class) (xs : List Class) (b : Bool) → f x ≡ b → cond b (for_all f xs) false ≡ true → (f x ≡ true) × (for_all f xs ≡ true)
for_all_at f x xs true e h = (e, h)
for_all_at f x xs false e h = absurd (cc)

for_all_nth : (f : Test) (xs : List Class) (n : ℕ) → for_all f xs ≡ true → f Name ≡ true → f (nth xs n) ≡ true
unfolding nth
for_all_nth f [] n h g = g
for_all_nth f (x ∷ xs) zero h g = (for_all_at f x xs (f x) refl h).0
for_all_nth f (x ∷ xs) (suc n) h g = for_all_nth f xs n (for_all_at f x xs (f x) refl h).1 g

-- a test that all classes pass, at a class
pub at_each : (f : Test) → for_all f classes ≡ true → (c : Class) → f c ≡ true
unfolding nth
at_each f h c =
    let first = (for_all_at f Name others (f Name) refl h).0 in
    subst (λ y. f y ≡ true) (nth_number c) (for_all_nth f classes (number c) h first)

-- no class passes both tests
abbrev pub Apart : Test → Test → Type 0
Apart f g = for_all (λ c. cond (f c) (not (g c)) true) classes ≡ true

apart_at : (a b : Bool) → cond a (not b) true ≡ true → a ≡ true → b ≡ false
apart_at true false h e = refl
apart_at true true h e = absurd (cc)
apart_at false b h e = absurd (cc)

pub apart_of : (f g : Test) → Apart f g → (t : Token) → of f t ≡ true → of g t ≡ false
apart_of f g h t e = apart_at (of f t) (of g t) (at_each (λ c. cond (f c) (not (g c)) true) h (class_of t.kind)) e

pub apart : (f g : Kind) → Apart (takes f) (takes g) → (t : Token) → is f t ≡ true → is g t ≡ false
apart f g h t e = apart_of (takes f) (takes g) h t e

-- each class that passes the one passes the other
abbrev pub Within : Test → Test → Type 0
Within f g = for_all (λ c. cond (f c) (g c) true) classes ≡ true

within_at : (a b : Bool) → cond a b true ≡ true → a ≡ true → b ≡ true
within_at true b h e = h
within_at false b h e = absurd (cc)

pub within_of : (f g : Test) → Within f g → (t : Token) → of f t ≡ true → of g t ≡ true
within_of f g h t e = within_at (of f t) (of g t) (at_each (λ c. cond (f c) (g c) true) h (class_of t.kind)) e

pub within : (f g : Kind) → Within (takes f) (takes g) → (t : Token) → is f t ≡ true → is g t ≡ true
within f g h t e = within_of (takes f) (takes g) h t e

without_at : (a b : Bool) → cond a b true ≡ true → b ≡ false → a ≡ false
without_at true b h e = absurd (cc)
without_at false b h e = refl

pub without_of : (f g : Test) → Within f g → (rest : List Token) → sees (of g) rest ≡ false → sees (of f) rest ≡ false
without_of f g h [] e = refl
without_of f g h (t ∷ rest) e = without_at (of f t) (of g t) (at_each (λ c. cond (f c) (g c) true) h (class_of t.kind)) e
