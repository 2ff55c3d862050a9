-- What a token's bytes are read as.
use Rattle.std.specs.Prelude.{ℕ, ◌^◌, nat_lt, Bool, true, false, cond, ◌||◌, ◌==◌, List, [], ◌∷◌, length, drop, codes, Option, Some, None}
use Rattle.std.specs.Str.{bytes_eq}
use Rattle.std.specs.Str.Parse.{digits_value}
use Rattle.std.specs.Char.{digit_value}
use Rattle.clc_lexer.specs.Tables.{among, word_spelling, all_words, left_out_words, vector_sizes}
use Rattle.clc_lexer.specs.Characters.{begins_with_digit}
use Rattle.clc_lexer.specs.Scanning.{starts_with}
use Rattle.clc_lexer.specs.Numerals.{radix}
use Rattle.clc_lexer.specs.declared.numbers.Base.{Base}
use Rattle.clc_lexer.specs.declared.numbers.Base.TheVariants.{Decimal, Octal, Hexadecimal}
use Rattle.clc_lexer.specs.declared.words.Word.{Word as WordType}
use Rattle.clc_lexer.specs.declared.token.Tok.{Tok}
use Rattle.clc_lexer.specs.declared.token.Tok.TheVariants.{Name, Number, Word}
use Rattle.clc_lexer.specs.declared.token.LexRule.{LexRule}
use Rattle.clc_lexer.specs.declared.token.LexRule.TheVariants.{L3, L5}

-- ---- numbers

abbrev pub base_of : List ℕ → Base
base_of bytes =
    cond (starts_with (codes "0x") bytes || starts_with (codes "0X") bytes) Hexadecimal
    (cond (starts_with (codes "0") bytes) Octal Decimal)

abbrev pub after_front : Base → List ℕ → List ℕ
after_front Decimal bytes = bytes
after_front Octal bytes = drop 1 bytes
after_front Hexadecimal bytes = drop 2 bytes

-- the digits of the radix at the front
abbrev pub digits_of : ℕ → List ℕ → List ℕ
digits_of r [] = []
digits_of r (b ∷ bs) = cond (nat_lt (digit_value b) r) (b ∷ digits_of r bs) []

-- whether there is a suffix, None where these bytes are none
abbrev pub suffix_of : List ℕ → Option Bool
suffix_of [] = Some false
suffix_of (b ∷ []) = cond (b == 117 || b == 85) (Some true) None
suffix_of (b ∷ c ∷ bs) = None

abbrev pub has_enough : Base → List ℕ → Bool
has_enough Octal digits = true
has_enough Decimal [] = false
has_enough Decimal (d ∷ ds) = true
has_enough Hexadecimal [] = false
has_enough Hexadecimal (d ∷ ds) = true

abbrev pub as_uint : ℕ → Option (ℕ × Bool)
as_uint value = cond (nat_lt value (2 ^ 32)) (Some (value, true)) None

abbrev pub wider : Base → ℕ → Option (ℕ × Bool)
wider Decimal value = None
wider Octal value = as_uint value
wider Hexadecimal value = as_uint value

-- the value with its type, where it has one
abbrev pub typed : Base → ℕ → Option Bool → Option (ℕ × Bool)
typed base value None = None
typed base value (Some true) = as_uint value
typed base value (Some false) = cond (nat_lt value (2 ^ 31)) (Some (value, false)) (wider base value)

abbrev pub read_digits : Base → List ℕ → List ℕ → Option (ℕ × Bool)
read_digits base digits suffix = cond (has_enough base digits) (typed base (digits_value (radix base) digits) (suffix_of suffix)) None

abbrev pub read_body : Base → List ℕ → Option (ℕ × Bool)
read_body base body = read_digits base (digits_of (radix base) body) (drop (length (digits_of (radix base) body)) body)

abbrev pub number_of : List ℕ → Option (ℕ × Bool)
number_of bytes = read_body (base_of bytes) (after_front (base_of bytes) bytes)

-- ---- words

-- the first of these items that is spelled so
abbrev pub spelled : {A : Type 0} → (A → List ℕ) → List A → List ℕ → Option A
spelled spelling [] bytes = None
spelled spelling (x ∷ xs) bytes = cond (bytes_eq (spelling x) bytes) (Some x) (spelled spelling xs bytes)

-- the bytes are this element's type and a number of components
abbrev pub is_vector_name : List ℕ → List ℕ → Bool
is_vector_name element bytes = cond (starts_with element bytes) (among vector_sizes (drop (length element) bytes)) false

abbrev pub is_vector_among : List (List ℕ) → List ℕ → Bool
is_vector_among [] bytes = false
is_vector_among (element ∷ elements) bytes = is_vector_name element bytes || is_vector_among elements bytes

-- ---- kinds of tokens

-- a token, or the rule that it violates
pub data Kind : Type 0 where
  Is : Tok → Kind
  Breaks : LexRule → Kind

abbrev pub number_kind : Option (ℕ × Bool) → Kind
number_kind None = Breaks L3
number_kind (Some (value, unsigned)) = Is (Number value unsigned)

abbrev pub word_kind : Option WordType → List ℕ → Kind
word_kind (Some word) bytes = Is (Word word)
word_kind None bytes = cond (among left_out_words bytes) (Breaks L5) (Is (Name bytes))

-- what letters and digits are read as
abbrev pub run_kind : List ℕ → Kind
run_kind bytes = cond (begins_with_digit bytes) (number_kind (number_of bytes)) (word_kind (spelled word_spelling all_words bytes) bytes)
