-- The pieces of a source, its tokens, and the first place where a rule on its bytes is violated.
use Rattle.std.specs.Prelude.{◌≡◌, ℕ, ◌+◌, ◌<◌, ◌≤◌, Bool, true, false, ◌&&◌, ◌||◌, ◌==◌, List, [], ◌∷◌, ◌++◌, length, codes}
use Rattle.clc_lexer.specs.Tables.{among, mark_spelling, word_spelling, word_spellings, left_out_words}
use Rattle.clc_lexer.specs.Characters.{is_space, is_run, is_token, begins_with_digit, begins_with_letter}
use Rattle.clc_lexer.specs.Numerals.{IsNumber}
use Rattle.clc_lexer.specs.declared.token.Tok.{Tok}
use Rattle.clc_lexer.specs.declared.token.Tok.TheVariants.{Name, Number, Word, Mark}
use Rattle.clc_lexer.specs.declared.token.Token.{Token}
use Rattle.clc_lexer.specs.declared.token.LexRule.{LexRule}
use Rattle.clc_lexer.specs.declared.token.LexRule.TheVariants.{L1, L2, L3, L4, L5}

-- ---- pieces (C99, 6.4 and 6.4.9)

pub data Piece : Type 0 where
  -- a byte of white space
  Space : (b : ℕ) → Piece
  -- a comment to the end of its line, and one up to a closing mark: what stands between
  LineComment : (body : List ℕ) → Piece
  BlockComment : (body : List ℕ) → Piece
  -- a token
  Text : (bytes : List ℕ) → Piece

abbrev pub bytes_of : Piece → List ℕ
bytes_of (Space b) = b ∷ []
bytes_of (LineComment body) = codes "//" ++ body
bytes_of (BlockComment body) = codes "/*" ++ (body ++ codes "*/")
bytes_of (Text bytes) = bytes

-- a comment begins here
abbrev pub opens_comment : List ℕ → Bool
opens_comment [] = false
opens_comment (a ∷ []) = false
opens_comment (a ∷ b ∷ rest) = a == 47 && (b == 47 || b == 42)

abbrev pub has_newline : List ℕ → Bool
has_newline [] = false
has_newline (b ∷ bs) = b == 10 || has_newline bs

-- nothing, or the end of a line
abbrev pub at_line_end : List ℕ → Bool
at_line_end [] = true
at_line_end (b ∷ bs) = b == 10

-- the closing mark of a comment stands somewhere in these bytes
abbrev pub Closes : List ℕ → Type 0
Closes bytes = (front : List ℕ) × (rest : List ℕ) × (bytes ≡ front ++ (codes "*/" ++ rest))

-- no longer token stands there, where this rest comes after it
abbrev pub IsLongest : List ℕ → List ℕ → Type 0
IsLongest bytes rest = (more tail : List ℕ) → rest ≡ more ++ tail → is_token (bytes ++ more) ≡ true → more ≡ []

-- a piece of a split, where this rest comes after it: a comment ends at its first possible end, no token begins where a comment does,
-- and a token is the longest at its place
abbrev pub IsPiece : Piece → List ℕ → Type 0
IsPiece (Space b) rest = is_space b ≡ true
IsPiece (LineComment body) rest = (has_newline body ≡ false) × (at_line_end rest ≡ true)
IsPiece (BlockComment body) rest = Closes (body ++ codes "*") → ⊥
IsPiece (Text bytes) rest = (is_token bytes ≡ true) × (opens_comment (bytes ++ rest) ≡ false) × IsLongest bytes rest

-- the source is these pieces and then the rest
abbrev pub IsSplit : List Piece → List ℕ → List ℕ → Type 0
IsSplit [] source rest = source ≡ rest
IsSplit (p ∷ ps) source rest = (after : List ℕ) × (source ≡ bytes_of p ++ after) × IsPiece p after × IsSplit ps after rest

-- ---- tokens

-- the bytes of a token say this
abbrev pub Says : List ℕ → Tok → Type 0
Says bytes (Name name) = (name ≡ bytes) × (is_run bytes ≡ true) × (begins_with_letter bytes ≡ true)
    × (among word_spellings bytes ≡ false) × (among left_out_words bytes ≡ false)
Says bytes (Number value unsigned) = IsNumber bytes value unsigned
Says bytes (Word word) = bytes ≡ word_spelling word
Says bytes (Mark mark) = bytes ≡ mark_spelling mark

-- the tokens of these pieces, of which the first stands at this offset
abbrev pub AreTokens : ℕ → List Piece → List Token → Type 0
AreTokens at [] [] = Unit {0}
AreTokens at [] (t ∷ ts) = ⊥
AreTokens at (Text bytes ∷ ps) [] = ⊥
AreTokens at (Text bytes ∷ ps) (t ∷ ts) =
    (t.from ≡ at) × (t.to ≡ at + length bytes) × Says bytes t.kind × AreTokens (at + length bytes) ps ts
AreTokens at (p ∷ ps) ts = AreTokens (at + length (bytes_of p)) ps ts

-- the tokens of the whole source
abbrev pub IsLexed : List ℕ → List Token → Type 0
IsLexed source tokens = (ps : List Piece) × (IsSplit ps source [] × AreTokens 0 ps tokens)

-- ---- faults

-- the first byte begins no white space, comment or token
abbrev pub IsStray : List ℕ → Type 0
IsStray [] = ⊥
IsStray (b ∷ bs) = (is_space b ≡ false) × (opens_comment (b ∷ bs) ≡ false)
    × ((front rest : List ℕ) → b ∷ bs ≡ front ++ rest → is_token front ≡ true → ⊥)

-- a comment begins and isn't closed
abbrev pub IsOpen : List ℕ → Type 0
IsOpen bytes = (body : List ℕ) × (bytes ≡ codes "/*" ++ body) × (Closes body → ⊥)

-- a token stands here
abbrev pub StandsFirst : List ℕ → List ℕ → Type 0
StandsFirst text bytes = (after : List ℕ) × (bytes ≡ text ++ after) × IsPiece (Text text) after

-- the rule is violated at the place where these bytes begin; L1 isn't about a place
abbrev pub Violates : LexRule → List ℕ → Type 0
Violates L1 bytes = ⊥
Violates L2 bytes = IsStray bytes
Violates L3 bytes = (text : List ℕ) × StandsFirst text bytes × (is_run text ≡ true) × (begins_with_digit text ≡ true)
    × ((value : ℕ) (unsigned : Bool) → IsNumber text value unsigned → ⊥)
Violates L4 bytes = IsOpen bytes
Violates L5 bytes = (text : List ℕ) × StandsFirst text bytes × (among left_out_words text ≡ true)

-- the rule is violated at this offset, up to which the source is split into pieces
abbrev pub IsFault : List ℕ → LexRule → ℕ → Type 0
IsFault source L1 at = (65536 < length source) × (at ≡ 65536)
IsFault source rule at =
    (ps : List Piece) × (rest : List ℕ) × IsSplit ps source rest × Violates rule rest × (at + length rest ≡ length source)

-- L1 comes before the other rules, and of these the least offset
abbrev pub ComesFirst : LexRule → ℕ → LexRule → ℕ → Type 0
ComesFirst L1 at other place = Unit {0}
ComesFirst rule at L1 place = ⊥
ComesFirst rule at other place = at ≤ place

abbrev pub IsFirstFault : List ℕ → LexRule → ℕ → Type 0
IsFirstFault source rule at =
    IsFault source rule at × ((other : LexRule) (place : ℕ) → IsFault source other place → ComesFirst rule at other place)

abbrev pub HasNoFault : List ℕ → Type 0
HasNoFault source = (rule : LexRule) (at : ℕ) → IsFault source rule at → ⊥
