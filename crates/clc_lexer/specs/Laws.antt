-- Laws of sources and their tokens.
use Rattle.std.specs.Prelude.{◌≡◌, ℕ, ◌<◌, ◌≤◌, Bool, true, List, [], All, length}
use Rattle.clc_lexer.specs.Tables.{among, mark_spelling, mark_spellings, word_spelling, word_spellings}
use Rattle.clc_lexer.specs.Numerals.{IsNumber}
use Rattle.clc_lexer.specs.SourceText.{Piece, IsSplit, Says, IsLexed, IsFirstFault}
use Rattle.clc_lexer.specs.LineColumn.{IsColumnAfter}
use Rattle.clc_lexer.specs.declared.marks.Mark.{Mark}
use Rattle.clc_lexer.specs.declared.words.Word.{Word}
use Rattle.clc_lexer.specs.declared.token.Tok.{Tok}
use Rattle.clc_lexer.specs.declared.token.Token.{Token}
use Rattle.clc_lexer.specs.declared.token.LexRule.{LexRule}

-- ---- tables and tokens

-- each mark and each word stands in its table
abbrev pub HasAllMarks : Type 0
HasAllMarks = (mark : Mark) → among mark_spellings (mark_spelling mark) ≡ true

abbrev pub HasAllWords : Type 0
HasAllWords = (word : Word) → among word_spellings (word_spelling word) ≡ true

-- no bytes are two numbers
abbrev pub HasOneNumber : Type 0
HasOneNumber = (bytes : List ℕ) (v w : ℕ) (t u : Bool) → IsNumber bytes v t → IsNumber bytes w u → (v ≡ w) × (t ≡ u)

-- the bytes of a token say one thing
abbrev pub SaysOnce : Type 0
SaysOnce = (bytes : List ℕ) (one other : Tok) → Says bytes one → Says bytes other → one ≡ other

-- ---- sources

-- no source is two lists of pieces
abbrev pub HasOneSplit : Type 0
HasOneSplit = (ps qs : List Piece) (source : List ℕ) → IsSplit ps source [] → IsSplit qs source [] → ps ≡ qs

-- no source has two lists of tokens
abbrev pub IsLexedOnce : Type 0
IsLexedOnce = (source : List ℕ) (one other : List Token) → IsLexed source one → IsLexed source other → one ≡ other

-- tokens aren't empty and lie in the source, and they are no more than its bytes
abbrev pub TokensLieWithin : Type 0
TokensLieWithin =
    (source : List ℕ) (tokens : List Token) → IsLexed source tokens
    → All (λ t. (t.from < t.to) × (t.to ≤ length source)) tokens × (length tokens ≤ length source)

-- no source has two first faults
abbrev pub HasOneFirstFault : Type 0
HasOneFirstFault =
    (source : List ℕ) (rule other : LexRule) (at place : ℕ) → IsFirstFault source rule at → IsFirstFault source other place
    → (rule ≡ other) × (at ≡ place)

-- a fault's place is that of a byte
abbrev pub FaultsLieWithin : Type 0
FaultsLieWithin = (source : List ℕ) (rule : LexRule) (at : ℕ) → IsFirstFault source rule at → at < length source

-- no place has two columns
abbrev pub HasOneColumn : Type 0
HasOneColumn = (bytes : List ℕ) (a b : ℕ) → IsColumnAfter bytes a → IsColumnAfter bytes b → a ≡ b
