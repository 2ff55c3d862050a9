-- What the walk over a source keeps: the pieces so far and their tokens.
use Rattle.std.specs.Prelude.{◌≡◌, ℕ, ◌+◌, ◌≤◌, List, ◌++◌, length, drop, Option, Some, None, Result, Ok, Err}
use Rattle.clc_lexer.specs.Tables.{word_spelling, all_words}
use Rattle.clc_lexer.specs.SourceText.{Piece, Text, bytes_of, IsPiece, IsSplit, Says, AreTokens, Violates}
use Rattle.clc_lexer.specs.Scanning.{IsBlank}
use Rattle.clc_lexer.specs.Reading.{Kind, Is, Breaks, number_of, number_kind, spelled, word_kind, run_kind}
use Rattle.clc_lexer.specs.declared.token.Tok.{Tok}
use Rattle.clc_lexer.specs.declared.token.Token.{Token}
use Rattle.clc_lexer.specs.declared.token.LexRule.{LexRule}
use Rattle.clc_lexer.specs.declared.token.LexFault.{LexFault}
use Rattle.clc_lexer.specs.declared.token.LexFault.TheVariants.{Rule, Memory}
use Rattle.clc_lexer.specs.declared.lexing.Step.{Step}

-- the answer is this kind of token, or its rule at this offset
abbrev pub IsKind : Kind → ℕ → Result Tok LexFault → Type 0
IsKind kind at (Ok tok) = kind ≡ Is tok
IsKind kind at (Err (Rule rule place)) = (kind ≡ Breaks rule) × (place ≡ at)
IsKind kind at (Err Memory) = Unit {0}

abbrev pub NumberReadsAs : List ℕ → ℕ → Result Tok LexFault → Type 0
NumberReadsAs bytes at result = IsKind (number_kind (number_of bytes)) at result

abbrev pub WordReadsAs : List ℕ → ℕ → Result Tok LexFault → Type 0
WordReadsAs bytes at result = IsKind (word_kind (spelled word_spelling all_words bytes) bytes) at result

abbrev pub ReadsAs : List ℕ → ℕ → Result Tok LexFault → Type 0
ReadsAs bytes at result = IsKind (run_kind bytes) at result

abbrev pub IsTokenStep : Tok → ℕ → ℕ → Step → Type 0
IsTokenStep kind from to step = (step.end ≡ to) × (step.token ≡ Some (record { kind = kind; from = from; to = to }))

-- the piece has this token, or none where it is blank
abbrev pub HasToken : ℕ → Piece → Option Token → Type 0
HasToken at p None = IsBlank p
HasToken at (Text bytes) (Some t) = (t.from ≡ at) × (t.to ≡ at + length bytes) × Says bytes t.kind
HasToken at p (Some t) = ⊥

-- what the answer says of the piece at the front of these bytes, which stand at this offset
abbrev pub Steps : List ℕ → ℕ → Result Step LexFault → Type 0
Steps bytes at (Ok step) =
    (p : Piece) × (after : List ℕ) × (bytes ≡ bytes_of p ++ after) × IsPiece p after
    × (step.end ≡ at + length (bytes_of p)) × HasToken at p step.token
Steps bytes at (Err (Rule rule place)) = (place ≡ at) × Violates rule bytes
Steps bytes at (Err Memory) = Unit {0}

-- the source is split up to this place, and these are the tokens so far
abbrev pub IsWalked : List ℕ → ℕ → List Token → Type 0
IsWalked source at tokens = (at ≤ length source) × ((ps : List Piece) × (IsSplit ps source (drop at source) × AreTokens 0 ps tokens))

-- the rule is violated at this place, up to which there are tokens
abbrev pub IsStop : List ℕ → LexRule → ℕ → Type 0
IsStop source rule place = (tokens : List Token) × IsWalked source place tokens × Violates rule (drop place source)
