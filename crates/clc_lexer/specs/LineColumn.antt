-- Lines and columns of a source. Both count from 1, and a column counts bytes.
use Rattle.std.specs.Prelude.{◌≡◌, ◌⊎◌, ℕ, ◌+◌, false, ◌==◌, List, [], ◌∷◌, ◌++◌, length}
use Rattle.std.specs.List.{count_by}
use Rattle.clc_lexer.specs.SourceText.{has_newline}

-- one more than the ends of lines among these bytes
abbrev pub line_after : List ℕ → ℕ
line_after bytes = count_by (λ b. b == 10) bytes + 1

-- a line begins after these bytes
abbrev pub IsLineStart : List ℕ → Type 0
IsLineStart bytes = (bytes ≡ []) ⊎ ((front : List ℕ) × (bytes ≡ front ++ 10 ∷ []))

-- one more than the bytes since the last line began
abbrev pub IsColumnAfter : List ℕ → ℕ → Type 0
IsColumnAfter bytes column =
    (before : List ℕ) × (own : List ℕ) × (bytes ≡ before ++ own) × IsLineStart before × (has_newline own ≡ false) × (column ≡ length own + 1)
