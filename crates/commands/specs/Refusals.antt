-- The line of a source that violates a rule.
use Rattle.std.specs.Prelude.{ℕ, ◌+◌, List, ◌++◌, length, take, reverse, codes, decimal, not, ◌==◌}
use Rattle.std.specs.List.{filter, prefix_len}
use Rattle.promise.specs.declared.refusal.SourceRule.{SourceRule}
use Rattle.promise.specs.RuleNames.{name_of}

-- the line that begins or goes on behind these bytes: one more than the bytes 10 among them
unfoldable pub line_behind : List ℕ → ℕ
line_behind bytes = 1 + length (filter (λ byte. byte == 10) bytes)

-- the column behind these bytes: one more than the bytes since the last byte 10
unfoldable pub column_behind : List ℕ → ℕ
column_behind bytes = 1 + prefix_len (λ byte. not (byte == 10)) (reverse bytes)

-- the line and the column of a byte of a source
abbrev pub line_col : List ℕ → ℕ → ℕ × ℕ
line_col source at = (line_behind (take at source), column_behind (take at source))

-- the line of a source that violates this rule first, at this byte
unfoldable pub refused_line : List ℕ → SourceRule → ℕ → List ℕ
refused_line source rule at =
    codes "refused " ++ (name_of rule ++ (codes " " ++ (decimal (line_col source at).0 ++ (codes " " ++ (decimal (line_col source at).1 ++ codes "\n")))))
