use Rattle.std.proofs.Common.{◌≡◌, ◌+◌, ◌≤◌, take}
use Rattle.clc_lexer.specs.LineColumn.{line_after, IsColumnAfter}
use Rattle.clc_lexer.proofs.place.line_col.Given as goal

abbrev pub invariant-loop-byte : goal.invariant-loop-byte
invariant-loop-byte l =
    (l.line ≡ line_after (take l.byte-index l.byte-items)) × IsColumnAfter (take l.byte-index l.byte-items) l.column
    × (l.line ≤ l.byte-index + 1) × (l.column ≤ l.byte-index + 1)
