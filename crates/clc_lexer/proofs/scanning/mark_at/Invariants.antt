use Rattle.std.proofs.Common.{◌≡◌, drop}
use Rattle.clc_lexer.specs.Tables.{all_marks}
use Rattle.clc_lexer.specs.Scanning.{front_mark}
use Rattle.clc_lexer.proofs.scanning.mark_at.Given as goal

abbrev pub invariant-loop-mark : goal.invariant-loop-mark
invariant-loop-mark l = front_mark all_marks l.bytes ≡ front_mark (drop l.mark-index l.mark-items) l.bytes
