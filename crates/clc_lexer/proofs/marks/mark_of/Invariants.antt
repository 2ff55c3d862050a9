use Rattle.std.proofs.Common.{◌≡◌, drop}
use Rattle.clc_lexer.specs.Tables.{mark_spelling, all_marks}
use Rattle.clc_lexer.specs.Reading.{spelled}
use Rattle.clc_lexer.proofs.marks.mark_of.Given as goal

abbrev pub invariant-loop-mark : goal.invariant-loop-mark
invariant-loop-mark l = spelled mark_spelling all_marks l.text ≡ spelled mark_spelling (drop l.mark-index l.mark-items) l.text
