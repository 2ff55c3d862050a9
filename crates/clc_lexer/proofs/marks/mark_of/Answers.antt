use Rattle.std.proofs.Common.{sym, ◌∙◌}
use Rattle.clc_lexer.specs.Tables.{mark_spelling, all_marks}
use Rattle.clc_lexer.proofs.Finding.{spelled_hit, spelled_miss}
use Rattle.clc_lexer.specs.declared.marks.Mark.TheVariants.{ShiftLeftAssign}
use Rattle.clc_lexer.proofs.marks.mark_of.Goals as goal

pub returns-then-eq : goal.returns-then-eq
returns-then-eq c =
    spelled_hit mark_spelling all_marks c.loop-mark.mark-index ShiftLeftAssign _ _ c.loop-mark-test.true c.loop-mark.invariant c.spelling.ensures (sym c.eq.ensures ∙ c.if-eq.true)

pub loop-mark-preserved : goal.loop-mark-preserved
loop-mark-preserved c =
    spelled_miss mark_spelling all_marks c.loop-mark.mark-index ShiftLeftAssign _ _ c.loop-mark-test.true c.loop-mark.invariant c.spelling.ensures (sym c.eq.ensures ∙ c.if-eq.false)
