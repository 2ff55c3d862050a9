use Rattle.std.proofs.Common.{◌≡◌, sym, ◌∙◌, true, false}
use Rattle.clc_lexer.specs.Tables.{all_marks}
use Rattle.clc_lexer.specs.Scanning.{starts_with, mark_of_front}
use Rattle.clc_lexer.specs.declared.marks.Mark.TheVariants.{ShiftLeftAssign}
use Rattle.clc_lexer.proofs.Finding.{mark_step}
use Rattle.clc_lexer.proofs.Fronts.{test_is}
use Rattle.clc_lexer.proofs.scanning.mark_at.Goals as goal

pub returns-then-starts_with : goal.returns-then-starts_with
unfolding mark_of_front
returns-then-starts_with c =
    let spelling = c.spelling.result.now in
    let test : starts_with spelling c.args.bytes.now ≡ true = sym (test_is spelling c.args.bytes.now) ∙ sym c.starts_with.ensures.value ∙ c.if-starts_with.true in
    sym (c.loop-mark.invariant ∙ mark_step all_marks c.loop-mark.mark-index ShiftLeftAssign spelling c.args.bytes.now true c.loop-mark-test.true c.spelling.ensures test)

pub loop-mark-preserved : goal.loop-mark-preserved
loop-mark-preserved c =
    let spelling = c.spelling.result.now in
    let test : starts_with spelling c.args.bytes.now ≡ false = sym (test_is spelling c.args.bytes.now) ∙ sym c.starts_with.ensures.value ∙ c.if-starts_with.false in
    c.loop-mark.invariant ∙ mark_step all_marks c.loop-mark.mark-index ShiftLeftAssign spelling c.args.bytes.now false c.loop-mark-test.true c.spelling.ensures test
