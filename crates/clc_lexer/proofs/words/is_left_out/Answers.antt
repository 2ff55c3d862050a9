use Rattle.std.proofs.Common.{◌≡◌, true, false, ◌||◌, sym, ap, ◌∙◌}
use Rattle.clc_lexer.specs.Tables.{among, single_left_out, vector_elements}
use Rattle.clc_lexer.specs.Reading.{is_vector_among}
use Rattle.clc_lexer.proofs.LeftOut.{left_out_is}
use Rattle.clc_lexer.proofs.words.is_left_out.Goals as goal

pub returns-then-is_among : goal.returns-then-is_among
returns-then-is_among c =
    let x = c.args.text.now in
    let one : among single_left_out x ≡ true = sym c.is_among.ensures ∙ c.if-is_among.true in
    c.if-is_among.true ∙ sym (left_out_is x ∙ ap (λ v. v || is_vector_among vector_elements x) one)

pub returns-else-is_among : goal.returns-else-is_among
returns-else-is_among c =
    let x = c.args.text.now in
    let none : among single_left_out x ≡ false = sym c.is_among.ensures ∙ c.if-is_among.false in
    c.is_vector.ensures ∙ sym (left_out_is x ∙ ap (λ v. v || is_vector_among vector_elements x) none)
