use Rattle.std.proofs.Common.{rules, sym, ◌∙◌}
use Rattle.launch_file.proofs.Numbers.{number_of-answer, number_of-none, refused-text}
use Rattle.launch_file.proofs.words.number.Goals as goal

pub returns-in_err-text : goal.returns-in_err-text
returns-in_err-text c =
    let e = refused-text _ _ c.args.word.now c.from_utf8.result c.from_utf8.ensures.cases (sym c.ok.ensures.value ∙ c.in_err-text.was) in
    c.from_residual.ensures ∙ sym (number_of-none c.args.word.now e)

pub returns : goal.returns
returns c =
    number_of-answer c.args.word.now c.number_in.result (search rules) (search rules) (search rules)
