use Rattle.std.proofs.Common.{false, cond, sym, ap, ◌∙◌, length, drop}
use Rattle.clc_lexer.specs.Tables.{among, vector_sizes}
use Rattle.clc_lexer.proofs.Fronts.{stripped, not_stripped}
use Rattle.clc_lexer.proofs.words.is_vector_of.Goals as goal

pub returns-in-Some : goal.returns-in-Some
returns-in-Some c =
    let element = c.args.element.now in
    let text = c.args.text.now in
    c.is_among.ensures ∙ ap (among vector_sizes) c.in-Some.ensures.cases.1
    ∙ ap (λ v. cond v (among vector_sizes (drop (length element) text)) false) (sym (stripped element text c.in-Some.ensures.cases.0))

pub returns-in-None : goal.returns-in-None
returns-in-None c =
    let element = c.args.element.now in
    let text = c.args.text.now in
    ap (λ v. cond v (among vector_sizes (drop (length element) text)) false) (sym (not_stripped element text c.in-None.ensures.cases))
