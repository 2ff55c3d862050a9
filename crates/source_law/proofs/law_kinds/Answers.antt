use Rattle.std.proofs.Common.{◌∙◌}
use Rattle.source_law.proofs.Parameters.{kinds_are_those}
use Rattle.source_law.proofs.law_kinds.Goals as goal

pub returns : goal.returns
returns c = λ functions kernel f body ir of form.
    let b = c.law_begins.ensures functions kernel f body of.0 of.1 of.2 in
    form.kinds ∙ kinds_are_those functions kernel f body.vars.items body.params b.2.0 of.1 b.0 b.1 b.2.1
