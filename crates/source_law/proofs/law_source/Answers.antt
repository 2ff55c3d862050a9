use Rattle.std.proofs.Common.{◌∙◌, ap, length, sym, subst}
use Rattle.source_law.proofs.Counts.{enough}
use Rattle.source_law.proofs.law_source.Goals as goal
use Rattle.launch_file.specs.Laws.{Fits}

pub returns : goal.returns
returns c = λ functions kernel f body ir of form launch taken fits places apart id buffers turns one ends n holds none left.
    let fits_form = subst (λ kinds. Fits launch kinds taken) (sym (c.law_kinds.ensures functions kernel f body ir of form)) fits in
    c.law_item.ensures body ir form launch taken fits_form places apart id buffers turns one
    (c.law_inlined.ensures functions kernel f body of.0 of.1 of.2 launch id buffers turns
    (enough body.vars.items body.params body.body (length launch.args) body.valid (fits_form.count ∙ ap length form.kinds)) ∙ ends) n holds none left
