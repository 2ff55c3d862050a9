use Rattle.std.proofs.Common.{◌∙◌, sym}
use Rattle.source_law.proofs.law_bounds.Goals as goal

pub returns : goal.returns
returns c = λ functions kernel f body of launch le id buffers turns one ends.
    let same = sym (c.law_inlined.ensures functions kernel f body of.0 of.1 of.2 launch id buffers turns le) ∙ ends in
    (c.law_items_stay_within.ensures functions kernel launch id buffers turns one same, λ bytes. c.law_items_keep_bytes.ensures functions kernel launch id buffers turns one bytes same)
