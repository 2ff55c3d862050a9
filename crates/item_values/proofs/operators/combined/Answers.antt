use Rattle.std.proofs.Common.{sym, ap, ◌∙◌}
use Rattle.q_lane.specs.declared.kinds.Scalar.{Scalar}
use Rattle.clc_types.specs.declared.typed.Ty.{Ty}
use Rattle.clc_types.specs.declared.typed.Ty.TheVariants as ty
use Rattle.item_meaning.specs.Operators.{binary, on_words, combined}
use Rattle.item_values.proofs.operators.combined.Goals as goal

pub returns-in-Value-Value : goal.returns-in-Value-Value
returns-in-Value-Value c =
    let a = c.args in
    c.numbers.ensures
    ∙ ap (λ (t : Scalar). on_words (binary t a.op) a.x a.y) c.works_in.ensures
    ∙ sym (ap (λ (z : Ty). combined z a.op a.b a.x a.y) c.in-Value-Value.is-0 ∙ ap (λ (z : Ty). combined (ty.Value c.in-Value-Value.s) a.op z a.x a.y) c.in-Value-Value.is-1)
