use Rattle.std.proofs.Common.{List, get_or, sym, ap, ◌∙◌}
use Rattle.item_meaning.specs.declared.values.Value.{Value}
use Rattle.item_meaning.specs.declared.values.Value.TheVariants.{Null}
use Rattle.item_values.proofs.RowLaws.{none_default}
use Rattle.item_values.proofs.running.Running.variable.Goals as goal

pub returns-in-None : goal.returns-in-None
returns-in-None c =
    sym (ap (λ s. get_or s.vars c.args.var Null) (sym c.self.view_is) ∙ none_default c.self.inside.vars c.args.var Null (sym c.in-None.ensures.value))
