use Rattle.std.proofs.Common.{◌≤◌, get_or, sym, subst}
use Rattle.q_functions.specs.declared.work.Work.{Work}
use Rattle.item_run.proofs.Sizes.{sizes_some}
use Rattle.item_run.proofs.item.work_in.Goals as goal

pub work_of-requires : goal.work_of-requires
work_of-requires c = sizes_some c.launch.inside.dims c.launch.inside.global c.launch.invariant.global c.launch.invariant.few_dims

pub returns-clause-groups : goal.returns-clause-groups
returns-clause-groups c = λ i.
    subst (λ (w : Work). 1 ≤ get_or w.local i 1) (sym c.work_of.ensures) (sizes_some c.launch.inside.dims c.launch.inside.local c.launch.invariant.local c.launch.invariant.few_dims i)
