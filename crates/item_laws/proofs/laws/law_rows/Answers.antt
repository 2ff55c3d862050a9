use Rattle.std.proofs.Common.{refl}
use Rattle.q_lane.specs.Numbers.{narrowed}
use Rattle.item_laws.proofs.Small.{choices, counted, left}
use Rattle.item_laws.proofs.laws.law_rows.Goals as goal

pub returns-clause-loads : goal.returns-clause-loads
unfolding narrowed
returns-clause-loads c = λ work. (refl, refl, refl, refl, refl, refl, refl, refl)

pub returns-clause-stores : goal.returns-clause-stores
unfolding narrowed
returns-clause-stores c = λ work. (refl, refl, refl, refl)

pub returns-clause-indices : goal.returns-clause-indices
returns-clause-indices c = λ work. (refl, refl, refl, refl, refl, refl)

pub returns-clause-choices : goal.returns-clause-choices
returns-clause-choices c = choices

pub returns-clause-rounds : goal.returns-clause-rounds
returns-clause-rounds c = counted

pub returns-clause-left : goal.returns-clause-left
returns-clause-left c = left
