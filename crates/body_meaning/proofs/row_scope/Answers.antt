use Rattle.std.proofs.Common.{refl}
use Rattle.body_meaning.specs.Rows.{ScopeReturns}
use Rattle.body_meaning.proofs.row_scope.Goals as goal

rows : ScopeReturns
unfolding Rattle.q_lane.specs.Numbers.narrowed
rows work = (refl, refl)

pub returns : goal.returns
returns c = rows
