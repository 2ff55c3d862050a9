use Rattle.std.proofs.Common.{sym, ◌∙◌}
use Rattle.clc_types.specs.InternalSteps.{fit_end}
use Rattle.clc_walk.proofs.WalkRules.{refused}
use Rattle.clc_walk.proofs.declarations.fit_end.Goals as goal

pub returns-in-Some : goal.returns-in-Some
unfolding fit_end
returns-in-Some c = refused _ _ c.in-Some.f c.broken.result c.args.at.now (sym c.fit_needed.ensures ∙ c.in-Some.is) c.broken.ensures
