use Rattle.std.proofs.Common.{sym, ◌∙◌}
use Rattle.clc_walk.proofs.Steps.{first_left}
use Rattle.clc_walk.proofs.rules.assign_needs.Goals as goal

pub returns-in-Some : goal.returns-in-Some
returns-in-Some c = sym (first_left _ _ c.in-Some.f (sym c.assigned_needed.ensures ∙ c.in-Some.is))
