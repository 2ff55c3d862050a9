-- The plan has what was tested of the opening.
use Rattle.std.proofs.Common.{rules}
use Rattle.machine_rows.proofs.Placed.{is_plan}
use Rattle.machine_rows.proofs.openings.plan.Goals as goal

pub returns-clause-plan : goal.returns-clause-plan
returns-clause-plan c =
    is_plan c.args.opening.now c.args.qpus _ c.requires (search rules) (search rules) (search rules) (search rules) (search rules) (search rules) (search rules)
