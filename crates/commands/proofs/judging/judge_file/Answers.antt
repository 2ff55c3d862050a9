use Rattle.std.proofs.Common.{rules}
use Rattle.commands.specs.Plan.{no_language}
use Rattle.commands.specs.Judge.{judged_launch_plan, judge_plan}
use Rattle.commands.proofs.AnySources.{ends_compiled}
use Rattle.commands.proofs.Steps.{gives_up}
use Rattle.commands.proofs.judging.judge_file.Goals as goal

pub returns-in-Err : goal.returns-in-Err
returns-in-Err g c = gives_up _ _ _ _

pub returns-in-Ok-understand : goal.returns-in-Ok-understand
unfolding judge_plan judged_launch_plan
returns-in-Ok-understand g c =
    let step = ends_compiled no_language g.K.JudgedKernel.meanings _ _ _ _ _ _ _ c.judge_kernel.ensures in
    search (rules, step)
