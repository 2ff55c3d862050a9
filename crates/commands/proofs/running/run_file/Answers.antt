use Rattle.std.proofs.Common.{rules}
use Rattle.commands.specs.Plan.{no_meanings}
use Rattle.commands.specs.Compile.{run_plan}
use Rattle.commands.proofs.AnySources.{ends_any}
use Rattle.commands.proofs.Steps.{gives_up}
use Rattle.commands.proofs.running.run_file.Goals as goal

pub returns-in-Err : goal.returns-in-Err
returns-in-Err g c = gives_up _ _ _ _

pub returns-in-Ok-make_module : goal.returns-in-Ok-make_module
unfolding run_plan
returns-in-Ok-make_module g c =
    let step = ends_any g.C.Compiler.language no_meanings _ _ _ _ _ _ _ c.keep_module.ensures in
    search (rules, step)
