use Rattle.std.proofs.Common.{rules}
use Rattle.commands.specs.Plan.{no_meanings}
use Rattle.commands.specs.Compile.{compile_plan}
use Rattle.commands.proofs.AnySources.{ends_any}
use Rattle.commands.proofs.compiling.compile_file.Goals as goal

pub returns-in-Ok : goal.returns-in-Ok
unfolding compile_plan
returns-in-Ok g c =
    let step = ends_any g.C.Compiler.language no_meanings _ _ _ _ _ _ _ c.store_module.ensures in
    search (rules, step)
