use Rattle.std.proofs.Common.{rules}
use Rattle.commands.proofs.AnySources.{ends_any, ends_compiled, ends_judged}
use Rattle.commands.proofs.run_words.Goals as goal

pub returns-in-Some-Exec : goal.returns-in-Some-Exec
returns-in-Some-Exec g c =
    let step = ends_any g.C.Compiler.language g.K.JudgedKernel.meanings _ _ _ _ _ _ _ c.exec.ensures in
    search (rules, step)

pub returns-in-Some-Compile : goal.returns-in-Some-Compile
returns-in-Some-Compile g c =
    let step = ends_compiled g.C.Compiler.language g.K.JudgedKernel.meanings _ _ _ _ _ _ _ c.compile_file.ensures in
    search (rules, step)

pub returns-in-Some-Run : goal.returns-in-Some-Run
returns-in-Some-Run g c =
    let step = ends_compiled g.C.Compiler.language g.K.JudgedKernel.meanings _ _ _ _ _ _ _ c.run_file.ensures in
    search (rules, step)

pub returns-in-Some-Judge : goal.returns-in-Some-Judge
returns-in-Some-Judge g c =
    let step = ends_judged g.C.Compiler.language g.K.JudgedKernel.meanings _ _ _ _ _ _ _ c.judge_file.ensures in
    search (rules, step)

pub returns-in-Some-Disasm : goal.returns-in-Some-Disasm
returns-in-Some-Disasm g c =
    let step = ends_any g.C.Compiler.language g.K.JudgedKernel.meanings _ _ _ _ _ _ _ c.disasm.ensures in
    search (rules, step)
