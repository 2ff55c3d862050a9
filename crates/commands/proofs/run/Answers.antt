use Rattle.commands.specs.Plan.{both}
use Rattle.commands.proofs.Clauses.{runs_due, runs_quiet, runs_usage, runs_no_form, runs_files, runs_caused}
use Rattle.commands.proofs.Shortage.{runs_short}
use Rattle.commands.proofs.ExecDone.{runs_answers}
use Rattle.commands.proofs.RunDone.{runs_compile, runs_run}
use Rattle.commands.proofs.JudgeDone.{runs_judge}
use Rattle.commands.proofs.Endings.{runs_compile_ends, runs_run_ends}
use Rattle.commands.proofs.Refusing.{runs_compile_refuses, runs_run_refuses}
use Rattle.commands.proofs.JudgeEndings.{runs_judge_ends, runs_judge_refuses}
use Rattle.commands.proofs.DisasmDone.{runs_disasm}
use Rattle.commands.proofs.DisasmEndings.{runs_disasm_ends}
use Rattle.commands.proofs.run.Goals as goal

pub returns : goal.returns
returns g c =
    let sources = both g.C.Compiler.language g.K.JudgedKernel.meanings in
    let kernels = g.met.C.Compiler.kernels_are_one in
    let violations = g.met.C.Compiler.has_one_violation in
    let meanings = g.met.K.JudgedKernel.meanings_are_one in
    let caused = runs_caused sources _ _ _ _ _ _ c.run_words.ensures in
    record {
      usage = runs_usage sources _ _ _ _ _ _ c.run_words.ensures;
      no_form = runs_no_form sources _ _ _ _ _ _ c.run_words.ensures;
      compile = runs_compile sources kernels _ _ _ _ _ _ c.run_words.ensures;
      exec = runs_answers sources _ _ _ _ _ _ c.run_words.ensures;
      run = runs_run sources kernels _ _ _ _ _ _ c.run_words.ensures;
      judge = runs_judge sources _ _ _ _ _ _ c.run_words.ensures;
      disasm = runs_disasm sources _ _ _ _ _ _ c.run_words.ensures;
      files = runs_files sources _ _ _ _ _ _ c.run_words.ensures;
      memory = runs_short sources _ _ _ _ _ _ c.run_words.ensures;
      read_fault = caused.read_fault;
      write_fault = caused.write_fault;
      missing = caused.missing;
      too_long = caused.too_long;
      due = runs_due sources _ _ _ _ _ _ c.run_words.ensures;
      quiet = runs_quiet sources _ _ _ _ _ _ c.run_words.ensures;
      compile_ends = runs_compile_ends sources violations _ _ _ _ _ _ c.run_words.ensures;
      run_ends = runs_run_ends sources kernels violations _ _ _ _ _ _ c.run_words.ensures;
      judge_ends = runs_judge_ends sources meanings _ _ _ _ _ _ c.run_words.ensures;
      disasm_ends = runs_disasm_ends sources _ _ _ _ _ _ c.run_words.ensures;
      compile_refuses = runs_compile_refuses sources kernels violations _ _ _ _ _ _ c.run_words.ensures;
      run_refuses = runs_run_refuses sources kernels violations _ _ _ _ _ _ c.run_words.ensures;
      judge_refuses = runs_judge_refuses sources meanings _ _ _ _ _ _ c.run_words.ensures;
      order = c.run_words.ensures;
    }
