-- The commands `compile` and `run`: their places.
use Rattle.std.specs.Prelude.{◌≡◌, ℕ, List, [], ◌∷◌, ◌++◌, length, codes, decimal}
use Rattle.q_io.specs.SinkMeaning.{SinkState}
use Rattle.vc4q_module.specs.ModuleBytes.{ModuleOf, module_bytes}
use Rattle.promise.specs.declared.refusal.Refusal.{Refusal}
use Rattle.promise.specs.declared.refusal.Refusal.TheVariants.{Rule, Memory as CompileMemory}
use Rattle.commands.specs.Lines.{Says}
use Rattle.commands.specs.Refusals.{refused_line}
use Rattle.commands.specs.Plan.{Compilation, compiled, violated, a_module, Plan, reads, writes, makes, commits, answers, done, refused}
use Rattle.commands.specs.Exec.{exec_launch_plan}
use Rattle.commands.specs.declared.status.Status.{Status}
use Rattle.commands.specs.declared.status.Status.TheVariants.{Memory, Refused}

abbrev pub source_limit : ℕ
source_limit = 1048576

-- the line of a module that was written
unfoldable pub compiled_line : ModuleOf → List ℕ
compiled_line code = codes "module " ++ (decimal (length code.words) ++ (codes " words " ++ (decimal code.rows ++ codes " rows\n")))

-- a module is taken further, and a source that violates a rule is refused with it
abbrev pub after_source : (source : List ℕ) → (ModuleOf → Plan) → Compilation → Plan
after_source source next (compiled code) = next code
after_source source next (violated rule at) = answers refused (refused_line source rule at)

-- from the read of the source on
unfoldable pub source_plan : (source_name kernel : List ℕ) → (ModuleOf → Plan) → Plan
source_plan source_name kernel next = reads source_name source_limit (λ source. makes (a_module source kernel) (after_source source next))

-- the module is written, and its line
unfoldable pub store_plan : List ℕ → ModuleOf → Plan
store_plan module_name code = commits (writes module_name (module_bytes code) (answers done (compiled_line code)))

unfoldable pub compile_plan : (source_name kernel module_name : List ℕ) → Plan
compile_plan source_name kernel module_name = source_plan source_name kernel (store_plan module_name)

-- the module is written, and run by the launch; `taken` are the files that the command names
unfoldable pub keep_plan : List (List ℕ) → (module_name launch_name : List ℕ) → ModuleOf → Plan
keep_plan taken module_name launch_name code = writes module_name (module_bytes code) (exec_launch_plan taken code launch_name)

unfoldable pub run_plan : (source_name kernel module_name launch_name : List ℕ) → Plan
run_plan source_name kernel module_name launch_name =
    source_plan source_name kernel (keep_plan (source_name ∷ module_name ∷ launch_name ∷ []) module_name launch_name)

-- a source that violates a rule is refused by its line, and where memory is wanting nothing is written
abbrev pub RefusesSource : List ℕ → Refusal → SinkState → SinkState → Status → Type 0
RefusesSource source (Rule rule at) before now result = Says before now (refused_line source rule at) Refused result
RefusesSource source CompileMemory before now result = (now ≡ before) × (result ≡ Memory)
