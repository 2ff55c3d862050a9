-- The commands of the program.
use Rattle.std.specs.Prelude.{◌≡◌, ℕ, Bool, true, not, ◌&&◌, List, [], ◌∷◌, Option, Some, None, option_map, IfSome, bytes_eq, if◌then◌else◌, codes, ⊤}
use Rattle.q_io.specs.FilesMeaning.{Tree, FilesState}
use Rattle.q_io.specs.SinkMeaning.{SinkState}
use Rattle.commands.specs.Lines.{Says}
use Rattle.commands.specs.Plan.{Plan, Ends}
use Rattle.commands.specs.Due.{Due, Made, due_of}
use Rattle.commands.specs.Exec.{exec_plan}
use Rattle.commands.specs.Compile.{compile_plan, run_plan}
use Rattle.commands.specs.Judge.{turns_in, judge_plan}
use Rattle.commands.specs.Disasm.{disasm_plan}
use Rattle.commands.specs.declared.command.Command.{Command}
use Rattle.commands.specs.declared.command.Command.TheVariants.{Compile, Exec, Run, Judge, Disasm}
use Rattle.commands.specs.declared.status.Status.{Status}
use Rattle.commands.specs.declared.status.Status.TheVariants.{Usage}
use Rattle.promise.specs.Language.{Sources}

-- no two of three names are the same
abbrev pub are_apart : (one two three : List ℕ) → Bool
are_apart one two three = not (bytes_eq one two) && not (bytes_eq one three) && not (bytes_eq two three)

-- the plan of a `judge`, or none where the two names are the same or the last word is no such number
abbrev pub judge_plan_of : (source_name kernel launch_name turns : List ℕ) → Option Plan
judge_plan_of source_name kernel launch_name turns = if bytes_eq source_name launch_name then None else option_map (judge_plan source_name kernel launch_name) (turns_in turns)

-- the plan of the words, or none where they are of no form. The forms are `compile SRC KERNEL MODULE`, `exec MODULE LAUNCH`,
-- `run SRC KERNEL MODULE LAUNCH`, `judge SRC KERNEL LAUNCH TURNS` and `disasm MODULE`; the names SRC, MODULE and LAUNCH of a command differ
unfoldable pub plan_of : List (List ℕ) → Option Plan
plan_of (verb ∷ module_name ∷ []) = if bytes_eq verb (codes "disasm") then Some (disasm_plan module_name) else None
plan_of (verb ∷ module_name ∷ launch_name ∷ []) = if bytes_eq verb (codes "exec") then (if bytes_eq module_name launch_name then None else Some (exec_plan module_name launch_name)) else None
plan_of (verb ∷ source_name ∷ kernel ∷ module_name ∷ []) =
    if bytes_eq verb (codes "compile") then (if bytes_eq source_name module_name then None else Some (compile_plan source_name kernel module_name)) else None
plan_of (verb ∷ source_name ∷ kernel ∷ one ∷ other ∷ []) =
    if bytes_eq verb (codes "run") then (if are_apart source_name one other then Some (run_plan source_name kernel one other) else None)
    else if bytes_eq verb (codes "judge") then judge_plan_of source_name kernel one other else None
plan_of words = None

-- the plan of a command
abbrev pub plan_of_command : Command → Plan
plan_of_command (Compile source_name kernel module_name) = compile_plan source_name.now kernel.now module_name.now
plan_of_command (Exec module_name launch_name) = exec_plan module_name.now launch_name.now
plan_of_command (Run source_name kernel module_name launch_name) = run_plan source_name.now kernel.now module_name.now launch_name.now
plan_of_command (Disasm module_name) = disasm_plan module_name.now
plan_of_command (Judge source_name kernel launch_name turns) = judge_plan source_name.now kernel.now launch_name.now turns

unfoldable pub usage_line : List ℕ
usage_line = codes "usage: compile SRC KERNEL MODULE | exec MODULE LAUNCH | run SRC KERNEL MODULE LAUNCH | judge SRC KERNEL LAUNCH TURNS | disasm MODULE | demo SEED\n"

-- what is due of these words where this is made of what they want
abbrev pub due_for : Option Plan → Tree → List Made → Due
due_for None tree all = record { places = []; status = Usage; line = usage_line }
due_for (Some plan) tree all = due_of plan tree all

-- a run of the program
abbrev pub Runs : Sources → Option Plan → FilesState → SinkState → FilesState → SinkState → Status → Type 0
Runs sources None before out_before now out_now result = (now ≡ before) × Says out_before out_now usage_line Usage result
Runs sources (Some plan) before out_before now out_now result = Ends sources true plan before out_before now out_now result

-- the file that the words have written while memory may still be asked for: the module of a `run`
abbrev pub first_written : List (List ℕ) → Option (List ℕ)
first_written (verb ∷ source_name ∷ kernel ∷ module_name ∷ launch_name ∷ []) = if bytes_eq verb (codes "run") then Some module_name else None
first_written words = None

-- a fact of the names, where the words are those of `compile`
abbrev pub IfCompile : List (List ℕ) → ((source_name kernel module_name : List ℕ) → Type 0) → Type 0
IfCompile (verb ∷ source_name ∷ kernel ∷ module_name ∷ []) P = verb ≡ codes "compile" → P source_name kernel module_name
IfCompile words P = ⊤

-- the same of `exec`
abbrev pub IfExec : List (List ℕ) → ((module_name launch_name : List ℕ) → Type 0) → Type 0
IfExec (verb ∷ module_name ∷ launch_name ∷ []) P = verb ≡ codes "exec" → P module_name launch_name
IfExec words P = ⊤

-- the same of `run`
abbrev pub IfRun : List (List ℕ) → ((source_name kernel module_name launch_name : List ℕ) → Type 0) → Type 0
IfRun (verb ∷ source_name ∷ kernel ∷ module_name ∷ launch_name ∷ []) P = verb ≡ codes "run" → P source_name kernel module_name launch_name
IfRun words P = ⊤

-- the same of `judge`, where its last word says so many turns
abbrev pub IfJudge : List (List ℕ) → ((source_name kernel launch_name : List ℕ) (turns : ℕ) → Type 0) → Type 0
IfJudge (verb ∷ source_name ∷ kernel ∷ launch_name ∷ word ∷ []) P = verb ≡ codes "judge" → IfSome (turns_in word) (P source_name kernel launch_name)
IfJudge words P = ⊤

-- the same of `disasm`
abbrev pub IfDisasm : List (List ℕ) → ((module_name : List ℕ) → Type 0) → Type 0
IfDisasm (verb ∷ module_name ∷ []) P = verb ≡ codes "disasm" → P module_name
IfDisasm words P = ⊤
