-- What `compile` and `run` have done where they end with an answer of their own, and where they come to their end.
use Rattle.std.specs.Prelude.{◌≡◌, ◌≢◌, ◌⊎◌, ◌≤◌, ℕ, List, [], ◌∷◌, length, Some, None, option_map, true, ⊤}
use Rattle.q_io.specs.Rose.{Rose}
use Rattle.q_io.specs.FilesMeaning.{Tree, with_file, FilesState, Holds, Spoils}
use Rattle.q_io.specs.SinkMeaning.{SinkState, Gains}
use Rattle.launch_file.specs.declared.launch.Schedule.TheVariants.{Rounds}
use Rattle.launch_file.specs.Launches.{LaunchOf, items_of}
use Rattle.launch_file.specs.LaunchIn.{launch_in}
use Rattle.launch_file.specs.Rules.{first_fault as launch_fault}
use Rattle.launch_file.specs.Fit.{fit_fault}
use Rattle.vc4q_module.specs.ModuleBytes.{ModuleOf, IsModule, module_bytes}
use Rattle.promise.specs.declared.refusal.SourceRule.{SourceRule}
use Rattle.launch_meaning.specs.declared.ends.Ended.{Ended}
use Rattle.launch_meaning.specs.LaunchMeaning.{left_by, turns_of, IsSafe}
use Rattle.promise.specs.Kernel.{Kernel}
use Rattle.promise.specs.Faithful.{most_steps}
use Rattle.commands.specs.Plan.{Ends}
use Rattle.commands.specs.Launching.{launch_limit}
use Rattle.commands.specs.Exec.{exec_launch_plan}
use Rattle.commands.specs.ExecClauses.{IsRunStatus, AreRead, stored, Executed, RefusedLaunch}
use Rattle.commands.specs.Refusals.{refused_line}
use Rattle.commands.specs.Compile.{source_limit, compiled_line}
use Rattle.commands.specs.declared.status.Status.{Status}
use Rattle.commands.specs.declared.status.Status.TheVariants.{Done, Memory, Usage, ReadFault, WriteFault, Missing, TooLong, Refused, BadModule, BadLaunch, Broken, Unfinished, NotSafe}
use Rattle.promise.specs.Language.{Language, Sources}
use Rattle.promise.specs.Faithful.{IsFaithful}

-- The source that was read is in the profile, and the module that was made of it is faithful to the kernel.
pub record IsMade (language : Language) (source_name kernel : List ℕ) (before : FilesState) (source : List ℕ) (code : ModuleOf) : Type 0 where
  pub read : Holds before source_name source
  pub short : length source ≤ source_limit
  pub in_profile : language.in_profile source kernel
  pub valid : IsModule code
  pub faithful : IsFaithful language source kernel code

-- The module's file has the module's bytes, no other file has changed, and the line tells of the module.
pub record Compiled (language : Language) (source_name kernel module_name : List ℕ) (before : FilesState) (out_before : SinkState) (now : FilesState) (out_now : SinkState) : Type 0 where
  pub source : List ℕ
  pub code : ModuleOf
  pub made : IsMade language source_name kernel before source code
  pub files : now.told ≡ option_map (with_file module_name (Some (module_bytes code))) before.told
  pub line : Gains out_before out_now (compiled_line code)

-- The source that was read violates a rule. The line says which rule it violates first and where, and no file has changed.
pub record RefusedSource (violates_first : (source kernel : List ℕ) → SourceRule → ℕ → Type 0) (source_name kernel : List ℕ) (before : FilesState) (out_before : SinkState) (now : FilesState) (out_now : SinkState) : Type 0 where
  pub source : List ℕ
  pub rule : SourceRule
  pub at : ℕ
  pub read : Holds before source_name source
  pub short : length source ≤ source_limit
  pub first : violates_first source kernel rule at
  pub files : now.told ≡ before.told
  pub line : Gains out_before out_now (refused_line source rule at)

-- the answers that come without a machine's run and without the rules of modules and launches. All answers of `compile` but Done are such
abbrev pub IsEarly : Status → Type 0
IsEarly Memory = ⊤
IsEarly Usage = ⊤
IsEarly ReadFault = ⊤
IsEarly WriteFault = ⊤
IsEarly Missing = ⊤
IsEarly TooLong = ⊤
IsEarly Refused = ⊤
IsEarly Done = ⊥
IsEarly BadModule = ⊥
IsEarly BadLaunch = ⊥
IsEarly Broken = ⊥
IsEarly Unfinished = ⊥
IsEarly NotSafe = ⊥

-- What each answer of the program's own says of a `compile`.
pub record CompileAnswers (language : Language) (source_name kernel module_name : List ℕ) (before : FilesState) (out_before : SinkState) (now : FilesState) (out_now : SinkState) (result : Status) : Type 0 where
  pub compiled : result ≡ Done → Compiled language source_name kernel module_name before out_before now out_now
  pub refused : result ≡ Refused → RefusedSource language.violates_first source_name kernel before out_before now out_now
  pub own : (result ≡ Done) ⊎ IsEarly result

-- The module was executed. Where the launch is safe, no restriction is broken, and a finished run has written the buffers that the items leave
-- one by one.
pub record Ran (language : Language) (source kernel : List ℕ) (code : ModuleOf) (taken : List (List ℕ)) (launch_name : List ℕ) (before : FilesState) (out_before : SinkState) (now : FilesState) (out_now : SinkState) (result : Status) : Type 0 where
  pub run : Executed code taken launch_name before out_before now out_now result
  pub safe : (k : Kernel) → language.has_kernel source kernel k → (turns : ℕ) (ended : List Ended)
      → IsSafe (k.item (launch_in run.text)) (items_of (launch_in run.text).global) run.buffers turns ended
      → (result ≢ Broken) × (result ≡ Done → now.told ≡ option_map (stored (launch_in run.text).buffers (left_by run.buffers ended)) before.told)

-- The module was written, and nothing has changed it since. From its write on the command did what `exec` does with that module.
pub record Written (sources : Sources) (source_name kernel module_name launch_name : List ℕ) (before : FilesState) (out_before : SinkState) (now : FilesState) (out_now : SinkState) (result : Status) : Type 0 where
  pub source : List ℕ
  pub code : ModuleOf
  pub made : IsMade sources.compiled source_name kernel before source code
  -- the files after the module's write
  pub mid : FilesState
  pub write : mid.told ≡ option_map (with_file module_name (Some (module_bytes code))) before.told
  pub kept : Holds now module_name (module_bytes code)
  pub ran : IsRunStatus result → Ran sources.compiled source kernel code (source_name ∷ module_name ∷ launch_name ∷ []) launch_name mid out_before now out_now result
  pub bad_launch : result ≡ BadLaunch → RefusedLaunch code.kinds (source_name ∷ module_name ∷ launch_name ∷ []) launch_name mid out_before now out_now
  pub rest : Ends sources true (exec_launch_plan (source_name ∷ module_name ∷ launch_name ∷ []) code launch_name) mid out_before now out_now result

-- The module wasn't written: no file has changed, or the write of the module failed and its file may hold anything.
pub record Unwritten (module_name : List ℕ) (before now : FilesState) (result : Status) : Type 0 where
  pub early : IsEarly result
  pub files : (now.told ≡ before.told)
      ⊎ (Spoils before now module_name × (Rose before.write_faults now.write_faults ⊎ Rose before.shortages now.shortages))

-- What a `run` has done.
pub record RunAnswers (sources : Sources) (source_name kernel module_name launch_name : List ℕ) (before : FilesState) (out_before : SinkState) (now : FilesState) (out_now : SinkState) (result : Status) : Type 0 where
  pub refused : result ≡ Refused → RefusedSource sources.compiled.violates_first source_name kernel before out_before now out_now
  pub stands : Written sources source_name kernel module_name launch_name before out_before now out_now result ⊎ Unwritten module_name before now result

-- A `compile` with a source in the profile comes to its end, or wants memory.
abbrev pub CompileEnds : (language : Language) (source_name kernel module_name : List ℕ) → Tree → Status → Type 0
CompileEnds language source_name kernel module_name tree result =
    (source : List ℕ) → source_name ≢ module_name
    → tree source_name ≡ Some source → length source ≤ source_limit → language.in_profile source kernel
    → (result ≡ Done) ⊎ (result ≡ Memory)

-- A `compile` of a source that violates a rule is refused, or wants memory.
abbrev pub CompileRefuses : (language : Language) (source_name kernel module_name : List ℕ) → Tree → Status → Type 0
CompileRefuses language source_name kernel module_name tree result =
    (source : List ℕ) (rule : SourceRule) (at : ℕ) → source_name ≢ module_name
    → tree source_name ≡ Some source → length source ≤ source_limit → language.violates_first source kernel rule at
    → (result ≡ Refused) ⊎ (result ≡ Memory)

-- And so is a `run`, whatever its launch.
abbrev pub RunRefuses : (language : Language) (source_name kernel module_name launch_name : List ℕ) → Tree → Status → Type 0
RunRefuses language source_name kernel module_name launch_name tree result =
    (source : List ℕ) (rule : SourceRule) (at : ℕ) → source_name ≢ module_name → source_name ≢ launch_name → module_name ≢ launch_name
    → tree source_name ≡ Some source → length source ≤ source_limit → language.violates_first source kernel rule at
    → (result ≡ Refused) ⊎ (result ≡ Memory)

-- The files of a launch's buffers are there, the kernel's launch is safe with them, and its rounds are as many as the bound of its steps.
pub record IsFinite (k : Kernel) (launch : LaunchOf) (files : FilesState) : Type 0 where
  pub buffers : List (List ℕ)
  pub contents : AreRead files launch.buffers buffers
  pub turns : ℕ
  pub ended : List Ended
  pub safe : IsSafe (k.item launch) (items_of launch.global) buffers turns ended
  pub rounds : ℕ
  pub schedule : launch.schedule ≡ Rounds rounds
  pub enough : most_steps k launch (turns_of ended) ≤ rounds

-- A `run` of a kernel of a source by a valid launch that fits and is finite comes to its end, or wants memory. The launch's buffers are
-- read once the module is written, so what is said of them is said of each module that may be made.
abbrev pub RunEnds : (language : Language) (source_name kernel module_name launch_name : List ℕ) → Tree → Status → Type 0
RunEnds language source_name kernel module_name launch_name tree result =
    (source text : List ℕ) (k : Kernel) → source_name ≢ module_name → source_name ≢ launch_name → module_name ≢ launch_name
    → tree source_name ≡ Some source → length source ≤ source_limit → language.has_kernel source kernel k
    → tree launch_name ≡ Some text → length text ≤ launch_limit → launch_fault text ≡ None
    → fit_fault (launch_in text) k.kinds (source_name ∷ module_name ∷ launch_name ∷ []) ≡ None
    → ((code : ModuleOf) (files : FilesState) → IsFaithful language source kernel code → files.told ≡ Some (with_file module_name (Some (module_bytes code)) tree)
    → IsFinite k (launch_in text) files)
    → (result ≡ Done) ⊎ (result ≡ Memory)
