-- What `exec` has done where it ends with an answer of its own.
use Rattle.std.specs.Prelude.{◌≡◌, ◌≢◌, ◌⊎◌, ◌≤◌, ℕ, List, [], ◌∷◌, length, Option, Some, None, option_map, ⊤}
use Rattle.q_io.specs.FilesMeaning.{Tree, with_file, FilesState, Holds}
use Rattle.q_io.specs.SinkMeaning.{SinkState, Gains}
use Rattle.q_lane.specs.declared.kinds.Kind.{Kind}
use Rattle.launch_file.specs.declared.launch.BufferLine.{BufferLine}
use Rattle.launch_file.specs.declared.launch.Schedule.{Schedule}
use Rattle.launch_file.specs.declared.launch.Schedule.TheVariants.{Rounds, Seed, File}
use Rattle.launch_file.specs.Launches.{LaunchOf, IsLaunch}
use Rattle.launch_file.specs.LaunchText.{launch_text}
use Rattle.launch_file.specs.LaunchIn.{launch_in}
use Rattle.launch_file.specs.Rules.{first_fault as launch_fault}
use Rattle.launch_file.specs.Fit.{fit_fault}
use Rattle.vc4q_module.specs.ModuleBytes.{ModuleOf, IsModule, module_bytes, first_fault as module_fault}
use Rattle.qpu_machine.specs.MachineState.{MachineState, stop_of}
use Rattle.commands.specs.Plan.{status_of}
use Rattle.commands.specs.Report.{report}
use Rattle.qpu_machine.specs.Reachable.{AreBytes}
use Rattle.promise.specs.Faithful.{buffers_of}
use Rattle.commands.specs.Buffers.{filled}
use Rattle.commands.specs.Openings.{opening_for}
use Rattle.commands.specs.Play.{answer_of, ran}
use Rattle.commands.specs.Loading.{module_line}
use Rattle.commands.specs.Exec.{schedule_limit}
use Rattle.commands.specs.Launching.{launch_line}
use Rattle.commands.specs.declared.status.Status.{Status}
use Rattle.commands.specs.declared.status.Status.TheVariants.{Done, Memory, Usage, ReadFault, WriteFault, Missing, TooLong, Refused, BadModule, BadLaunch, Broken, Unfinished, NotSafe}

-- the answers of a machine's run
abbrev pub IsRunStatus : Status → Type 0
IsRunStatus Done = ⊤
IsRunStatus Broken = ⊤
IsRunStatus Unfinished = ⊤
IsRunStatus Memory = ⊥
IsRunStatus Usage = ⊥
IsRunStatus ReadFault = ⊥
IsRunStatus WriteFault = ⊥
IsRunStatus Missing = ⊥
IsRunStatus TooLong = ⊥
IsRunStatus Refused = ⊥
IsRunStatus BadModule = ⊥
IsRunStatus BadLaunch = ⊥
IsRunStatus NotSafe = ⊥

-- the bytes of a buffer's line: those of its file, filled up with zeros, or zeros
abbrev pub IsRead : FilesState → BufferLine → List ℕ → Type 0
IsRead before line bytes = is_from line.from before line.size bytes
  where
    is_from : Option (List ℕ) → FilesState → ℕ → List ℕ → Type 0
    is_from None before size bytes = bytes ≡ filled size []
    is_from (Some name) before size bytes = (file : List ℕ) × Holds before name file × (length file ≤ size) × AreBytes file × (bytes ≡ filled size file)

-- the bytes of each line
abbrev pub AreRead : FilesState → List BufferLine → List (List ℕ) → Type 0
AreRead before [] [] = ⊤
AreRead before [] (bytes ∷ buffers) = ⊥
AreRead before (line ∷ lines) [] = ⊥
AreRead before (line ∷ lines) (bytes ∷ buffers) = IsRead before line bytes × AreRead before lines buffers

-- the bytes of the schedule's file, of none where the schedule has no file
abbrev pub IsScheduleFile : FilesState → Schedule → List ℕ → Type 0
IsScheduleFile before (Rounds rounds) file = file ≡ []
IsScheduleFile before (Seed seed steps) file = file ≡ []
IsScheduleFile before (File name times) file = Holds before name file × (length file ≤ schedule_limit)

abbrev pub stored_one : Option (List ℕ) → List ℕ → Tree → Tree
stored_one None bytes tree = tree
stored_one (Some name) bytes tree = with_file name (Some bytes) tree

-- the files after the buffers with an output name were written, in the order of their lines
abbrev pub stored : List BufferLine → List (List ℕ) → Tree → Tree
stored [] buffers tree = tree
stored (line ∷ lines) [] tree = tree
stored (line ∷ lines) (bytes ∷ buffers) tree = stored lines buffers (stored_one line.to bytes tree)

-- the machine after the run
abbrev pub run_of : ModuleOf → LaunchOf → List (List ℕ) → List ℕ → MachineState
run_of code launch buffers file = ran (opening_for code launch buffers) launch.schedule file

-- The machine's run of this module came to its stop, or to the end of the schedule. The launch, the schedule's file and the buffers are those that
-- were read; the status and the report are those of the run; and the buffers with an output name were written with the run's bytes, in the order
-- of their lines. No other file has changed. `taken` are the files that the command names.
pub record Executed (code : ModuleOf) (taken : List (List ℕ)) (launch_name : List ℕ) (before : FilesState) (out_before : SinkState) (now : FilesState) (out_now : SinkState) (result : Status) : Type 0 where
  pub text : List ℕ
  pub file : List ℕ
  pub buffers : List (List ℕ)
  pub launch_file : Holds before launch_name text
  pub launch_is : IsLaunch (launch_in text)
  pub spelling : text ≡ launch_text (launch_in text)
  pub no_fault : launch_fault text ≡ None
  pub fits : fit_fault (launch_in text) code.kinds taken ≡ None
  pub schedule_file : IsScheduleFile before (launch_in text).schedule file
  pub contents : AreRead before (launch_in text).buffers buffers
  pub status : result ≡ status_of (answer_of (stop_of (run_of code (launch_in text) buffers file)))
  pub files : now.told ≡ option_map (stored (launch_in text).buffers (buffers_of (run_of code (launch_in text) buffers file))) before.told
  pub line : Gains out_before out_now (report (run_of code (launch_in text) buffers file))

-- The module's file is the spelling of no module, and the line says where its first failing test is.
pub record RefusedModule (module_name : List ℕ) (before : FilesState) (out_before : SinkState) (now : FilesState) (out_now : SinkState) : Type 0 where
  pub bytes : List ℕ
  pub place : ℕ
  pub read : Holds before module_name bytes
  pub fault : module_fault bytes ≡ Some place
  pub no_module : (code : ModuleOf) → IsModule code → bytes ≢ module_bytes code
  pub files : now.told ≡ before.told
  pub line : Gains out_before out_now (module_line place)

-- this is the first rule that a launch's text violates, or the first that its launch violates with these kinds and names
abbrev pub IsFaultOf : List ℕ → List Kind → List (List ℕ) → ℕ → ℕ → Type 0
IsFaultOf text kinds taken rule line =
    (launch_fault text ≡ Some (rule, line))
    ⊎ ((launch_fault text ≡ None) × (fit_fault (launch_in text) kinds taken ≡ Some (record { rule = rule; line = line })))

-- The launch's file violates a rule, by itself or with these kinds of parameters and these names, and the line says which and where.
pub record RefusedLaunch (kinds : List Kind) (taken : List (List ℕ)) (launch_name : List ℕ) (before : FilesState) (out_before : SinkState) (now : FilesState) (out_now : SinkState) : Type 0 where
  pub text : List ℕ
  pub rule : ℕ
  pub at : ℕ
  pub read : Holds before launch_name text
  pub fault : IsFaultOf text kinds taken rule at
  pub files : now.told ≡ before.told
  pub line : Gains out_before out_now (launch_line rule at)

-- the module that was read
pub record IsReadModule (module_name : List ℕ) (before : FilesState) (code : ModuleOf) : Type 0 where
  pub valid : IsModule code
  pub file : Holds before module_name (module_bytes code)

-- What each answer of the program's own says: the stop of the run, a file that is no module, a file that is no launch.
pub record ExecAnswers (module_name launch_name : List ℕ) (before : FilesState) (out_before : SinkState) (now : FilesState) (out_now : SinkState) (result : Status) : Type 0 where
  pub run : IsRunStatus result
      → (code : ModuleOf) × IsReadModule module_name before code × Executed code (module_name ∷ launch_name ∷ []) launch_name before out_before now out_now result
  pub bad_module : result ≡ BadModule → RefusedModule module_name before out_before now out_now
  pub bad_launch : result ≡ BadLaunch
      → (code : ModuleOf) × IsReadModule module_name before code × RefusedLaunch code.kinds (module_name ∷ launch_name ∷ []) launch_name before out_before now out_now
