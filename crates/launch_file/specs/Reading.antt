-- How far a launch file has been read.
use Rattle.std.specs.Prelude.{◌≡◌, ℕ, ◌+◌, ◌*◌, ◌≤◌, ◌^◌, ◌<◌, Bool, true, false, not, ◌&&◌, ◌||◌, ◌==◌, ⊤, nat_lt, nat_le, if◌then◌else◌, List, [], ◌∷◌, ◌++◌, map, take, length, slice_get, is_some, is_none, Option, Some, None, IfSome, Result, Ok, Err}
use Rattle.std.specs.List.{list_any}
use Rattle.launch_file.specs.declared.launch.BufferLine.{BufferLine}
use Rattle.launch_file.specs.declared.launch.Arg.{Arg}
use Rattle.launch_file.specs.declared.launch.Arg.TheVariants.{Value, Buffer}
use Rattle.launch_file.specs.declared.launch.Schedule.{Schedule}
use Rattle.launch_file.specs.declared.launch.LaunchFault.{LaunchFault}
use Rattle.launch_file.specs.declared.launch.LaunchFault.TheVariants.{Rule, Memory}
use Rattle.launch_file.specs.declared.body.Body.{Body}
use Rattle.launch_file.specs.declared.body.Trouble.{Trouble}
use Rattle.launch_file.specs.declared.body.Trouble.TheVariants.{Broken, NoMemory}
use Rattle.launch_file.specs.Launches.{IsBuffer, IsArg, IsSchedule, is_written}
use Rattle.launch_file.specs.LineText.{Line, IsProper}
use Rattle.launch_file.specs.LaunchIn.{lines_in}
use Rattle.launch_file.specs.Rules.{is_bad_size, product, divides_not, least_rule, fault_or, fault_in, first_fault}
use Rattle.launch_file.specs.LaunchText.{head_lines, buffer_line, arg_line, schedule_line, ended, lines_text}

-- the bytes are this line, ended, and then the rest
pub record Follows (bytes : List ℕ) (line : Line) (rest : List ℕ) : Type 0 where
  pub text : bytes ≡ ended line ++ rest
  pub shorter : length rest + 2 ≤ length bytes
  pub proper : IsProper line
  pub says : lines_in bytes ≡ line ∷ lines_in rest
  pub step : (before : List Line) → fault_in before bytes ≡ fault_or (least_rule before (Some line)) (length before + 1) (fault_in (before ++ line ∷ []) rest)

-- the bytes are these lines, none at fault, and then the rest
pub record Leads (bytes : List ℕ) (lines : List Line) (rest : List ℕ) : Type 0 where
  pub text : bytes ≡ lines_text lines ++ rest
  pub fault : first_fault bytes ≡ fault_in lines rest
  pub says : lines_in bytes ≡ lines ++ lines_in rest
  pub shorter : 2 * length lines + length rest ≤ length bytes

-- what the four lines before the buffers say is allowed
pub record IsHead (qpus : ℕ) (sizes parts : List ℕ) : Type 0 where
  pub some_qpus : 1 ≤ qpus
  pub few_qpus : qpus ≤ 12
  pub global : list_any is_bad_size sizes ≡ false
  pub local : list_any is_bad_size parts ≡ false
  pub same : length parts ≡ length sizes
  pub items : product sizes ≤ 1048576
  pub divides : divides_not sizes parts ≡ false

abbrev pub schedule_lines : Option Schedule → List Line
schedule_lines (Some schedule) = schedule_line schedule ∷ []
schedule_lines None = []

-- the lines of buffers, arguments and a schedule
abbrev pub lines_after : List BufferLine → List Arg → Option Schedule → List Line
lines_after buffers args schedule = map buffer_line buffers ++ (map arg_line args ++ schedule_lines schedule)

abbrev pub body_lines : Body → List Line
body_lines body = lines_after body.buffers.items body.args.items body.schedule

-- what was taken is allowed
pub record IsBody (taken : List BufferLine) (given : List Arg) (end : Option Schedule) : Type 0 where
  pub few : length taken ≤ 16
  pub buffers : (i : ℕ) → IfSome (slice_get taken i) IsBuffer
  pub apart : (i : ℕ) → IfSome (slice_get taken i) (λ buffer. IfSome buffer.to (λ name. is_written (take i taken) name ≡ false))
  pub args : (i : ℕ) → IfSome (slice_get given i) (IsArg (length taken))
  pub schedule : IfSome end IsSchedule

abbrev pub Allowed : Body → Type 0
Allowed body = IsBody body.buffers.items body.args.items body.schedule

abbrev pub is_written_to : List BufferLine → Option (List ℕ) → Bool
is_written_to buffers (Some name) = is_written buffers name
is_written_to buffers None = false

abbrev pub is_empty : {X : Type 0} → List X → Bool
is_empty [] = true
is_empty (x ∷ xs) = false

-- the least rule that a further buffer's line violates
unfoldable pub buffer_rule : List BufferLine → List Arg → Option Schedule → ℕ → Option (List ℕ) → Option ℕ
buffer_rule buffers args schedule size to =
    if not (is_empty args && is_none schedule) then Some 1
    else if nat_le 16 (length buffers) then Some 6
    else if nat_lt 16777216 size then Some 7
    else if is_written_to buffers to then Some 12
    else None

-- the least rule that a further argument's line violates: a value's, and a buffer's
unfoldable pub value_rule : Option Schedule → Option ℕ
value_rule schedule = if is_some schedule then Some 1 else None

unfoldable pub number_rule : List BufferLine → Option Schedule → ℕ → Option ℕ
number_rule buffers schedule number = if is_some schedule then Some 1 else if nat_le (length buffers) number then Some 11 else None

-- the line violates this rule, or none, after a head and these lines
abbrev pub Breaks : Body → Line → Option ℕ → Type 0
Breaks body line rule = (qpus : ℕ) (global local : List ℕ) → least_rule (head_lines qpus global local ++ body_lines body) (Some line) ≡ rule

-- the answer to a line after a head: it is taken, or violates its rule
abbrev pub Takes : Body → Body → Line → Result (Unit {0}) Trouble → Type 0
Takes old new line (Ok u) = Allowed new × (body_lines new ≡ body_lines old ++ line ∷ []) × Breaks old line None
Takes old new line (Err (Broken rule)) = Breaks old line (Some rule)
Takes old new line (Err NoMemory) = ⊤

-- a fault that is the file's first
abbrev pub IsFirst : List ℕ → LaunchFault → Type 0
IsFirst bytes (Rule rule line) = first_fault bytes ≡ Some (rule, line)
IsFirst bytes Memory = ⊤
