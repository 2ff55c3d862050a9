-- The four lines of the head, read one by one.
use Rattle.std.specs.Prelude.{◌≡◌, ℕ, ◌≤◌, false, List, [], ◌∷◌, ◌++◌, length, Option, Some, None, Result, Ok, Err}
use Rattle.std.specs.List.{list_any}
use Rattle.launch_file.specs.declared.launch.LaunchFault.{LaunchFault}
use Rattle.launch_file.specs.LineText.{Line, FirstLine, QpusLine, GlobalLine, LocalLine}
use Rattle.launch_file.specs.Rules.{is_bad_size, product, divides_not, least_rule, first_fault}
use Rattle.launch_file.specs.declared.body.Body.{Body}
use Rattle.launch_file.specs.LaunchText.{head_lines, lines_text}
use Rattle.launch_file.specs.LaunchIn.{lines_in}
use Rattle.launch_file.specs.Reading.{Leads, IsFirst, body_lines}

-- from these lines on, the file goes on to those
abbrev pub GoesOn : List Line → List ℕ → List Line → List ℕ → Type 0
GoesOn before rest after later = (bytes : List ℕ) → Leads bytes before rest → Leads bytes after later

-- after these lines, this is the first fault
abbrev pub Stops : List Line → List ℕ → LaunchFault → Type 0
Stops before rest fault = (bytes : List ℕ) → Leads bytes before rest → IsFirst bytes fault

-- the line stands after those, or violates this rule
abbrev pub Stands : List Line → Line → Line → Type 0
Stands before line said = (line ≡ said) × (least_rule before (Some line) ≡ None)

abbrev pub Violates : List Line → Line → ℕ → Type 0
Violates before line rule = least_rule before (Some line) ≡ Some rule

abbrev pub AreGood : List ℕ → Type 0
AreGood sizes = list_any is_bad_size sizes ≡ false

-- after any head and these lines, the file goes on
abbrev pub Onward : Body → List ℕ → Body → List ℕ → Type 0
Onward old rest new left = (qpus : ℕ) (global local : List ℕ) → GoesOn (head_lines qpus global local ++ body_lines old) rest (head_lines qpus global local ++ body_lines new) left

-- after any head and these lines, this is the first fault
abbrev pub StopsAfter : Body → List ℕ → LaunchFault → Type 0
StopsAfter old rest fault = (qpus : ℕ) (global local : List ℕ) → Stops (head_lines qpus global local ++ body_lines old) rest fault

-- the rest of a file after any head is these lines
abbrev pub Ends : List ℕ → List Line → Type 0
Ends rest lines = (qpus : ℕ) (global local : List ℕ) (bytes : List ℕ) → Leads bytes (head_lines qpus global local) rest → (bytes ≡ lines_text (head_lines qpus global local ++ lines)) × (first_fault bytes ≡ None) × (lines_in bytes ≡ head_lines qpus global local ++ lines)

-- after any head, this is the first fault
abbrev pub StopsHere : List ℕ → LaunchFault → Type 0
StopsHere rest fault = (qpus : ℕ) (global local : List ℕ) → Stops (head_lines qpus global local) rest fault
