-- Whether a launch fits a kernel's parameters and the files of a command. The rules are this project's own.
use Rattle.std.specs.Prelude.{ℕ, ◌+◌, List, [], ◌∷◌, ◌++◌, map, replicate, length, Bool, true, false, not, ◌||◌, ◌==◌, ℤ, pos, negsuc, int_lt, cond, Option, Some, None, Result, Ok, Err, bytes_eq}
use Rattle.std.specs.List.{list_any}
use Rattle.q_lane.specs.declared.kinds.Scalar.{Scalar}
use Rattle.q_lane.specs.declared.kinds.Scalar.TheVariants.{Char, Uchar, Short, Ushort, Int, Uint}
use Rattle.q_lane.specs.declared.kinds.Kind.{Kind}
use Rattle.q_lane.specs.declared.kinds.Kind.TheVariants.{Value as Number, Pointer}
use Rattle.launch_file.specs.declared.launch.Arg.{Arg}
use Rattle.launch_file.specs.declared.launch.Arg.TheVariants.{Value, Buffer}
use Rattle.launch_file.specs.declared.launch.BufferLine.{BufferLine}
use Rattle.launch_file.specs.declared.launch.LaunchFault.{LaunchFault}
use Rattle.launch_file.specs.declared.launch.LaunchFault.TheVariants.{Rule}
use Rattle.launch_file.specs.Launches.{LaunchOf}

-- the least number of a type (negsuc n is -1 - n)
abbrev pub least : Scalar → ℤ
least Char = negsuc 127
least Uchar = pos 0
least Short = negsuc 32767
least Ushort = pos 0
least Int = negsuc 2147483647
least Uint = pos 0

-- the greatest number of a type
abbrev pub greatest : Scalar → ℤ
greatest Char = pos 127
greatest Uchar = pos 255
greatest Short = pos 32767
greatest Ushort = pos 65535
greatest Int = pos 2147483647
greatest Uint = pos 4294967295

-- rule 8: there are more or fewer arguments than parameters
abbrev pub is_other_count : List Arg → List Kind → Bool
is_other_count args kinds = not (length args == length kinds)

-- rule 9: a number for a pointer, or a buffer for a number
unfoldable pub is_other_sort : Arg → Kind → Bool
is_other_sort (Value number) (Number scalar) = false
is_other_sort (Value number) Pointer = true
is_other_sort (Buffer i) (Number scalar) = true
is_other_sort (Buffer i) Pointer = false

-- rule 10: a number that the parameter's type doesn't have
unfoldable pub is_out_of_range : Arg → Kind → Bool
is_out_of_range (Value number) (Number scalar) = int_lt number (least scalar) || int_lt (greatest scalar) number
is_out_of_range (Value number) Pointer = false
is_out_of_range (Buffer i) kind = false

-- rule 12: the buffer would be written to one of these files, which the command names
unfoldable pub is_taken : List (List ℕ) → Option (List ℕ) → Bool
is_taken taken None = false
is_taken taken (Some name) = list_any (λ other. bytes_eq other name) taken

-- the rule where the test holds, else the later one
abbrev pub rule_where : Bool → ℕ → Option ℕ → Option ℕ
rule_where test rule later = cond test (Some rule) later

-- the least rule that a buffer's line violates
abbrev pub buffer_rule : List (List ℕ) → BufferLine → Option ℕ
buffer_rule taken buffer = rule_where (is_taken taken buffer.to) 12 None

-- the least rule that an argument's line violates
abbrev pub arg_rule : Arg → Kind → Option ℕ
arg_rule arg kind = rule_where (is_other_sort arg kind) 9 (rule_where (is_out_of_range arg kind) 10 None)

-- the same for each argument; one past the parameters violates none
unfoldable pub arg_rules : List Arg → List Kind → List (Option ℕ)
arg_rules [] kinds = []
arg_rules (arg ∷ args) [] = None ∷ arg_rules args []
arg_rules (arg ∷ args) (kind ∷ kinds) = arg_rule arg kind ∷ arg_rules args kinds

-- the rule that the schedule's line violates
abbrev pub count_rule : List Arg → List Kind → Option ℕ
count_rule args kinds = rule_where (is_other_count args kinds) 8 None

-- for each line of the launch's text the least rule that it violates: four lines, then one for each buffer, one for each argument, and the schedule
unfoldable pub line_rules : LaunchOf → List Kind → List (List ℕ) → List (Option ℕ)
line_rules launch kinds taken =
    replicate 4 None ++ (map (buffer_rule taken) launch.buffers ++ (arg_rules launch.args kinds ++ (count_rule launch.args kinds ∷ [])))

-- a rule, and the number of a line
pub record FaultAt : Type 0 where
  pub rule : ℕ
  pub line : ℕ

-- the first line with a violated rule, where the first of these lines has this number
unfoldable pub first_fault : ℕ → List (Option ℕ) → Option FaultAt
first_fault line [] = None
first_fault line (None ∷ rules) = first_fault (line + 1) rules
first_fault line (Some rule ∷ rules) = Some (record { rule = rule; line = line })

-- the first fault of a launch: the least line, and there the least rule. Lines are counted from 1
abbrev pub fit_fault : LaunchOf → List Kind → List (List ℕ) → Option FaultAt
fit_fault launch kinds taken = first_fault 1 (line_rules launch kinds taken)

-- how many lines the launch's text has
abbrev pub line_count : LaunchOf → ℕ
line_count launch = 4 + (length launch.buffers + (length launch.args + 1))

-- the answer that tells of a fault
abbrev pub answer_of : Option FaultAt → Result (Unit {0}) LaunchFault
answer_of None = Ok tt
answer_of (Some fault) = Err (Rule fault.rule fault.line)
