-- The launch that a launch file's lines say.
use Rattle.std.specs.Prelude.{ℕ, List, [], ◌∷◌, length, flat_map, ◌==◌, Option, Some, None}
use Rattle.std.specs.List.{slice_split}
use Rattle.launch_file.specs.declared.launch.BufferLine.{BufferLine}
use Rattle.launch_file.specs.declared.launch.Arg.{Arg}
use Rattle.launch_file.specs.declared.launch.Arg.TheVariants.{Value, Buffer}
use Rattle.launch_file.specs.declared.launch.Schedule.{Schedule}
use Rattle.launch_file.specs.declared.launch.Schedule.TheVariants.{Rounds, Seed, File}
use Rattle.launch_file.specs.Launches.{LaunchOf, with_ones}
use Rattle.launch_file.specs.LineText.{Line, FirstLine, QpusLine, GlobalLine, LocalLine, BufferIs, ArgValue, ArgBuffer, RoundsLine, SeedLine, FileLine, line_of}

abbrev pub listed : Option Line → List Line
listed (Some line) = line ∷ []
listed None = []

-- the lines of the bytes, but for those of no form
unfoldable pub lines_in : List ℕ → List Line
lines_in bytes = flat_map (λ piece. listed (line_of piece)) (slice_split (λ byte. byte == 10) bytes)

-- the number after `qpus`
abbrev pub qpus_in : List Line → ℕ
qpus_in [] = 0
qpus_in (QpusLine qpus ∷ lines) = qpus
qpus_in (line ∷ lines) = qpus_in lines

abbrev pub global_of : Line → List ℕ
global_of (GlobalLine sizes) = sizes
global_of line = []

abbrev pub local_of : Line → List ℕ
local_of (LocalLine sizes) = sizes
local_of line = []

abbrev pub buffers_of : Line → List BufferLine
buffers_of (BufferIs size from to) = record { size = size; from = from; to = to } ∷ []
buffers_of line = []

abbrev pub args_of : Line → List Arg
args_of (ArgValue value) = Value value ∷ []
args_of (ArgBuffer number) = Buffer number ∷ []
args_of line = []

-- the first schedule
abbrev pub schedule_in : List Line → Schedule
schedule_in [] = Rounds 0
schedule_in (RoundsLine rounds ∷ lines) = Rounds rounds
schedule_in (SeedLine seed steps ∷ lines) = Seed seed steps
schedule_in (FileLine name times ∷ lines) = File name times
schedule_in (line ∷ lines) = schedule_in lines

-- the launch that these lines say
unfoldable pub launch_from : List Line → LaunchOf
launch_from lines = record {
  qpus = qpus_in lines;
  global = with_ones (flat_map global_of lines);
  local = with_ones (flat_map local_of lines);
  dims = length (flat_map global_of lines);
  buffers = flat_map buffers_of lines;
  args = flat_map args_of lines;
  schedule = schedule_in lines;
}

-- the launch that the bytes say, which is theirs where they have no fault
unfoldable pub launch_in : List ℕ → LaunchOf
launch_in bytes = launch_from (lines_in bytes)
