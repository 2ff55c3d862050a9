-- The text of a launch.
use Rattle.std.specs.Prelude.{ℕ, List, [], ◌∷◌, ◌++◌, map, take}
use Rattle.std.specs.List.{flat_map}
use Rattle.launch_file.specs.declared.launch.BufferLine.{BufferLine}
use Rattle.launch_file.specs.declared.launch.Arg.{Arg}
use Rattle.launch_file.specs.declared.launch.Arg.TheVariants.{Value, Buffer}
use Rattle.launch_file.specs.declared.launch.Schedule.{Schedule}
use Rattle.launch_file.specs.declared.launch.Schedule.TheVariants.{Rounds, Seed, File}
use Rattle.launch_file.specs.Launches.{LaunchOf}
use Rattle.launch_file.specs.LineText.{Line, FirstLine, QpusLine, GlobalLine, LocalLine, BufferIs, ArgValue, ArgBuffer, RoundsLine, SeedLine, FileLine, line_text}

abbrev pub buffer_line : BufferLine → Line
buffer_line buffer = BufferIs buffer.size buffer.from buffer.to

abbrev pub arg_line : Arg → Line
arg_line (Value value) = ArgValue value
arg_line (Buffer number) = ArgBuffer number

abbrev pub schedule_line : Schedule → Line
schedule_line (Rounds rounds) = RoundsLine rounds
schedule_line (Seed seed steps) = SeedLine seed steps
schedule_line (File name times) = FileLine name times

-- the four lines before the buffers
abbrev pub head_lines : ℕ → List ℕ → List ℕ → List Line
head_lines qpus global local = FirstLine ∷ QpusLine qpus ∷ GlobalLine global ∷ LocalLine local ∷ []

-- the lines of a launch
unfoldable pub launch_lines : LaunchOf → List Line
launch_lines launch =
    head_lines launch.qpus (take launch.dims launch.global) (take launch.dims launch.local)
    ++ (map buffer_line launch.buffers ++ (map arg_line launch.args ++ schedule_line launch.schedule ∷ []))

-- a line and the byte 10 that ends it
abbrev pub ended : Line → List ℕ
ended line = line_text line ++ 10 ∷ []

-- the text of these lines
abbrev pub lines_text : List Line → List ℕ
lines_text lines = flat_map ended lines

-- the text of a launch
unfoldable pub launch_text : LaunchOf → List ℕ
launch_text launch = lines_text (launch_lines launch)
