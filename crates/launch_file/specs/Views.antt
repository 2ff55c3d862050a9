-- What the values of the code stand for.
use Rattle.std.specs.Prelude.{◌≡◌, ◌≤◌, length, ℕ, List, [], ◌∷◌, Option, option_map}
use Rattle.std.specs.Borrow.{Bor}
use Rattle.launch_file.specs.declared.lines.Sizes.{Sizes}
use Rattle.launch_file.specs.declared.lines.Sizes.TheVariants.{One, Two, Three}
use Rattle.launch_file.specs.declared.lines.Line.{Line as Read}
use Rattle.launch_file.specs.declared.lines.Line.TheVariants.{First, Qpus, Global, Local, Buffer, Value, BufferArg, Rounds, Seed, File}
use Rattle.launch_file.specs.declared.lines.Words.{Words}
use Rattle.launch_file.specs.declared.lines.Words.TheVariants.{One as OneWord, Two as TwoWords, Three as ThreeWords, Four as FourWords, More as MoreWords}
use Rattle.launch_file.specs.LineText.{Line, FirstLine, QpusLine, GlobalLine, LocalLine, BufferIs, ArgValue, ArgBuffer, RoundsLine, SeedLine, FileLine}

abbrev pub sizes_view : Sizes → List ℕ
sizes_view (One x) = x ∷ []
sizes_view (Two x y) = x ∷ y ∷ []
sizes_view (Three x y z) = x ∷ y ∷ z ∷ []

abbrev pub now : Bor (List ℕ) → List ℕ
now bytes = bytes.now

abbrev pub line_view : Read → Line
line_view First = FirstLine
line_view (Qpus qpus) = QpusLine qpus
line_view (Global sizes) = GlobalLine (sizes_view sizes)
line_view (Local sizes) = LocalLine (sizes_view sizes)
line_view (Buffer size from to) = BufferIs size (option_map now from) (option_map now to)
line_view (Value value) = ArgValue value
line_view (BufferArg number) = ArgBuffer number
line_view (Rounds rounds) = RoundsLine rounds
line_view (Seed seed steps) = SeedLine seed steps
line_view (File name times) = FileLine name.now times

-- the words of a line, where it has at most four
abbrev pub AreWords : Words → List (List ℕ) → Type 0
AreWords (OneWord one) words = words ≡ one.now ∷ []
AreWords (TwoWords one two) words = words ≡ one.now ∷ two.now ∷ []
AreWords (ThreeWords one two three) words = words ≡ one.now ∷ two.now ∷ three.now ∷ []
AreWords (FourWords one two three four) words = words ≡ one.now ∷ two.now ∷ three.now ∷ four.now ∷ []
AreWords MoreWords words = 5 ≤ length words
