-- The lines of a launch file, and their texts.
use Rattle.std.specs.Prelude.{◌≤◌, ◌<◌, ℕ, ℤ, ◌^◌, ⊤, nat_abs, ◌&&◌, ◌==◌, if◌then◌else◌, List, [], ◌∷◌, map, length, Option, Some, None, IfSome, option_map, option_and_then, bytes_eq, codes, decimal}
use Rattle.std.specs.Fmt.{signed_decimal}
use Rattle.std.specs.List.{slice_split, join_with_byte, AllByRecursion}
use Rattle.launch_file.specs.Launches.{IsName}
use Rattle.launch_file.specs.Words.{number_of, value_of, name_of, file_of, file_text}

-- what a line says
pub data Line : Type 0 where
  FirstLine : Line
  QpusLine : ℕ → Line
  GlobalLine : List ℕ → Line
  LocalLine : List ℕ → Line
  -- the size, the input's name and the output's
  BufferIs : ℕ → Option (List ℕ) → Option (List ℕ) → Line
  ArgValue : ℤ → Line
  ArgBuffer : ℕ → Line
  RoundsLine : ℕ → Line
  -- the seed and the steps
  SeedLine : ℕ → ℕ → Line
  -- the name and how many times over
  FileLine : List ℕ → ℕ → Line

-- the words of a line
abbrev pub line_words : Line → List (List ℕ)
line_words FirstLine = codes "launch" ∷ codes "1" ∷ []
line_words (QpusLine qpus) = codes "qpus" ∷ decimal qpus ∷ []
line_words (GlobalLine sizes) = codes "global" ∷ map decimal sizes
line_words (LocalLine sizes) = codes "local" ∷ map decimal sizes
line_words (BufferIs size from to) = codes "buffer" ∷ decimal size ∷ file_text from ∷ file_text to ∷ []
line_words (ArgValue value) = codes "arg" ∷ codes "value" ∷ signed_decimal value ∷ []
line_words (ArgBuffer number) = codes "arg" ∷ codes "buffer" ∷ decimal number ∷ []
line_words (RoundsLine rounds) = codes "schedule" ∷ codes "rr" ∷ decimal rounds ∷ []
line_words (SeedLine seed steps) = codes "schedule" ∷ codes "seed" ∷ decimal seed ∷ decimal steps ∷ []
line_words (FileLine name times) = codes "schedule" ∷ codes "file" ∷ name ∷ decimal times ∷ []

-- a line's text, without the byte 10 that ends it: its words with single spaces
unfoldable pub line_text : Line → List ℕ
line_text line = join_with_byte 32 (line_words line)

-- numbers that have a text
abbrev pub IsNumber : ℕ → Type 0
IsNumber n = n < 2 ^ 64

pub record AreNumbers (sizes : List ℕ) : Type 0 where
  pub some : 1 ≤ length sizes
  pub few : length sizes ≤ 3
  pub each : AllByRecursion IsNumber sizes

-- what a line of a form can say: numbers of 64 bits, one to three sizes, and names
abbrev pub IsProper : Line → Type 0
IsProper FirstLine = ⊤
IsProper (QpusLine qpus) = IsNumber qpus
IsProper (GlobalLine sizes) = AreNumbers sizes
IsProper (LocalLine sizes) = AreNumbers sizes
IsProper (BufferIs size from to) = IsNumber size × IfSome from IsName × IfSome to IsName
IsProper (ArgValue value) = IsNumber (nat_abs value)
IsProper (ArgBuffer number) = IsNumber number
IsProper (RoundsLine rounds) = IsNumber rounds
IsProper (SeedLine seed steps) = IsNumber seed × IsNumber steps
IsProper (FileLine name times) = IsName name × IsNumber times

-- the line of two words
unfoldable pub two_words : List ℕ → List ℕ → Option Line
two_words key word =
    if bytes_eq key (codes "launch") then (if bytes_eq word (codes "1") then Some FirstLine else None)
    else if bytes_eq key (codes "qpus") then option_map QpusLine (number_of word)
    else if bytes_eq key (codes "global") then option_map (λ x. GlobalLine (x ∷ [])) (number_of word)
    else if bytes_eq key (codes "local") then option_map (λ x. LocalLine (x ∷ [])) (number_of word)
    else None

-- two sizes
abbrev pub two_sizes : Option ℕ → Option ℕ → Option (List ℕ)
two_sizes (Some x) (Some y) = Some (x ∷ y ∷ [])
two_sizes (Some x) None = None
two_sizes None y = None

-- what follows `arg`
unfoldable pub argument_of : List ℕ → List ℕ → Option Line
argument_of kind word =
    if bytes_eq kind (codes "value") then option_map ArgValue (value_of word)
    else if bytes_eq kind (codes "buffer") then option_map ArgBuffer (number_of word)
    else None

-- what follows `schedule`, of two words
unfoldable pub rounds_of : List ℕ → List ℕ → Option Line
rounds_of kind word = if bytes_eq kind (codes "rr") then option_map RoundsLine (number_of word) else None

-- the line of three words
unfoldable pub three_words : List ℕ → List ℕ → List ℕ → Option Line
three_words key one two =
    if bytes_eq key (codes "global") then option_map GlobalLine (two_sizes (number_of one) (number_of two))
    else if bytes_eq key (codes "local") then option_map LocalLine (two_sizes (number_of one) (number_of two))
    else if bytes_eq key (codes "arg") then argument_of one two
    else if bytes_eq key (codes "schedule") then rounds_of one two
    else None

-- three sizes
abbrev pub three_sizes : Option ℕ → Option ℕ → Option ℕ → Option (List ℕ)
three_sizes (Some x) (Some y) (Some z) = Some (x ∷ y ∷ z ∷ [])
three_sizes (Some x) (Some y) None = None
three_sizes (Some x) None z = None
three_sizes None y z = None

-- what follows `buffer`
abbrev pub buffer_of : Option ℕ → Option (Option (List ℕ)) → Option (Option (List ℕ)) → Option Line
buffer_of (Some size) (Some from) (Some to) = Some (BufferIs size from to)
buffer_of (Some size) (Some from) None = None
buffer_of (Some size) None to = None
buffer_of None from to = None

-- what follows `schedule seed`
abbrev pub seed_of : Option ℕ → Option ℕ → Option Line
seed_of (Some seed) (Some steps) = Some (SeedLine seed steps)
seed_of (Some seed) None = None
seed_of None steps = None

-- what follows `schedule file`
abbrev pub listed_of : Option (List ℕ) → Option ℕ → Option Line
listed_of (Some name) (Some times) = Some (FileLine name times)
listed_of (Some name) None = None
listed_of None times = None

-- what follows `schedule`, of three words
unfoldable pub schedule_of : List ℕ → List ℕ → List ℕ → Option Line
schedule_of kind one two =
    if bytes_eq kind (codes "seed") then seed_of (number_of one) (number_of two)
    else if bytes_eq kind (codes "file") then listed_of (name_of one) (number_of two)
    else None

-- the line of four words
unfoldable pub four_words : List ℕ → List ℕ → List ℕ → List ℕ → Option Line
four_words key one two three =
    if bytes_eq key (codes "global") then option_map GlobalLine (three_sizes (number_of one) (number_of two) (number_of three))
    else if bytes_eq key (codes "local") then option_map LocalLine (three_sizes (number_of one) (number_of two) (number_of three))
    else if bytes_eq key (codes "buffer") then buffer_of (number_of one) (file_of two) (file_of three)
    else if bytes_eq key (codes "schedule") then schedule_of one two three
    else None

-- the line with these words
abbrev pub line_from : List (List ℕ) → Option Line
line_from (key ∷ one ∷ []) = two_words key one
line_from (key ∷ one ∷ two ∷ []) = three_words key one two
line_from (key ∷ one ∷ two ∷ three ∷ []) = four_words key one two three
line_from other = None

-- the line with this text, None where no proper line has it
unfoldable pub line_of : List ℕ → Option Line
line_of bytes = line_from (slice_split (λ byte. byte == 32) bytes)
