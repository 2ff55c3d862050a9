-- What a launch is, and which are valid.
use Rattle.std.specs.Prelude.{◌≡◌, ◌≢◌, ℕ, ◌*◌, ◌^◌, ◌<◌, ◌≤◌, ◌%◌, Bool, false, List, [], ◌∷◌, length, take, get_or, slice_get, nat_abs, Option, Some, None, IfSome, bytes_eq}
use Rattle.std.specs.List.{list_any}
use Rattle.launch_file.specs.declared.launch.BufferLine.{BufferLine}
use Rattle.launch_file.specs.declared.launch.Arg.{Arg}
use Rattle.launch_file.specs.declared.launch.Arg.TheVariants.{Value, Buffer}
use Rattle.launch_file.specs.declared.launch.Schedule.{Schedule}
use Rattle.launch_file.specs.declared.launch.Schedule.TheVariants.{Rounds, Seed, File}

-- a launch without where it lies in memory; names are lists of bytes
pub record LaunchOf : Type 0 where
  pub qpus : ℕ
  -- three sizes each
  pub global : List ℕ
  pub local : List ℕ
  -- how many of the sizes the launch names
  pub dims : ℕ
  pub buffers : List BufferLine
  pub args : List Arg
  pub schedule : Schedule

-- a name: a word of 1 to 255 bytes, and not `-`, which means none
pub record IsName (name : List ℕ) : Type 0 where
  pub some : 1 ≤ length name
  pub short : length name ≤ 255
  pub each : (i : ℕ) → IfSome (slice_get name i) (λ byte. (33 ≤ byte) × (byte ≤ 126))
  pub names : name ≢ 45 ∷ []

-- three sizes, and those past the dimensions are 1
pub record AreSizes (dims : ℕ) (sizes : List ℕ) : Type 0 where
  pub three : length sizes ≡ 3
  pub some : (i : ℕ) → i < 3 → 1 ≤ get_or sizes i 1
  pub small : (i : ℕ) → i < 3 → get_or sizes i 1 ≤ 65536
  pub past : (i : ℕ) → dims ≤ i → get_or sizes i 1 ≡ 1

-- one to three sizes, with 1 for each that is missing
abbrev pub with_ones : List ℕ → List ℕ
with_ones [] = 1 ∷ 1 ∷ 1 ∷ []
with_ones (x ∷ []) = x ∷ 1 ∷ 1 ∷ []
with_ones (x ∷ y ∷ []) = x ∷ y ∷ 1 ∷ []
with_ones (x ∷ y ∷ z ∷ sizes) = x ∷ y ∷ z ∷ []

-- how many items there are
abbrev pub items_of : List ℕ → ℕ
items_of sizes = get_or sizes 0 1 * get_or sizes 1 1 * get_or sizes 2 1

pub record IsBuffer (buffer : BufferLine) : Type 0 where
  pub small : buffer.size ≤ 16777216
  pub from : IfSome buffer.from IsName
  pub to : IfSome buffer.to IsName

-- whether the option is this name
abbrev pub is_name_in : Option (List ℕ) → List ℕ → Bool
is_name_in (Some other) name = bytes_eq other name
is_name_in None name = false

-- whether one of these buffers is written to the file of this name
abbrev pub is_written : List BufferLine → List ℕ → Bool
is_written buffers name = list_any (λ buffer. is_name_in buffer.to name) buffers

-- a value of at most 64 bits and a sign, or the number of one of so many buffers
abbrev pub IsArg : ℕ → Arg → Type 0
IsArg count (Value value) = nat_abs value < 2 ^ 64
IsArg count (Buffer number) = number < count

abbrev pub IsSchedule : Schedule → Type 0
IsSchedule (Rounds rounds) = rounds < 2 ^ 64
IsSchedule (Seed seed steps) = (seed < 2 ^ 64) × (steps < 2 ^ 64)
IsSchedule (File name times) = IsName name × (times < 2 ^ 64)

-- a valid launch
pub record IsLaunch (launch : LaunchOf) : Type 0 where
  pub some_qpus : 1 ≤ launch.qpus
  pub few_qpus : launch.qpus ≤ 12
  pub some_dims : 1 ≤ launch.dims
  pub few_dims : launch.dims ≤ 3
  pub global : AreSizes launch.dims launch.global
  pub local : AreSizes launch.dims launch.local
  pub items : items_of launch.global ≤ 1048576
  pub divides : (i : ℕ) → get_or launch.global i 1 % get_or launch.local i 1 ≡ 0
  pub few_buffers : length launch.buffers ≤ 16
  pub buffers : (i : ℕ) → IfSome (slice_get launch.buffers i) IsBuffer
  -- no output name stands as an earlier output name
  pub apart : (i : ℕ) → IfSome (slice_get launch.buffers i) (λ buffer. IfSome buffer.to (λ name. is_written (take i launch.buffers) name ≡ false))
  pub args : (i : ℕ) → IfSome (slice_get launch.args i) (IsArg (length launch.buffers))
  pub schedule : IsSchedule launch.schedule
