-- What a table of touches tells of the items whose marks were added to it.
use Rattle.std.specs.Prelude.{◌≡◌, ◌⊎◌, ℕ, ◌<◌, ◌≤◌, List, Option, MatchOption}
use Rattle.footprint.specs.declared.marks.Use.{Use}
use Rattle.footprint.specs.declared.marks.Use.TheVariants.{Write}
use Rattle.footprint.specs.Marks.{Uses}
use Rattle.launch_meaning.specs.declared.ends.Ended.{Ended}
use Rattle.launch_meaning.specs.declared.verdict.Clash.{Clash}
use Rattle.launch_meaning.specs.LaunchMeaning.{marks_at, IsRace, IsLeastRace}
use Rattle.touches.specs.declared.touch.Touch.{Touch}
use Rattle.touches.specs.declared.touch.Touch.TheVariants.{Untouched, OnlyRead, OneItem, Raced}
use Rattle.touches.specs.Touched.{byte_of}

-- of the items that read or write a byte and those that write it: these two race at it, and no lesser pair does
pub record IsRaced (touches writes : ℕ → Type 0) (first second : ℕ) : Type 0 where
  pub order : first < second
  pub touches_first : touches first
  pub touches_second : touches second
  pub one_writes : writes first ⊎ writes second
  pub least : (i : ℕ) → touches i → first ≤ i
  pub least_other : (j : ℕ) → first < j → touches j → writes first ⊎ writes j → second ≤ j

-- these items read or write a byte, and those write it
abbrev pub Says : (touches writes : ℕ → Type 0) → Touch → Type 0
Says touches writes Untouched = (i : ℕ) → ¬ (touches i)
Says touches writes (OnlyRead first) = touches first × ((i : ℕ) → touches i → first ≤ i) × ((i : ℕ) → ¬ (writes i))
Says touches writes (OneItem item) = writes item × ((i : ℕ) → touches i → i ≡ item)
Says touches writes (Raced first second) = IsRaced touches writes first second

-- item i reads or writes a byte of a buffer
abbrev pub TouchesAt : List Ended → (buffer byte i : ℕ) → Type 0
TouchesAt ended buffer byte i = (how : Use) × Uses (marks_at ended i) how buffer byte

-- item i writes a byte of a buffer
abbrev pub WritesAt : List Ended → (buffer byte i : ℕ) → Type 0
WritesAt ended buffer byte i = Uses (marks_at ended i) Write buffer byte

-- the table tells of each byte which of these items read and which wrote it
pub record Tells (ended : List Ended) (rows : List (List Touch)) : Type 0 where
  pub of_byte : (buffer byte : ℕ) → Says (TouchesAt ended buffer byte) (WritesAt ended buffer byte) (byte_of rows buffer byte)

-- the least race of these items, or none where no two of them race
abbrev pub IsLeastRaceOf : List Ended → Option Clash → Type 0
IsLeastRaceOf ended found = MatchOption found ((clash : Clash) → ¬ (IsRace ended clash)) (λ clash. IsLeastRace ended clash)
