-- The first byte of a row, and of a table of rows, at which two items race.
use Rattle.std.specs.Prelude.{◌≡◌, ℕ, ◌<◌, List, Option, MatchOption}
use Rattle.footprint.specs.Marks.{IsBefore}
use Rattle.launch_meaning.specs.declared.verdict.Clash.{Clash}
use Rattle.touches.specs.declared.touch.Touch.{Touch}
use Rattle.touches.specs.declared.touch.Touch.TheVariants.{Untouched, OnlyRead, OneItem, Raced}
use Rattle.touches.specs.declared.row.RowRace.{RowRace}
use Rattle.touches.specs.Touched.{byte_in, byte_of}

-- no two items race at it
abbrev pub IsQuiet : Touch → Type 0
IsQuiet Untouched = Unit {0}
IsQuiet (OnlyRead first) = Unit {0}
IsQuiet (OneItem item) = Unit {0}
IsQuiet (Raced first second) = ⊥

pub record IsRowRace (row : List Touch) (race : RowRace) : Type 0 where
  pub here : byte_in row race.byte ≡ Raced race.first race.second
  pub before : (byte : ℕ) → byte < race.byte → IsQuiet (byte_in row byte)

abbrev pub IsFirstInRow : List Touch → Option RowRace → Type 0
IsFirstInRow row found = MatchOption found ((byte : ℕ) → IsQuiet (byte_in row byte)) (λ race. IsRowRace row race)

pub record IsTableRace (rows : List (List Touch)) (clash : Clash) : Type 0 where
  pub here : byte_of rows clash.buffer clash.byte ≡ Raced clash.first clash.second
  pub before : (buffer byte : ℕ) → IsBefore buffer byte (clash.buffer, clash.byte) → IsQuiet (byte_of rows buffer byte)

abbrev pub IsFirstInTable : List (List Touch) → Option Clash → Type 0
IsFirstInTable rows found = MatchOption found ((buffer byte : ℕ) → IsQuiet (byte_of rows buffer byte)) (λ clash. IsTableRace rows clash)
