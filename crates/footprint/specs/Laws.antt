-- What shows that the definitions fit together.
use Rattle.std.specs.Prelude.{◌≡◌, ℕ, ◌⊎◌, ◌↔◌, List, Option}
use Rattle.footprint.specs.declared.marks.Mark.{Mark}
use Rattle.footprint.specs.declared.marks.Use.{Use}
use Rattle.footprint.specs.declared.marks.Use.TheVariants.{Write}
use Rattle.footprint.specs.Marks.{Uses, ConflictAt}
use Rattle.footprint.specs.Least.{IsLeast}

abbrev pub ConflictsAreMutual : Type 0
ConflictsAreMutual = (f g : List Mark) (buffer byte : ℕ) → ConflictAt f g buffer byte → ConflictAt g f buffer byte

-- so two that only read never conflict
abbrev pub ConflictsNeedAWrite : Type 0
ConflictsNeedAWrite =
    (f g : List Mark) (buffer byte : ℕ) → ConflictAt f g buffer byte → Uses f Write buffer byte ⊎ Uses g Write buffer byte

-- the same bytes are used in the same way
abbrev pub SameBytes : List Mark → List Mark → Type 0
SameBytes f g = (how : Use) (buffer byte : ℕ) → Uses f how buffer byte ↔ Uses g how buffer byte

-- what uses the same bytes conflicts at the same places, whatever its marks are
abbrev pub ConflictsAreOfBytes : Type 0
ConflictsAreOfBytes =
    (f f' g : List Mark) (buffer byte : ℕ) → SameBytes f f' → ConflictAt f g buffer byte → ConflictAt f' g buffer byte

abbrev pub OneLeast : Type 0
OneLeast = (f g : List Mark) (p q : Option (ℕ × ℕ)) → IsLeast (ConflictAt f g) p → IsLeast (ConflictAt f g) q → p ≡ q
