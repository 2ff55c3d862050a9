-- The order in which marks are kept: by the buffer, and then by the first byte.
use Rattle.std.specs.Prelude.{◌≡◌, ◌⊎◌, ℕ, ◌<◌, ◌≤◌, List, length, get_or}
use Rattle.footprint.specs.declared.marks.Mark.{Mark}
use Rattle.footprint.specs.declared.marks.Use.TheVariants.{Read}

-- a mark begins in a lesser buffer than another, or in the same one at no later byte
abbrev pub IsNoLater : Mark → Mark → Type 0
IsNoLater mark other = (mark.buffer < other.buffer) ⊎ ((mark.buffer ≡ other.buffer) × (mark.from ≤ other.from))

-- the mark of this number, where there is one
abbrev pub mark_at : List Mark → ℕ → Mark
mark_at marks k = get_or marks k (record { how = Read; buffer = 0; from = 0; to = 0 })

-- marks in their order, each of some bytes
pub record IsOrdered (marks : List Mark) : Type 0 where
  pub order : (i j : ℕ) → i ≤ j → j < length marks → IsNoLater (mark_at marks i) (mark_at marks j)
  pub some : (k : ℕ) → k < length marks → (mark_at marks k).from < (mark_at marks k).to
