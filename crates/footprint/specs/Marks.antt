-- Which bytes of which buffers a footprint reads and writes, and where two of them conflict. A byte of a buffer counts from 0.
use Rattle.std.specs.Prelude.{◌≡◌, ℕ, ◌<◌, ◌≤◌, ◌⊎◌, ◌↔◌, List, Contains}
use Rattle.footprint.specs.declared.marks.Mark.{Mark}
use Rattle.footprint.specs.declared.marks.Use.{Use}
use Rattle.footprint.specs.declared.marks.Use.TheVariants.{Write}

-- a byte of a buffer lies in a mark of this use
abbrev pub IsIn : Mark → Use → ℕ → ℕ → Type 0
IsIn mark how buffer byte = (how ≡ mark.how) × (buffer ≡ mark.buffer) × (mark.from ≤ byte) × (byte < mark.to)

-- a byte of a buffer is used so: it lies in one of the marks
abbrev pub Uses : List Mark → Use → ℕ → ℕ → Type 0
Uses marks how buffer byte = (mark : Mark) × Contains marks mark × IsIn mark how buffer byte

-- the bytes used are those from before, and for this use also those of a buffer from `from` up to `to`, without `to`
abbrev pub Adds : Use → ℕ → ℕ → ℕ → List Mark → List Mark → Type 0
Adds how buffer from to old new =
    (h : Use) (b x : ℕ) → Uses new h b x ↔ (Uses old h b x ⊎ ((h ≡ how) × (b ≡ buffer) × (from ≤ x) × (x < to)))

-- two uses of one byte conflict: one of them is a write
abbrev pub Conflict : Use → Use → Type 0
Conflict how other = (how ≡ Write) ⊎ (other ≡ Write)

-- the two use the byte in ways that conflict
abbrev pub ConflictAt : List Mark → List Mark → ℕ → ℕ → Type 0
ConflictAt f g buffer byte = (how : Use) × (other : Use) × Uses f how buffer byte × Uses g other buffer byte × Conflict how other

-- a lesser buffer, or a lesser byte of the same one
abbrev pub IsBefore : ℕ → ℕ → ℕ × ℕ → Type 0
IsBefore buffer byte place = (buffer < place.0) ⊎ ((buffer ≡ place.0) × (byte < place.1))
