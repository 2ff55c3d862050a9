-- What is kept of a byte while the items' marks are gone through in their order.
use Rattle.std.specs.Prelude.{ℕ, Bool, nat_eq, nat_le, nat_lt, ◌&&◌, if◌then◌else◌, List, [], ◌∷◌, slice_index_or}
use Rattle.footprint.specs.declared.marks.Mark.{Mark}
use Rattle.footprint.specs.declared.marks.Use.{Use}
use Rattle.footprint.specs.declared.marks.Use.TheVariants.{Read, Write}
use Rattle.touches.specs.declared.touch.Touch.{Touch}
use Rattle.touches.specs.declared.touch.Touch.TheVariants.{Untouched, OnlyRead, OneItem, Raced}

-- an item writes a byte that was only read before, by this one first
abbrev pub first_written : (first item : ℕ) → Touch
first_written first item = if nat_eq first item then OneItem item else Raced first item

-- after an item, the last so far, read or wrote the byte too
abbrev pub touched : Touch → (item : ℕ) → Use → Touch
touched Untouched item Read = OnlyRead item
touched Untouched item Write = OneItem item
touched (OnlyRead first) item Read = OnlyRead first
touched (OnlyRead first) item Write = first_written first item
touched (OneItem first) item how = if nat_eq first item then OneItem first else Raced first item
touched (Raced first second) item how = Raced first second

-- after an item, the last so far, used the bytes from `from` up to `to` of a buffer so, its byte of this number
abbrev pub part_touched : (from to item : ℕ) → Use → (byte : ℕ) → Touch → Touch
part_touched from to item how byte touch = if nat_le from byte && nat_lt byte to then touched touch item how else touch

-- a mark has this byte of this buffer
abbrev pub covers : Mark → (buffer byte : ℕ) → Bool
covers mark buffer byte = nat_eq buffer mark.buffer && (nat_le mark.from byte && nat_lt byte mark.to)

-- after this mark of an item
abbrev pub after_mark : Mark → (item buffer byte : ℕ) → Touch → Touch
after_mark mark item buffer byte touch = if covers mark buffer byte then touched touch item mark.how else touch

-- after these marks of an item
abbrev pub after_marks : List Mark → (item buffer byte : ℕ) → Touch → Touch
after_marks [] item buffer byte touch = touch
after_marks (mark ∷ more) item buffer byte touch = after_marks more item buffer byte (after_mark mark item buffer byte touch)

-- what a row keeps of a byte: past its end no byte was touched
abbrev pub byte_in : List Touch → (byte : ℕ) → Touch
byte_in row byte = slice_index_or row byte Untouched

-- what a table, a row for each buffer, keeps of a byte
abbrev pub byte_of : List (List Touch) → (buffer byte : ℕ) → Touch
byte_of rows buffer byte = byte_in (slice_index_or rows buffer []) byte
