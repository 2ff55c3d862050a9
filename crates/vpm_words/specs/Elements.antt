-- The elements of a transfer. The place in a VPM word where a half or a byte lands is this project's own.
use Rattle.std.specs.Prelude.{ℕ, ◌+◌, ◌-◌, ◌*◌, ◌^◌, List, map, Bool, if◌then◌else◌, nat_le, nat_lt, ◌==◌, ◌&&◌}
use Rattle.std.specs.List.{range_with_len}
use Rattle.vpm_words.specs.declared.state.Element.{Element}
use Rattle.vpm_words.specs.Piece.{Piece}

-- how many bytes an element has: a word, a half or a byte
abbrev pub size_of : ℕ → ℕ
size_of mode = if mode == 0 then 4 else (if nat_le mode 3 then 2 else 1)

-- the bit of its VPM word where it begins: half 0 or 1 of modes 2 and 3, byte 0 to 3 of modes 4 to 7
abbrev pub low_of : ℕ → ℕ
low_of mode = if mode == 0 then 0 else (if nat_le mode 3 then 16 * (mode - 2) else 8 * (mode - 4))

-- element j stands j sizes after the address, and j columns after the first
abbrev pub element_at : ℕ → Piece → ℕ → Element
element_at address t j =
    record { address = address + size_of t.mode * j; size = size_of t.mode; row = t.row; col = t.col + j; low = low_of t.mode }

unfoldable pub elements_of : ℕ → Piece → List Element
elements_of address t = map (element_at address t) (range_with_len 0 t.len)

abbrev pub is_in_row : ℕ → Element → Bool
is_in_row row e = e.row == row

-- what every element of a started transfer is: one of the VPM's words, at most its four bytes, and an address that leaves room for its end
unfoldable pub is_element : Element → Bool
is_element e = ((nat_lt e.row 64 && nat_lt e.col 16) && (nat_le e.size 4 && nat_le (e.low + 8 * e.size) 32)) && nat_lt e.address (2 ^ 33)
