-- Moving one element between the memory and the VPM. The VPM is a list of rows, and a row a list of words. That a moved half or byte leaves the
-- other bytes of its word as they were is this project's own.
use Rattle.std.specs.Prelude.{ℕ, zero, suc, ◌+◌, ◌*◌, ◌/◌, ◌%◌, ◌^◌, List, [], ◌∷◌, if◌then◌else◌, ◌==◌, get_or, slice_set}
use Rattle.vpm_words.specs.declared.state.Element.{Element}

-- size bytes of a word, from this bit on
abbrev pub part_of : ℕ → ℕ → ℕ → ℕ
part_of low size word = word / 2 ^ low % 2 ^ (8 * size)

-- the word with that part replaced, and its other bytes as they were; four bytes are the whole word
abbrev pub with_part : ℕ → ℕ → ℕ → ℕ → ℕ
with_part low size word part =
    if size == 4 then part else word % 2 ^ low + part * 2 ^ low + word / 2 ^ (low + 8 * size) * 2 ^ (low + 8 * size)

-- the number in n bytes of the memory, the lowest byte first
abbrev pub number_at : ℕ → List ℕ → ℕ → ℕ
number_at zero memory at = 0
number_at (suc n) memory at = get_or memory at 0 + 2 ^ 8 * number_at n memory (at + 1)

-- the n low bytes of a number, the lowest first
abbrev pub bytes_of : ℕ → ℕ → List ℕ
bytes_of zero x = []
bytes_of (suc n) x = (x % 2 ^ 8) ∷ bytes_of n (x / 2 ^ 8)

-- the memory with these bytes from an address on
abbrev pub put_bytes : List ℕ → ℕ → List ℕ → List ℕ
put_bytes memory at [] = memory
put_bytes memory at (b ∷ bs) = put_bytes (slice_set memory at b) (at + 1) bs

-- a word of the VPM, and the VPM with this word there
abbrev pub cell : List (List ℕ) → ℕ → ℕ → ℕ
cell vpm row col = get_or (get_or vpm row []) col 0

abbrev pub with_cell : List (List ℕ) → ℕ → ℕ → ℕ → List (List ℕ)
with_cell vpm row col word = slice_set vpm row (slice_set (get_or vpm row []) col word)

-- the VPM after a load of this element
unfoldable pub load_element : Element → List ℕ → List (List ℕ) → List (List ℕ)
load_element e memory vpm =
    with_cell vpm e.row e.col (with_part e.low e.size (cell vpm e.row e.col) (number_at e.size memory e.address))

-- what a store of this element writes, and the memory after it
unfoldable pub bytes_out : Element → List (List ℕ) → List ℕ
bytes_out e vpm = bytes_of e.size (part_of e.low e.size (cell vpm e.row e.col))

unfoldable pub store_element : Element → List (List ℕ) → List ℕ → List ℕ
store_element e vpm memory = put_bytes memory e.address (bytes_out e vpm)

-- the same for all of these elements, in order
abbrev pub load_all : List Element → List ℕ → List (List ℕ) → List (List ℕ)
load_all [] memory vpm = vpm
load_all (e ∷ es) memory vpm = load_all es memory (load_element e memory vpm)

abbrev pub store_all : List Element → List (List ℕ) → List ℕ → List ℕ
store_all [] vpm memory = memory
store_all (e ∷ es) vpm memory = store_all es vpm (store_element e vpm memory)
