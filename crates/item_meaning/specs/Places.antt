-- Variables and elements: what they are read and written by.
use Rattle.std.specs.Prelude.{ℕ, zero, suc, ◌+◌, ◌-◌, ◌*◌, ◌/◌, ◌%◌, ◌^◌, Bool, true, false, ◌&&◌, ◌==◌, nat_le, nat_lt, List, [], ◌∷◌, ◌++◌, length, slice_index, slice_set, slice_index_or, if◌then◌else◌}
use Rattle.footprint.specs.declared.marks.Mark.{Mark}
use Rattle.footprint.specs.declared.marks.Use.{Use}
use Rattle.footprint.specs.declared.marks.Use.TheVariants.{Read, Write}
use Rattle.q_lane.specs.declared.kinds.Scalar.{Scalar}
use Rattle.q_lane.specs.Numbers.{narrowed}
use Rattle.clc_types.specs.declared.typed.Ty.{Ty}
use Rattle.item_meaning.specs.declared.values.Value.{Value}
use Rattle.item_meaning.specs.declared.values.Value.TheVariants.{Num, Null, At}
pub use Rattle.item_meaning.specs.declared.values.Place.{Place}
pub use Rattle.item_meaning.specs.declared.values.Place.TheVariants.{Variable, Cell, Behind, Nowhere}
use Rattle.item_meaning.specs.ItemState.{State, Run, Goes, Bounds, Spent}
use Rattle.q_functions.specs.NumberFunctions.{bytes_of}
use Rattle.item_meaning.specs.Operators.{scalar_of, converted}

-- ---- bytes of buffers

-- the number of so many bytes, the lowest first
abbrev pub number_at : (count : ℕ) → List ℕ → (from : ℕ) → ℕ
number_at zero bytes from = 0
number_at (suc n) bytes from = slice_index bytes from + 2 ^ 8 * number_at n bytes (suc from)

abbrev pub buffer_of : List (List ℕ) → ℕ → List ℕ
buffer_of buffers k = slice_index_or buffers k []

-- the buffers with one byte changed
abbrev pub with_byte : List (List ℕ) → (buffer byte value : ℕ) → List (List ℕ)
with_byte buffers k o b = slice_set buffers k (slice_set (buffer_of buffers k) o b)

-- with the lowest so many bytes of a word stored, the lowest first
abbrev pub with_bytes : (count : ℕ) → List (List ℕ) → (buffer from word : ℕ) → List (List ℕ)
with_bytes zero buffers k o x = buffers
with_bytes (suc n) buffers k o x = with_bytes n (with_byte buffers k o (x % 2 ^ 8)) k (suc o) (x / 2 ^ 8)

-- an element of this type may be accessed here: at a multiple of its size, within the buffer
abbrev pub in_bounds : Scalar → List (List ℕ) → (buffer offset : ℕ) → Bool
in_bounds t buffers k o = o % bytes_of t == 0 && nat_le (o + bytes_of t) (length (buffer_of buffers k))

abbrev pub mark : Use → Scalar → (buffer offset : ℕ) → Mark
mark how t k o = record { how = how; buffer = k; from = o; to = o + bytes_of t }

-- an element behind a pointer is read, by an access that begins at byte `at` of the source
abbrev pub load : (at : ℕ) → Scalar → Value → State → Run Value
load at t (At k o) s =
    if in_bounds t s.buffers k o
    then Goes (Num (narrowed t (number_at (bytes_of t) (buffer_of s.buffers k) o))) (record s { marks = mark Read t k o ∷ s.marks })
    else Bounds at
load at t Null s = Bounds at
load at t (Num w) s = Bounds at

-- a number is stored behind a pointer
abbrev pub store : (at : ℕ) → Scalar → Value → (word : ℕ) → State → Run Value
store at t (At k o) x s =
    if in_bounds t s.buffers k o
    then Goes (Num x) (record s { buffers = with_bytes (bytes_of t) s.buffers k o x; marks = mark Write t k o ∷ s.marks })
    else Bounds at
store at t Null x s = Bounds at
store at t (Num w) x s = Bounds at

-- ---- arrays of the work-item's own

abbrev pub array_of : List (List ℕ) → ℕ → List ℕ
array_of arrays v = slice_index_or arrays v []

-- an index below 0 is a word above any length
abbrev pub get_element : (at var index : ℕ) → State → Run Value
get_element at v i s = if nat_lt i (length (array_of s.arrays v)) then Goes (Num (slice_index (array_of s.arrays v) i)) s else Bounds at

abbrev pub set_element : (at var index word : ℕ) → State → Run Value
set_element at v i x s =
    if nat_lt i (length (array_of s.arrays v))
    then Goes (Num x) (record s { arrays = slice_set s.arrays v (slice_set (array_of s.arrays v) i x) })
    else Bounds at

-- ---- places

abbrev pub at_index : Value → (ℕ → Run Value) → Run Value
at_index (Num i) go = go i
at_index Null go = Spent
at_index (At k o) go = Spent

-- a place of this type is read
abbrev pub read : Ty → Place → State → Run Value
read t (Variable v) s = Goes (slice_index_or s.vars v Null) s
read t (Cell at v i) s = at_index i (λ j. get_element at v j s)
read t (Behind at p) s = load at (scalar_of t) p s
read t Nowhere s = Spent

abbrev pub store_value : Ty → Place → Value → State → Run Value
store_value t (Variable v) x s = Goes x (record s { vars = slice_set s.vars v x })
store_value t (Cell at v i) (Num x) s = at_index i (λ j. set_element at v j x s)
store_value t (Cell at v i) _ s = Spent
store_value t (Behind at p) (Num x) s = store at (scalar_of t) p x s
store_value t (Behind at p) _ s = Spent
store_value t Nowhere x s = Spent

-- a value is converted to the place's type and stored there, and that is the result
abbrev pub write : Ty → Place → Value → State → Run Value
write t q x s = store_value t q (converted t x) s
