-- The built-in functions of numbers (OpenCL C 1.2, 6.12.3), on words. The word of a number is its sign-extended form where its type is signed and
-- narrower than int, and its zero-extended form where that is unsigned. What is this project's own: all arguments are converted to the one type in
-- which the function works; mul24 takes the low 24 bits of a number that has more; clz of 0 is the bits of the type.
use Rattle.std.specs.Prelude.{ℕ, ◌+◌, ◌-◌, ◌*◌, ◌/◌, ◌%◌, ◌^◌, Bool, true, false, if◌then◌else◌, List, ℤ, pos, ◌+ℤ◌, ◌-ℤ◌, ◌*ℤ◌, unsigned_abs, count_ones, get_or}
use Rattle.std.specs.Int.{int_min, int_max}
use Rattle.std.specs.Int.Count.{count_leading_zeros}
use Rattle.q_lane.specs.declared.kinds.Scalar.{Scalar}
use Rattle.q_lane.specs.declared.kinds.Scalar.TheVariants.{Char, Uchar, Short, Ushort, Int, Uint}
use Rattle.q_lane.specs.Numbers.{signed, word_of, shifted_down, width, extended, narrowed}
use Rattle.q_functions.specs.declared.functions.NumberFunction.{NumberFunction}
use Rattle.q_functions.specs.declared.functions.NumberFunction.TheVariants.{Min, Max, Clamp, Abs, AbsDiff, Mul24, MulHi, Rotate, Clz, Popcount, AddSat, SubSat}

-- ---- types

abbrev pub is_signed : Scalar → Bool
is_signed Char = true
is_signed Uchar = false
is_signed Short = true
is_signed Ushort = false
is_signed Int = true
is_signed Uint = false

-- how many bytes an element has
abbrev pub bytes_of : Scalar → ℕ
bytes_of Char = 1
bytes_of Uchar = 1
bytes_of Short = 2
bytes_of Ushort = 2
bytes_of Int = 4
bytes_of Uint = 4

-- the number of a type that a word stands for
abbrev pub number : Scalar → ℕ → ℤ
number t a = if is_signed t then signed a else pos a

-- the least and the greatest number of a type
abbrev pub least : Scalar → ℤ
least t = if is_signed t then pos 0 -ℤ pos (2 ^ (width t - 1)) else pos 0

abbrev pub greatest : Scalar → ℤ
greatest t = if is_signed t then pos (2 ^ (width t - 1)) -ℤ pos 1 else pos (2 ^ width t) -ℤ pos 1

-- the bits of a word that belong to a type
abbrev pub low_bits : Scalar → ℕ → ℕ
low_bits t a = a % 2 ^ width t

-- ---- functions

abbrev pub clamped : ℤ → ℤ → ℤ → ℤ
clamped x low high = int_min (int_max x low) high

-- the number of the low 24 bits, read as signed where the type is
abbrev pub low_24 : Scalar → ℕ → ℤ
low_24 t a = if is_signed t then signed (extended 24 (a % 2 ^ 24)) else pos (a % 2 ^ 24)

-- w bits turned left by n places, n below w: what leaves at the top comes in below
abbrev pub turned : ℕ → ℕ → ℕ → ℕ
turned w bits n = (bits * 2 ^ n + bits / 2 ^ (w - n)) % 2 ^ w

-- what a function gives of numbers of type t, which are x, y and z as words. The size of a number and that of a difference are of t's unsigned form
unfoldable pub built_in : NumberFunction → Scalar → (x y z : ℕ) → ℕ
built_in Min t x y z = word_of (int_min (number t x) (number t y))
built_in Max t x y z = word_of (int_max (number t x) (number t y))
built_in Clamp t x y z = word_of (clamped (number t x) (number t y) (number t z))
built_in Abs t x y z = unsigned_abs (number t x)
built_in AbsDiff t x y z = unsigned_abs (number t x -ℤ number t y)
built_in Mul24 t x y z = word_of (low_24 t x *ℤ low_24 t y)
built_in MulHi t x y z = word_of (shifted_down (number t x *ℤ number t y) (width t))
built_in Rotate t x y z = narrowed t (turned (width t) (low_bits t x) (y % width t))
built_in Clz t x y z = count_leading_zeros (width t) (low_bits t x)
built_in Popcount t x y z = count_ones (low_bits t x)
built_in AddSat t x y z = word_of (clamped (number t x +ℤ number t y) (least t) (greatest t))
built_in SubSat t x y z = word_of (clamped (number t x -ℤ number t y) (least t) (greatest t))

-- an argument, converted to type t; one that isn't there is 0, which no typed source asks for
abbrev pub argument : Scalar → List ℕ → ℕ → ℕ
argument t xs i = narrowed t (get_or xs i 0)

-- what a function that works in type t gives of these arguments
unfoldable pub number_function : NumberFunction → Scalar → List ℕ → ℕ
number_function f t xs = built_in f t (argument t xs 0) (argument t xs 1) (argument t xs 2)
