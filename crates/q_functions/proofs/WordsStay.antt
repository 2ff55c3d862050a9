-- What a function of numbers gives is a word.
use Rattle.std.proofs.Common.{ℕ, ◌^◌, ◌<◌, List, arith, pos}
use Rattle.std.specs.Prelude.{◌-ℤ◌, unsigned_abs}
use Rattle.std.proofs.lemmas.Int.{ints}
use Rattle.std.proofs.lemmas.Nat.{leading_le, ones-le}
use Rattle.q_lane.specs.declared.kinds.Scalar.{Scalar}
use Rattle.q_lane.specs.declared.kinds.Scalar.TheVariants.{Char, Uchar, Short, Ushort, Int, Uint}
use Rattle.q_lane.specs.Numbers.{signed, width}
use Rattle.q_lane.proofs.WordLaws.{word_of-below, narrowed-below}
use Rattle.q_functions.specs.declared.functions.NumberFunction.{NumberFunction}
use Rattle.q_functions.specs.declared.functions.NumberFunction.TheVariants.{Min, Max, Clamp, Abs, AbsDiff, Mul24, MulHi, Rotate, Clz, Popcount, AddSat, SubSat}
use Rattle.q_functions.specs.NumberFunctions.{number, low_bits, built_in, argument, number_function}
use Rattle.q_functions.proofs.Turns.{width-few}

signed-below : (x : ℕ) → x < 2 ^ 32 → unsigned_abs (signed x) < 2 ^ 32
signed-below x h = omega (arith, ints)

number-below : (t : Scalar) (x : ℕ) → x < 2 ^ 32 → unsigned_abs (number t x) < 2 ^ 32
number-below Char x h = signed-below x h
number-below Uchar x h = h
number-below Short x h = signed-below x h
number-below Ushort x h = h
number-below Int x h = signed-below x h
number-below Uint x h = h

signed-apart : (x y : ℕ) → x < 2 ^ 32 → y < 2 ^ 32 → unsigned_abs (signed x -ℤ signed y) < 2 ^ 32
signed-apart x y h k = omega (arith, ints)

unsigned-apart : (x y : ℕ) → x < 2 ^ 32 → y < 2 ^ 32 → unsigned_abs (pos x -ℤ pos y) < 2 ^ 32
unsigned-apart x y h k = omega (arith, ints)

number-apart : (t : Scalar) (x y : ℕ) → x < 2 ^ 32 → y < 2 ^ 32 → unsigned_abs (number t x -ℤ number t y) < 2 ^ 32
number-apart Char x y h k = signed-apart x y h k
number-apart Uchar x y h k = unsigned-apart x y h k
number-apart Short x y h k = signed-apart x y h k
number-apart Ushort x y h k = unsigned-apart x y h k
number-apart Int x y h k = signed-apart x y h k
number-apart Uint x y h k = unsigned-apart x y h k

low-below : (t : Scalar) (x : ℕ) → low_bits t x < 2 ^ width t
low-below Char x = omega arith
low-below Uchar x = omega arith
low-below Short x = omega arith
low-below Ushort x = omega arith
low-below Int x = omega arith
low-below Uint x = omega arith

built_in-below : (f : NumberFunction) (t : Scalar) (x y z : ℕ) → x < 2 ^ 32 → y < 2 ^ 32 → built_in f t x y z < 2 ^ 32
unfolding built_in
built_in-below Min t x y z h k = word_of-below _
built_in-below Max t x y z h k = word_of-below _
built_in-below Clamp t x y z h k = word_of-below _
built_in-below Abs t x y z h k = number-below t x h
built_in-below AbsDiff t x y z h k = number-apart t x y h k
built_in-below Mul24 t x y z h k = word_of-below _
built_in-below MulHi t x y z h k = word_of-below _
built_in-below Rotate t x y z h k = narrowed-below t _
built_in-below Clz t x y z h k = let a = leading_le (width t) (low_bits t x) in let b = width-few t in omega (arith, a, b)
built_in-below Popcount t x y z h k = let a = ones-le (width t) (low_bits t x) (low-below t x) in let b = width-few t in omega (arith, a, b)
built_in-below AddSat t x y z h k = word_of-below _
built_in-below SubSat t x y z h k = word_of-below _

pub number_function-below : (f : NumberFunction) (t : Scalar) (xs : List ℕ) → number_function f t xs < 2 ^ 32
unfolding number_function
number_function-below f t xs = built_in-below f t (argument t xs 0) (argument t xs 1) (argument t xs 2) (narrowed-below t _) (narrowed-below t _)
