-- The arithmetic of types: the common type of two numbers, the type of one alone, the unsigned form, and the type in which an operator works
-- and that of what it gives (OpenCL C 1.2, 6.2.6; C99, 6.3.1 and 6.5). Typing and meaning both take these.
use Rattle.std.specs.Prelude.{Bool, true, false, ◌||◌}
use Rattle.clc_lexer.specs.declared.marks.Mark.{Mark}
use Rattle.clc_lexer.specs.declared.marks.Mark.TheVariants as m
use Rattle.q_lane.specs.declared.kinds.Scalar.{Scalar}
use Rattle.q_lane.specs.declared.kinds.Scalar.TheVariants.{Char, Uchar, Short, Ushort, Int, Uint}

abbrev pub same_scalar : Scalar → Scalar → Bool
same_scalar Char Char = true
same_scalar Uchar Uchar = true
same_scalar Short Short = true
same_scalar Ushort Ushort = true
same_scalar Int Int = true
same_scalar Uint Uint = true
same_scalar _ _ = false

-- the common type of two numbers, and the type of one alone
abbrev pub is_uint : Scalar → Bool
is_uint Uint = true
is_uint _ = false

abbrev pub int_or_uint : Bool → Scalar
int_or_uint true = Uint
int_or_uint false = Int

abbrev pub common : Scalar → Scalar → Scalar
common s t = int_or_uint (is_uint s || is_uint t)

abbrev pub promoted : Scalar → Scalar
promoted s = int_or_uint (is_uint s)

-- the unsigned type of the same width
abbrev pub unsigned_of : Scalar → Scalar
unsigned_of Char = Uchar
unsigned_of Uchar = Uchar
unsigned_of Short = Ushort
unsigned_of Ushort = Ushort
unsigned_of Int = Uint
unsigned_of Uint = Uint

-- ---- operators

pub data Operator : Type 0 where
  Sum : Operator
  Arithmetic : Operator
  Shift : Operator
  Truth : Operator
  Comma : Operator

abbrev pub operator_of : Mark → Operator
operator_of m.Plus = Sum
operator_of m.Minus = Sum
operator_of m.ShiftLeft = Shift
operator_of m.ShiftRight = Shift
operator_of m.Less = Truth
operator_of m.Greater = Truth
operator_of m.LessEqual = Truth
operator_of m.GreaterEqual = Truth
operator_of m.EqualEqual = Truth
operator_of m.BangEqual = Truth
operator_of m.AndAnd = Truth
operator_of m.OrOr = Truth
operator_of m.Comma = Comma
operator_of _ = Arithmetic

-- the type in which an operator works: a shift in that of its left operand
abbrev pub works_in : Operator → Scalar → Scalar → Scalar
works_in Shift s t = promoted s
works_in _ s t = common s t
