-- What each operation on words gives. A word is a number from 0 to 2^32 - 1.
-- The public sources are OpenCL C 1.2, sections 6.1 (types), 6.2 (conversions), 6.3 (operators) and 6.12.3 (integer functions), and, for
-- what the processor does itself (add, sub, min, max, and, or, xor, not, shl, shr, asr, clz, mul24), Broadcom, VideoCore IV 3D Architecture
-- Reference Guide, QPU chapter. Where these leave a value open the rule is this project's own: signed sums and products wrap, a shift of
-- a negative number to the right copies its sign, mul24 takes the low 24 bits of numbers outside its range, clz of 0 is 32, and what is
-- said at the quotient and the remainder.
-- Where an operation has a Bool, true reads both words as signed.
use Rattle.std.specs.Prelude.{ℕ, ◌+◌, ◌-◌, ◌*◌, ◌/◌, ◌%◌, ◌^◌, Bool, true, false, if◌then◌else◌, nat_lt, ◌==◌, bit_and, bit_or, bit_xor, count_ones, ℤ, pos, negsuc, ◌*ℤ◌, int_lt, int_div, int_rem}
use Rattle.std.specs.Int.{cast_signed, w32, int_div_euclid}
use Rattle.std.specs.Int.Count.{count_leading_zeros}
use Rattle.q_lane.specs.declared.kinds.Scalar.{Scalar}
use Rattle.q_lane.specs.declared.kinds.Scalar.TheVariants.{Char, Uchar, Short, Ushort, Int, Uint}
use Rattle.q_lane.specs.declared.operations.BinOp.{BinOp}
use Rattle.q_lane.specs.declared.operations.BinOp.TheVariants.{Add, Sub, Mul, MulHi, Div, Rem, And, Or, Xor, Shl, Shr, Sar, Min, Max, Less, Equal, Mul24}
use Rattle.q_lane.specs.declared.operations.UnOp.{UnOp}
use Rattle.q_lane.specs.declared.operations.UnOp.TheVariants.{Not, Neg, Clz, Popcount, Narrow}

-- what a word stands for where it is read as signed: itself below 2^31, and itself less 2^32 from 2^31 on
abbrev pub signed : ℕ → ℤ
signed a = cast_signed w32 a

-- the word of a whole number: the number mod 2^32 (negsuc n is -1 - n)
abbrev pub word_of : ℤ → ℕ
word_of (pos n) = n % 2 ^ 32
word_of (negsuc n) = 2 ^ 32 - 1 - n % 2 ^ 32

-- a whole number divided by 2^n, rounding down
abbrev pub shifted_down : ℤ → ℕ → ℤ
shifted_down z n = int_div_euclid z (pos (2 ^ n))

-- the high 32 of the 64 bits of the product
unfoldable pub high_product : Bool → ℕ → ℕ → ℕ
high_product false a b = a * b / 2 ^ 32
high_product true a b = word_of (shifted_down (signed a *ℤ signed b) 32)

-- the quotient rounded toward zero; x / 0 is 0, and -2^31 / -1 is the word of 2^31, which stands for -2^31 (both this project's own)
unfoldable pub quotient : Bool → ℕ → ℕ → ℕ
quotient false a b = if b == 0 then 0 else a / b
quotient true a b = if b == 0 then 0 else word_of (int_div (signed a) (signed b))

-- what that quotient leaves, with the dividend's sign; x % 0 is x (this project's own)
unfoldable pub remainder : Bool → ℕ → ℕ → ℕ
remainder false a b = if b == 0 then a else a % b
remainder true a b = if b == 0 then a else word_of (int_rem (signed a) (signed b))

-- a is below b
unfoldable pub is_less : Bool → ℕ → ℕ → Bool
is_less false a b = nat_lt a b
is_less true a b = int_lt (signed a) (signed b)

-- the word of a test
abbrev pub flag : Bool → ℕ
flag false = 0
flag true = 1

-- what an operation on two words gives
unfoldable pub applied : BinOp → ℕ → ℕ → ℕ
applied Add a b = (a + b) % 2 ^ 32
applied Sub a b = (a + (2 ^ 32 - b)) % 2 ^ 32
applied Mul a b = a * b % 2 ^ 32
applied (MulHi s) a b = high_product s a b
applied (Div s) a b = quotient s a b
applied (Rem s) a b = remainder s a b
applied And a b = bit_and a b
applied Or a b = bit_or a b
applied Xor a b = bit_xor a b
applied Shl a b = a * 2 ^ (b % 32) % 2 ^ 32
applied Shr a b = a / 2 ^ (b % 32)
applied Sar a b = word_of (shifted_down (signed a) (b % 32))
applied (Min s) a b = if is_less s a b then a else b
applied (Max s) a b = if is_less s a b then b else a
applied (Less s) a b = flag (is_less s a b)
applied Equal a b = flag (a == b)
applied Mul24 a b = a % 2 ^ 24 * (b % 2 ^ 24) % 2 ^ 32

-- how many bits a type has
abbrev pub width : Scalar → ℕ
width Char = 8
width Uchar = 8
width Short = 16
width Ushort = 16
width Int = 32
width Uint = 32

-- the word of a number of w bits that is read as signed: its top bit is copied to all bits above
abbrev pub extended : ℕ → ℕ → ℕ
extended w low = if nat_lt low (2 ^ (w - 1)) then low else low + (2 ^ 32 - 2 ^ w)

-- a word modulo 2 to the bits of a type, read in that type, as a word
unfoldable pub narrowed : Scalar → ℕ → ℕ
narrowed Char a = extended 8 (a % 2 ^ 8)
narrowed Uchar a = a % 2 ^ 8
narrowed Short a = extended 16 (a % 2 ^ 16)
narrowed Ushort a = a % 2 ^ 16
narrowed Int a = a % 2 ^ 32
narrowed Uint a = a % 2 ^ 32

-- what an operation on one word gives
unfoldable pub applied_one : UnOp → ℕ → ℕ
applied_one Not a = 2 ^ 32 - 1 - a
applied_one Neg a = (2 ^ 32 - a) % 2 ^ 32
applied_one Clz a = count_leading_zeros 32 a
applied_one Popcount a = count_ones a
applied_one (Narrow t) a = narrowed t a
