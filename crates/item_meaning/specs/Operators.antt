-- What the operators and conversions of the language give (OpenCL C 1.2, 6.2 and 6.3).
-- A number is the word of its type: its zero- or sign-extended form where the type is narrower than int. So the conversion of a narrow number to int, of
-- an int to uint, and back, changes no word.
use Rattle.std.specs.Prelude.{ℕ, zero, suc, ◌+◌, ◌-◌, ◌*◌, ◌%◌, ◌^◌, Bool, true, false, not, ◌==◌, if◌then◌else◌}
use Rattle.clc_lexer.specs.declared.marks.Mark.{Mark}
use Rattle.clc_lexer.specs.declared.marks.Mark.TheVariants as m
use Rattle.q_lane.specs.declared.kinds.Scalar.{Scalar}
use Rattle.q_lane.specs.declared.kinds.Scalar.TheVariants.{Char, Uchar, Short, Ushort, Int, Uint}
use Rattle.q_lane.specs.declared.operations.BinOp.TheVariants.{Add, Sub, Mul, Div, Rem, And, Or, Xor, Shl, Shr, Sar, Equal}
use Rattle.q_lane.specs.declared.operations.UnOp.TheVariants.{Not, Neg}
use Rattle.q_lane.specs.Numbers.{applied, applied_one, narrowed, is_less, flag}
use Rattle.q_functions.specs.NumberFunctions.{is_signed, bytes_of}
use Rattle.clc_types.specs.declared.typed.Ty.{Ty}
use Rattle.clc_types.specs.declared.typed.Ty.TheVariants as ty
use Rattle.item_meaning.specs.declared.values.Value.{Value}
use Rattle.item_meaning.specs.declared.values.Value.TheVariants.{Num, Null, At}
use Rattle.clc_types.specs.TypeArithmetic.{operator_of, works_in}
use Rattle.clc_types.specs.Rules.{result_of, ty_of}
use Rattle.clc_types.specs.WellTyped.{kind_of_type}

-- ---- types

-- a number's type, or that of the elements behind a pointer
abbrev pub scalar_of : Ty → Scalar
scalar_of ty.Void = Int
scalar_of (ty.Value s) = s
scalar_of (ty.Pointer e c) = e

-- the type that an operator's result has, by the types of its operands
abbrev pub type_after : Mark → Ty → Ty → Ty
type_after o a b = ty_of (result_of (operator_of o) (kind_of_type a) (kind_of_type b))

-- ---- numbers

-- right shifts of an int copy its sign
abbrev pub shifted_right : Bool → ℕ → ℕ → ℕ
shifted_right true a b = applied Sar a b
shifted_right false a b = applied Shr a b

-- an operator in int or uint
abbrev pub binary : Scalar → Mark → ℕ → ℕ → ℕ
binary t m.Plus a b = applied Add a b
binary t m.Minus a b = applied Sub a b
binary t m.Star a b = applied Mul a b
binary t m.Slash a b = applied (Div (is_signed t)) a b
binary t m.Percent a b = applied (Rem (is_signed t)) a b
binary t m.Ampersand a b = applied And a b
binary t m.Bar a b = applied Or a b
binary t m.Caret a b = applied Xor a b
binary t m.ShiftLeft a b = applied Shl a b
binary t m.ShiftRight a b = shifted_right (is_signed t) a b
binary t m.Less a b = flag (is_less (is_signed t) a b)
binary t m.Greater a b = flag (is_less (is_signed t) b a)
binary t m.LessEqual a b = flag (not (is_less (is_signed t) b a))
binary t m.GreaterEqual a b = flag (not (is_less (is_signed t) a b))
binary t m.EqualEqual a b = flag (a == b)
binary t m.BangEqual a b = flag (not (a == b))
binary t _ a b = 0

-- the operator in a compound assignment
abbrev pub operator_in : Mark → Mark
operator_in m.PlusAssign = m.Plus
operator_in m.MinusAssign = m.Minus
operator_in m.StarAssign = m.Star
operator_in m.SlashAssign = m.Slash
operator_in m.PercentAssign = m.Percent
operator_in m.ShiftLeftAssign = m.ShiftLeft
operator_in m.ShiftRightAssign = m.ShiftRight
operator_in m.AndAssign = m.Ampersand
operator_in m.OrAssign = m.Bar
operator_in m.XorAssign = m.Caret
operator_in o = o

-- `+`, `-`, `~` and `!` before a number
abbrev pub prefixed : Mark → ℕ → ℕ
prefixed m.Minus a = applied_one Neg a
prefixed m.Tilde a = applied_one Not a
prefixed m.Bang a = flag (a == 0)
prefixed _ a = a

-- ---- values. In a typed tree no operator meets a value of another kind than those that its first lines name; it would give null

abbrev pub on_word : (ℕ → ℕ) → Value → Value
on_word f (Num a) = Num (f a)
on_word f Null = Null
on_word f (At k o) = Null

abbrev pub on_words : (ℕ → ℕ → ℕ) → Value → Value → Value
on_words f (Num a) (Num b) = Num (f a b)
on_words f (Num a) Null = Null
on_words f (Num a) (At k o) = Null
on_words f Null y = Null
on_words f (At k o) y = Null

-- a number's truth, as an int
abbrev pub truth : Value → Value
truth v = on_word (λ a. flag (not (a == 0))) v

-- a pointer moved forward by a number of elements of so many bytes; a null pointer stays null
abbrev pub forward : ℕ → Value → Value → Value
forward size (At k o) (Num n) = At k ((o + size * n) % 2 ^ 32)
forward size (At k o) Null = Null
forward size (At k o) (At l n) = Null
forward size Null y = Null
forward size (Num a) y = Null

-- and back
abbrev pub backward : ℕ → Value → Value → Value
backward size (At k o) (Num n) = At k ((o + (2 ^ 32 - size * n % 2 ^ 32)) % 2 ^ 32)
backward size (At k o) Null = Null
backward size (At k o) (At l n) = Null
backward size Null y = Null
backward size (Num a) y = Null

abbrev pub moved : Mark → ℕ → Value → Value → Value
moved m.Minus size p n = backward size p n
moved _ size p n = forward size p n

-- an operator between values of these types, but `&&`, `||` and the comma
abbrev pub combined : Ty → Mark → Ty → Value → Value → Value
combined (ty.Value s) o (ty.Value t) x y = on_words (binary (works_in (operator_of o) s t) o) x y
combined (ty.Pointer e c) o (ty.Value t) x y = moved o (bytes_of e) x y
combined (ty.Value s) o (ty.Pointer e c) x y = moved o (bytes_of e) y x
combined _ o _ x y = Null

-- a value as one of a type; a pointer stays as it is
abbrev pub converted : Ty → Value → Value
converted (ty.Value s) v = on_word (narrowed s) v
converted (ty.Pointer e c) (At k o) = At k o
converted (ty.Pointer e c) _ = Null
converted ty.Void v = Null
