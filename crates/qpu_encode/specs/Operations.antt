-- What the QPU's operations mean on one element, over the operations on words of q_lane (Broadcom, VideoCore IV 3D Architecture Reference
-- Guide, QPU chapter: ALU instructions, condition codes, pack and unpack, small immediates). This project's own are Mul32, MulHs and
-- MulHu, and that clz of 0 is 32. A word is a number from 0 to 2^32 - 1.
use Rattle.std.specs.Prelude.{ℕ, ◌+◌, ◌-◌, ◌*◌, ◌/◌, ◌%◌, ◌^◌, Bool, true, false, not, ◌&&◌, ◌==◌, nat_le, if◌then◌else◌, min, List}
use Rattle.std.specs.List.{list_all, list_any}
use Rattle.q_lane.specs.declared.kinds.Scalar.TheVariants.{Short}
use Rattle.q_lane.specs.declared.operations.BinOp.TheVariants as word_op
use Rattle.q_lane.specs.declared.operations.UnOp.TheVariants as one_word
use Rattle.q_lane.specs.Numbers.{applied, applied_one, extended}
use Rattle.qpu_encode.specs.declared.form.AddOp.{AddOp}
use Rattle.qpu_encode.specs.declared.form.AddOp.TheVariants as add_op
use Rattle.qpu_encode.specs.declared.form.MulOp.{MulOp}
use Rattle.qpu_encode.specs.declared.form.MulOp.TheVariants as mul_op
use Rattle.qpu_encode.specs.declared.form.BraCond.{BraCond}
use Rattle.qpu_encode.specs.declared.form.BraCond.TheVariants as bra
use Rattle.qpu_encode.specs.declared.form.Cond.{Cond}
use Rattle.qpu_encode.specs.declared.form.Cond.TheVariants.{Never, Always, Zs, Zc, Ns, Nc}

-- a word turned by n bits toward its low end: what leaves there comes in above
abbrev pub turned : ℕ → ℕ → ℕ
turned a n = (a * 2 ^ 32 + a) / 2 ^ n % 2 ^ 32

-- what the add unit gives of two words; shifts take the low five bits of b. Without an operation the 0 goes nowhere
unfoldable pub add_value : AddOp → ℕ → ℕ → ℕ
add_value add_op.Nop a b = 0
add_value add_op.Add a b = applied word_op.Add a b
add_value add_op.Sub a b = applied word_op.Sub a b
add_value add_op.Shr a b = applied word_op.Shr a b
add_value add_op.Asr a b = applied word_op.Sar a b
add_value add_op.Ror a b = turned a (b % 32)
add_value add_op.Shl a b = applied word_op.Shl a b
add_value add_op.Min a b = applied (word_op.Min true) a b
add_value add_op.Max a b = applied (word_op.Max true) a b
add_value add_op.And a b = applied word_op.And a b
add_value add_op.Or a b = applied word_op.Or a b
add_value add_op.Xor a b = applied word_op.Xor a b
add_value add_op.Not a b = applied_one one_word.Not a
add_value add_op.Clz a b = applied_one one_word.Clz a
add_value add_op.Mul32 a b = applied word_op.Mul a b
add_value add_op.MulHs a b = applied (word_op.MulHi true) a b
add_value add_op.MulHu a b = applied (word_op.MulHi false) a b

-- byte k of a word, byte 0 the lowest
abbrev pub byte : ℕ → ℕ → ℕ
byte k a = a / 2 ^ (8 * k) % 2 ^ 8

-- the lesser of bytes k of two words
abbrev pub lesser_byte : ℕ → ℕ → ℕ → ℕ
lesser_byte k a b = min (byte k a) (byte k b)

-- what the mul unit gives of two words
unfoldable pub mul_value : MulOp → ℕ → ℕ → ℕ
mul_value mul_op.Nop a b = 0
mul_value mul_op.Mul24 a b = applied word_op.Mul24 a b
mul_value mul_op.V8Min a b = lesser_byte 0 a b + 2 ^ 8 * lesser_byte 1 a b + 2 ^ 16 * lesser_byte 2 a b + 2 ^ 24 * lesser_byte 3 a b

-- an element whose flags Z and N are these meets the condition
unfoldable pub passes : Cond → Bool → Bool → Bool
passes Never zero neg = false
passes Always zero neg = true
passes Zs zero neg = zero
passes Zc zero neg = not zero
passes Ns zero neg = neg
passes Nc zero neg = not neg

-- a branch with this condition is taken, where the flags Z and N of all elements are these
unfoldable pub holds : BraCond → List Bool → List Bool → Bool
holds bra.AllZ zero neg = list_all (λ z. z) zero
holds bra.AllNz zero neg = list_all (λ z. not z) zero
holds bra.AnyZ zero neg = list_any (λ z. z) zero
holds bra.AnyNz zero neg = list_any (λ z. not z) zero
holds bra.AllN zero neg = list_all (λ n. n) neg
holds bra.AllNn zero neg = list_all (λ n. not n) neg
holds bra.AnyN zero neg = list_any (λ n. n) neg
holds bra.AnyNn zero neg = list_any (λ n. not n) neg
holds bra.Always zero neg = true

-- the word that an unpack takes of one: the low or the high half with its sign, a byte, or all of it
unfoldable pub unpacked : ℕ → ℕ → ℕ
unpacked code a =
    if code == 1 then applied_one (one_word.Narrow Short) a
    else (if code == 2 then applied_one (one_word.Narrow Short) (a / 2 ^ 16)
    else (if nat_le 4 code && nat_le code 7 then byte (code - 4) a else a))

-- the word of a small immediate's code from 0 to 31: it is a number of five bits with its sign
unfoldable pub small_word : ℕ → ℕ
small_word code = extended 5 (code % 2 ^ 5)

-- how far a small immediate's code from 48 to 63 rotates the mul unit's result, where this is element 0 of r5: by 0 for the codes below
unfoldable pub rotation : ℕ → ℕ → ℕ
rotation code five = if code == 48 then five % 16 else code - 48
