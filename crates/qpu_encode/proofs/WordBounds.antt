-- What the operations give is a word, and the fields of a form in the profile fit their bits.
use Rattle.std.specs.Prelude.{◌≡◌, ℕ, ◌+◌, ◌-◌, ◌*◌, ◌/◌, ◌%◌, ◌^◌, ◌<◌, ◌≤◌, ◌&&◌, ◌==◌, min, nat_lt, nat_le, ℤ, nat_abs, Bool, true, false, if◌then◌else◌}
use Rattle.std.proofs.Common.{arith}
use Rattle.std.proofs.Math.Nat.{mod-lt}
use Rattle.std.proofs.lemmas.Nat.{pow_pos}
use Rattle.q_lane.specs.declared.kinds.Scalar.TheVariants.{Short}
use Rattle.q_lane.specs.declared.operations.BinOp.TheVariants as word_op
use Rattle.q_lane.specs.declared.operations.UnOp.TheVariants as one_word
use Rattle.q_lane.specs.Numbers.{applied_one}
use Rattle.q_lane.proofs.WordLaws.{applied-below, applied_one-below, narrowed-below}
use Rattle.qpu_encode.specs.declared.form.AddOp.{AddOp}
use Rattle.qpu_encode.specs.declared.form.AddOp.TheVariants as add_op
use Rattle.qpu_encode.specs.declared.form.MulOp.{MulOp}
use Rattle.qpu_encode.specs.declared.form.MulOp.TheVariants as mul_op
use Rattle.qpu_encode.specs.declared.form.AddPart.{AddPart}
use Rattle.qpu_encode.specs.declared.form.MulPart.{MulPart}
use Rattle.qpu_encode.specs.declared.form.BraCond.{BraCond}
use Rattle.qpu_encode.specs.declared.form.Head.{Head}
use Rattle.qpu_encode.specs.declared.form.Form.{Form}
use Rattle.qpu_encode.specs.declared.form.Form.TheVariants.{Alu, Ldi, Bra}
use Rattle.qpu_encode.specs.Operations.{turned, add_value, byte, lesser_byte, mul_value, unpacked, small_word}
use Rattle.qpu_encode.specs.WordFields.{is_in_profile}
use Rattle.qpu_encode.specs.Laws.{AluInRange, InRange}
use Rattle.qpu_encode.proofs.RoundTrip.{alu_fits, ldi_fits, distance_size}

-- a choice between two numbers below a bound is below it
chosen-below : (t : Bool) (x y n : ℕ) → x < n → y < n → (if t then x else y) < n
chosen-below true x y n h k = h
chosen-below false x y n h k = k

-- ---- words stay words

-- a word turned is a word
pub turned-below : (a n : ℕ) → turned a n < 2 ^ 32
turned-below a n = mod-lt ((a * 2 ^ 32 + a) / 2 ^ n) (pow_pos 32)

-- the add unit gives a word
pub add_value-below : (op : AddOp) (a b : ℕ) → a < 2 ^ 32 → b < 2 ^ 32 → add_value op a b < 2 ^ 32
unfolding add_value
add_value-below add_op.Nop a b h k = omega arith
add_value-below add_op.Add a b h k = applied-below word_op.Add a b h k
add_value-below add_op.Sub a b h k = applied-below word_op.Sub a b h k
add_value-below add_op.Shr a b h k = applied-below word_op.Shr a b h k
add_value-below add_op.Asr a b h k = applied-below word_op.Sar a b h k
add_value-below add_op.Ror a b h k = turned-below a (b % 32)
add_value-below add_op.Shl a b h k = applied-below word_op.Shl a b h k
add_value-below add_op.Min a b h k = applied-below (word_op.Min true) a b h k
add_value-below add_op.Max a b h k = applied-below (word_op.Max true) a b h k
add_value-below add_op.And a b h k = applied-below word_op.And a b h k
add_value-below add_op.Or a b h k = applied-below word_op.Or a b h k
add_value-below add_op.Xor a b h k = applied-below word_op.Xor a b h k
add_value-below add_op.Not a b h k = applied_one-below one_word.Not a h
add_value-below add_op.Clz a b h k = applied_one-below one_word.Clz a h
add_value-below add_op.Mul32 a b h k = applied-below word_op.Mul a b h k
add_value-below add_op.MulHs a b h k = applied-below (word_op.MulHi true) a b h k
add_value-below add_op.MulHu a b h k = applied-below (word_op.MulHi false) a b h k

-- a byte of a number
pub byte-below : (k a : ℕ) → byte k a < 2 ^ 8
byte-below k a = mod-lt (a / 2 ^ (8 * k)) (pow_pos 8)

min-below : (x y n : ℕ) → x < n → min x y < n
min-below x y n h = omega arith

-- the lesser of two bytes is a byte
pub lesser_byte-below : (k a b : ℕ) → lesser_byte k a b < 2 ^ 8
lesser_byte-below k a b = min-below (byte k a) (byte k b) (2 ^ 8) (byte-below k a)

-- four bytes make a word
four_bytes-below : (p q r s : ℕ) → p < 2 ^ 8 → q < 2 ^ 8 → r < 2 ^ 8 → s < 2 ^ 8 → p + 2 ^ 8 * q + 2 ^ 16 * r + 2 ^ 24 * s < 2 ^ 32
four_bytes-below p q r s h1 h2 h3 h4 = omega arith

-- the mul unit gives a word
pub mul_value-below : (op : MulOp) (a b : ℕ) → a < 2 ^ 32 → b < 2 ^ 32 → mul_value op a b < 2 ^ 32
unfolding mul_value
mul_value-below mul_op.Nop a b h k = omega arith
mul_value-below mul_op.Mul24 a b h k = applied-below word_op.Mul24 a b h k
mul_value-below mul_op.V8Min a b h k =
    four_bytes-below (lesser_byte 0 a b) (lesser_byte 1 a b) (lesser_byte 2 a b) (lesser_byte 3 a b)
    (lesser_byte-below 0 a b) (lesser_byte-below 1 a b) (lesser_byte-below 2 a b) (lesser_byte-below 3 a b)

-- a half of a word with its sign, even of a number that is no word
half-below : (a : ℕ) → applied_one (one_word.Narrow Short) a < 2 ^ 32
unfolding applied_one
half-below a = narrowed-below Short a

byte_is_word : (k a : ℕ) → byte k a < 2 ^ 32
byte_is_word k a = let small : byte k a < 2 ^ 8 = byte-below k a in omega (arith, small)

-- an unpack takes a word
pub unpacked-below : (code a : ℕ) → a < 2 ^ 32 → unpacked code a < 2 ^ 32
unfolding unpacked
unpacked-below code a h =
    chosen-below (code == 1) (applied_one (one_word.Narrow Short) a) _ (2 ^ 32) (half-below a)
    (chosen-below (code == 2) (applied_one (one_word.Narrow Short) (a / 2 ^ 16)) _ (2 ^ 32) (half-below (a / 2 ^ 16))
    (chosen-below (nat_le 4 code && nat_le code 7) (byte (code - 4) a) a (2 ^ 32) (byte_is_word (code - 4) a) h))

extended_5-below : (low : ℕ) → low < 2 ^ 5 → (if nat_lt low (2 ^ 4) then low else low + (2 ^ 32 - 2 ^ 5)) < 2 ^ 32
extended_5-below low h = chosen-below (nat_lt low (2 ^ 4)) low (low + (2 ^ 32 - 2 ^ 5)) (2 ^ 32) (omega arith) (omega arith)

-- a small immediate is a word
pub small_word-below : (code : ℕ) → small_word code < 2 ^ 32
unfolding small_word
small_word-below code = extended_5-below (code % 2 ^ 5) (mod-lt code (pow_pos 5))

-- ---- fields of a form

alu_in_range : (head : Head) (unpack : ℕ) (add : AddPart) (mul : MulPart) (flags swap : Bool) (ra rb : ℕ)
    → is_in_profile (Alu head unpack add mul flags swap ra rb) ≡ true → AluInRange unpack add mul ra rb
alu_in_range head unpack add mul flags swap ra rb h =
    let f = alu_fits head unpack add mul flags swap ra rb h in
    record {
      unpack_fits = f.1.1.1.1.1.1.1.1.1.1.1.1.1.1.1.1.0;
      add_fits = record { dst = f.1.1.1.1.1.1.1.1.1.0; a = f.1.1.1.0; b = f.1.1.0 };
      mul_fits = record { dst = f.1.1.1.1.1.1.1.1.0; a = f.1.0; b = f.0 };
      ra_fits = f.1.1.1.1.1.0;
      rb_fits = f.1.1.1.1.0;
    }

bra_in_range : (c : BraCond) (words : ℤ) → is_in_profile (Bra c words) ≡ true → nat_abs words ≤ 2 ^ 28
unfolding is_in_profile
bra_in_range c words h = distance_size words h

-- the fields of a form in the profile fit their bits
pub form_in_range : (form : Form) → is_in_profile form ≡ true → InRange form
form_in_range (Alu head unpack add mul flags swap ra rb) h = alu_in_range head unpack add mul flags swap ra rb h
form_in_range (Ldi add_cond mul_cond swap add_dst mul_dst value) h =
    let f = ldi_fits add_cond mul_cond swap add_dst mul_dst value h in
    record { add_fits = f.1.1.0; mul_fits = f.1.0; value_fits = f.0 }
form_in_range (Bra c words) h = bra_in_range c words h
