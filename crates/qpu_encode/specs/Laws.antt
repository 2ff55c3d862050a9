-- Laws of the operations and of the forms in the profile, over all operations, all words and all forms.
use Rattle.std.specs.Prelude.{◌≡◌, ℕ, ◌^◌, ◌<◌, ◌≤◌, nat_abs, true}
use Rattle.qpu_encode.specs.declared.form.AddOp.{AddOp}
use Rattle.qpu_encode.specs.declared.form.MulOp.{MulOp}
use Rattle.qpu_encode.specs.declared.form.AddPart.{AddPart}
use Rattle.qpu_encode.specs.declared.form.MulPart.{MulPart}
use Rattle.qpu_encode.specs.declared.form.Form.{Form}
use Rattle.qpu_encode.specs.declared.form.Form.TheVariants.{Alu, Ldi, Bra}
use Rattle.qpu_encode.specs.Operations.{add_value, mul_value, unpacked, small_word}
use Rattle.qpu_encode.specs.WordFields.{is_in_profile}

-- the add unit gives a word of two words
abbrev pub AddGivesWord : Type 0
AddGivesWord = (op : AddOp) (a b : ℕ) → a < 2 ^ 32 → b < 2 ^ 32 → add_value op a b < 2 ^ 32

-- the mul unit gives a word of two words
abbrev pub MulGivesWord : Type 0
MulGivesWord = (op : MulOp) (a b : ℕ) → a < 2 ^ 32 → b < 2 ^ 32 → mul_value op a b < 2 ^ 32

-- an unpack takes a word of a word, whatever its code
abbrev pub UnpackGivesWord : Type 0
UnpackGivesWord = (code a : ℕ) → a < 2 ^ 32 → unpacked code a < 2 ^ 32

-- a small immediate is a word, whatever its code
abbrev pub SmallIsWord : Type 0
SmallIsWord = (code : ℕ) → small_word code < 2 ^ 32

-- the fields of the add unit fit their bits
pub record AddInRange (add : AddPart) : Type 0 where
  pub dst : add.dst < 64
  pub a : add.a < 8
  pub b : add.b < 8

-- the fields of the mul unit fit their bits
pub record MulInRange (mul : MulPart) : Type 0 where
  pub dst : mul.dst < 64
  pub a : mul.a < 8
  pub b : mul.b < 8

-- the fields of an ALU word fit their bits
pub record AluInRange (unpack : ℕ) (add : AddPart) (mul : MulPart) (ra rb : ℕ) : Type 0 where
  pub unpack_fits : unpack < 8
  pub add_fits : AddInRange add
  pub mul_fits : MulInRange mul
  pub ra_fits : ra < 64
  pub rb_fits : rb < 64

-- the fields of a load immediate fit their bits
pub record LdiInRange (add_dst mul_dst value : ℕ) : Type 0 where
  pub add_fits : add_dst < 64
  pub mul_fits : mul_dst < 64
  pub value_fits : value < 2 ^ 32

-- the fields of a form fit their bits
abbrev pub InRange : Form → Type 0
InRange (Alu head unpack add mul flags swap ra rb) = AluInRange unpack add mul ra rb
InRange (Ldi add_cond mul_cond swap add_dst mul_dst value) = LdiInRange add_dst mul_dst value
InRange (Bra c words) = nat_abs words ≤ 2 ^ 28

-- those of a form in the profile do
abbrev pub FormInRange : Type 0
FormInRange = (form : Form) → is_in_profile form ≡ true → InRange form
