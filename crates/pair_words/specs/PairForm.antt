-- The word of a pair.
use Rattle.std.specs.Prelude.{ℕ, Bool, false, ◌||◌, if◌then◌else◌, Option, Some, None}
use Rattle.qpu_encode.specs.declared.form.AddOp.{AddOp}
use Rattle.qpu_encode.specs.declared.form.AddOp.TheVariants as add_op
use Rattle.qpu_encode.specs.declared.form.MulOp.TheVariants as mul_op
use Rattle.qpu_encode.specs.declared.form.AddPart.{AddPart}
use Rattle.qpu_encode.specs.declared.form.MulPart.{MulPart}
use Rattle.qpu_encode.specs.declared.form.Cond.TheVariants.{Never}
use Rattle.qpu_encode.specs.declared.form.Head.{Head}
use Rattle.qpu_encode.specs.declared.form.Head.TheVariants.{Plain, Small}
use Rattle.qpu_encode.specs.declared.form.Form.{Form}
use Rattle.qpu_encode.specs.declared.form.Form.TheVariants.{Alu, Ldi}
use Rattle.vop_ir.specs.declared.form.Op.{Op}
use Rattle.vop_ir.specs.declared.form.Op.TheVariants as op
use Rattle.phys_ir.specs.declared.form.PSrc.{PSrc}
use Rattle.phys_ir.specs.declared.form.PSrc.TheVariants as psrc
use Rattle.phys_ir.specs.declared.form.Pop.{Pop}
use Rattle.phys_ir.specs.declared.form.Pair.{Pair}
use Rattle.pair_words.specs.declared.reads.Ports.{Ports}
use Rattle.pair_words.specs.Reads.{nowhere, ports_of, selector, selector_of_op}
use Rattle.pair_words.specs.Writes.{address_of, swaps}
use Rattle.tight_words.specs.Meaning.{is_nop}

abbrev pub no_add : AddPart
no_add = record { op = add_op.Nop; cond = Never; dst = nowhere; a = 0; b = 0 }

abbrev pub no_mul : MulPart
no_mul = record { op = mul_op.Nop; cond = Never; dst = nowhere; a = 0; b = 0 }

abbrev pub add_by : Bool → Pop → AddOp → AddPart
add_by in_b o x = record { op = x; cond = o.cond; dst = address_of o.dst; a = selector in_b o.a; b = selector in_b o.b }

-- the mutex or a wait: its read is taken twice by an `or`
abbrev pub add_by_read : ℕ → Pop → AddPart
add_by_read s o = record { op = add_op.Or; cond = o.cond; dst = address_of o.dst; a = s; b = s }

abbrev pub add_of : Bool → Pop → Op → AddPart
add_of in_b o (op.Add x) = if is_nop x then no_add else add_by in_b o x
add_of in_b o (op.Mul x) = no_add
add_of in_b o op.Lock = add_by_read (selector_of_op in_b op.Lock) o
add_of in_b o op.WaitLoad = add_by_read (selector_of_op in_b op.WaitLoad) o
add_of in_b o op.WaitStore = add_by_read (selector_of_op in_b op.WaitStore) o

abbrev pub add_part : Bool → Option Pop → AddPart
add_part in_b None = no_add
add_part in_b (Some o) = add_of in_b o o.op

abbrev pub mul_of : Bool → Pop → Op → MulPart
mul_of in_b o (op.Mul x) = record { op = x; cond = o.cond; dst = address_of o.dst; a = selector in_b o.a; b = selector in_b o.b }
mul_of in_b o (op.Add x) = no_mul
mul_of in_b o op.Lock = no_mul
mul_of in_b o op.WaitLoad = no_mul
mul_of in_b o op.WaitStore = no_mul

abbrev pub mul_part : Bool → Option Pop → MulPart
mul_part in_b None = no_mul
mul_part in_b (Some o) = mul_of in_b o o.op

abbrev pub unpack_of : Option Pop → ℕ
unpack_of None = 0
unpack_of (Some o) = o.unpack

abbrev pub flags_of : Option Pop → Bool
flags_of None = false
flags_of (Some o) = o.flags

abbrev pub head_by : Bool → Head
head_by small = if small then Small else Plain

abbrev pub form_at_ports : Pair → Ports → Form
form_at_ports p x =
    Alu (head_by x.small) (unpack_of p.add) (add_part x.in_b p.add) (mul_part x.in_b p.mul) (flags_of p.add || flags_of p.mul) (swaps p) x.ra x.rb

abbrev pub alu_form : Pair → Form
alu_form p = form_at_ports p (ports_of p)

-- a word in all elements is a load immediate, alone in its pair
abbrev pub load_form : Pair → Pop → ℕ → Form
load_form p o value = Ldi o.cond Never (swaps p) (address_of o.dst) nowhere value

abbrev pub form_by : Pair → Pop → PSrc → Form
form_by p o (psrc.Word value) = load_form p o value
form_by p o (psrc.A r) = alu_form p
form_by p o (psrc.B r) = alu_form p
form_by p o (psrc.Acc r) = alu_form p
form_by p o (psrc.Small i) = alu_form p
form_by p o psrc.Uniform = alu_form p
form_by p o psrc.Elem = alu_form p
form_by p o psrc.Qpu = alu_form p
form_by p o psrc.Vpm = alu_form p

abbrev pub form_with : Pair → Option Pop → Form
form_with p None = alu_form p
form_with p (Some o) = form_by p o o.a

unfoldable pub form_of_pair : Pair → Form
form_of_pair p = form_with p p.add
