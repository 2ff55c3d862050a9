-- What a pair means, as what a word means is said.
use Rattle.std.specs.Prelude.{ℕ, ℤ, pos, negsuc, ◌+◌, ◌-◌, ◌<◌, Bool, true, false, not, ◌&&◌, ◌||◌, ◌==◌, nat_le, if◌then◌else◌, Option, Some, None}
use Rattle.qpu_encode.specs.declared.form.AddOp.{AddOp}
use Rattle.qpu_encode.specs.declared.form.AddOp.TheVariants as add_op
use Rattle.qpu_encode.specs.declared.form.MulOp.TheVariants as mul_op
use Rattle.qpu_encode.specs.declared.form.Cond.TheVariants.{Never}
use Rattle.vop_ir.specs.declared.form.Op.{Op}
use Rattle.vop_ir.specs.declared.form.Op.TheVariants as op
use Rattle.vop_ir.specs.declared.form.Turn.{Turn}
use Rattle.vop_ir.specs.declared.form.Turn.TheVariants as turn
use Rattle.phys_ir.specs.declared.form.PSrc.{PSrc}
use Rattle.phys_ir.specs.declared.form.PSrc.TheVariants as psrc
use Rattle.phys_ir.specs.declared.form.PDst.{PDst}
use Rattle.phys_ir.specs.declared.form.PDst.TheVariants as pdst
use Rattle.phys_ir.specs.declared.form.Pop.{Pop}
use Rattle.phys_ir.specs.declared.form.Pair.{Pair}
use Rattle.tight_words.specs.declared.meaning.Source.{Source}
use Rattle.tight_words.specs.declared.meaning.Source.TheVariants as source
use Rattle.tight_words.specs.declared.meaning.AddAct.{AddAct}
use Rattle.tight_words.specs.declared.meaning.MulAct.{MulAct}
use Rattle.tight_words.specs.declared.meaning.Reads.{Reads}
use Rattle.tight_words.specs.declared.meaning.Meaning.{Meaning}
use Rattle.tight_words.specs.Meaning.{is_nop, is_mul_nop}
use Rattle.pair_words.specs.Reads.{nowhere, turn_code}
use Rattle.pair_words.specs.Writes.{address_of, side_of}

-- the word of a small immediate
abbrev pub number_of : ℤ → ℕ
number_of (pos n) = n
number_of (negsuc n) = 4294967295 - n

abbrev pub source_of : PSrc → Source
source_of (psrc.A r) = source.FileA r
source_of (psrc.B r) = source.FileB r
source_of (psrc.Acc r) = source.Acc r
source_of (psrc.Small i) = source.Constant (number_of i)
source_of (psrc.Word value) = source.Constant value
source_of psrc.Uniform = source.Uniform
source_of psrc.Elem = source.Element
source_of psrc.Qpu = source.Qpu
source_of psrc.Vpm = source.Row

abbrev pub or_false : Option Bool → Bool
or_false (Some b) = b
or_false None = false

abbrev pub is_through_b : PDst → Bool
is_through_b dst = or_false (side_of dst)

abbrev pub no_add : AddAct
no_add = record { op = add_op.Nop; unpack = 0; cond = Never; dst = nowhere; side = false; a = source.Acc 0; b = source.Acc 0 }

abbrev pub no_mul : MulAct
no_mul = record { op = mul_op.Nop; turn = 0; cond = Never; dst = nowhere; side = false; a = source.Acc 0; b = source.Acc 0 }

abbrev pub add_by : Pop → AddOp → AddAct
add_by o x =
    record { op = x; unpack = o.unpack; cond = o.cond; dst = address_of o.dst; side = is_through_b o.dst; a = source_of o.a; b = source_of o.b }

-- the mutex and the waits read as 0
abbrev pub add_by_read : Pop → AddAct
add_by_read o =
    record {
      op = add_op.Or;
      unpack = 0;
      cond = o.cond;
      dst = address_of o.dst;
      side = is_through_b o.dst;
      a = source.Constant 0;
      b = source.Constant 0;
    }

abbrev pub add_of : Pop → Op → AddAct
add_of o (op.Add x) = add_by o x
add_of o (op.Mul x) = no_add
add_of o op.Lock = add_by_read o
add_of o op.WaitLoad = add_by_read o
add_of o op.WaitStore = add_by_read o

abbrev pub add_part : Option Pop → AddAct
add_part None = no_add
add_part (Some o) = add_of o o.op

abbrev pub or_none : Option ℕ → ℕ
or_none (Some x) = x
or_none None = 0

abbrev pub mul_of : Pop → Op → MulAct
mul_of o (op.Mul x) =
    record {
      op = x;
      turn = or_none (turn_code o.turn);
      cond = o.cond;
      dst = address_of o.dst;
      side = is_through_b o.dst;
      a = source_of o.a;
      b = source_of o.b;
    }
mul_of o (op.Add x) = no_mul
mul_of o op.Lock = no_mul
mul_of o op.WaitLoad = no_mul
mul_of o op.WaitStore = no_mul

abbrev pub mul_part : Option Pop → MulAct
mul_part None = no_mul
mul_part (Some o) = mul_of o o.op

abbrev pub count : Bool → ℕ
count b = if b then 1 else 0

abbrev pub is_uniform : PSrc → Bool
is_uniform psrc.Uniform = true
is_uniform _ = false

abbrev pub is_row : PSrc → Bool
is_row psrc.Vpm = true
is_row _ = false

abbrev pub is_lock : Op → Bool
is_lock op.Lock = true
is_lock _ = false

abbrev pub is_load_wait : Op → Bool
is_load_wait op.WaitLoad = true
is_load_wait _ = false

abbrev pub is_store_wait : Op → Bool
is_store_wait op.WaitStore = true
is_store_wait _ = false

-- both operands of one operation take one uniform, or one row
abbrev pub reads_of : Option Pop → Reads
reads_of None = record { uniform = 0; row = 0; load_wait = 0; store_wait = 0; lock = 0 }
reads_of (Some o) =
    record {
      uniform = count (is_uniform o.a || is_uniform o.b);
      row = count (is_row o.a || is_row o.b);
      load_wait = count (is_load_wait o.op);
      store_wait = count (is_store_wait o.op);
      lock = count (is_lock o.op);
    }

pub record AreFew (r : Reads) : Type 0 where
  pub uniform : r.uniform < 2
  pub row : r.row < 2
  pub load_wait : r.load_wait < 2
  pub store_wait : r.store_wait < 2
  pub lock : r.lock < 2

abbrev pub sum_of : Reads → Reads → Reads
sum_of x y =
    record { uniform = x.uniform + y.uniform; row = x.row + y.row; load_wait = x.load_wait + y.load_wait; store_wait = x.store_wait + y.store_wait; lock = x.lock + y.lock }

abbrev pub flags_of : Option Pop → Bool
flags_of None = false
flags_of (Some o) = o.flags

unfoldable pub meaning_of_pair : Pair → Meaning
meaning_of_pair p =
    record { add = add_part p.add; mul = mul_part p.mul; flags = flags_of p.add || flags_of p.mul; reads = sum_of (reads_of p.add) (reads_of p.mul) }

-- ---- which parts a pair may have

abbrev pub is_turn_in_range : Turn → Bool
is_turn_in_range turn.Not = true
is_turn_in_range (turn.By n) = nat_le 1 n && nat_le n 15
is_turn_in_range turn.ByFive = true

abbrev pub is_unturned : Turn → Bool
is_unturned turn.Not = true
is_unturned _ = false

abbrev pub suits_add_unit : Op → Bool
suits_add_unit (op.Add x) = not (is_nop x)
suits_add_unit (op.Mul x) = false
suits_add_unit op.Lock = true
suits_add_unit op.WaitLoad = true
suits_add_unit op.WaitStore = true

abbrev pub suits_mul_unit : Op → Bool
suits_mul_unit (op.Mul x) = not (is_mul_nop x)
suits_mul_unit (op.Add x) = false
suits_mul_unit op.Lock = false
suits_mul_unit op.WaitLoad = false
suits_mul_unit op.WaitStore = false

abbrev pub is_add : Option Pop → Bool
is_add None = true
is_add (Some o) = suits_add_unit o.op && is_unturned o.turn

-- what is rotated stands in accumulators
abbrev pub is_acc : PSrc → Bool
is_acc (psrc.Acc r) = true
is_acc _ = false

abbrev pub turns_right : Pop → Bool
turns_right o = is_unturned o.turn || (is_turn_in_range o.turn && (is_acc o.a && is_acc o.b))

abbrev pub is_mul : Option Pop → Bool
is_mul None = true
is_mul (Some o) = suits_mul_unit o.op && (turns_right o && (o.unpack == 0))

-- flags come from the add unit where it has an operation
abbrev pub is_flagged : Option Pop → Option Pop → Bool
is_flagged None mul = true
is_flagged (Some o) mul = not (flags_of mul)

-- a target that is an access of a peripheral
abbrev pub is_port : PDst → Bool
is_port pdst.Vpm = true
is_port pdst.ReadSet = true
is_port pdst.WriteSet = true
is_port pdst.LoadAddr = true
is_port pdst.StoreAddr = true
is_port pdst.Unlock = true
is_port _ = false

abbrev pub writes_port : Option Pop → Bool
writes_port None = false
writes_port (Some o) = is_port o.dst

abbrev pub total : Reads → ℕ
total r = (r.uniform + r.row) + ((r.load_wait + r.store_wait) + r.lock)

-- how many accesses of peripherals a part has
abbrev pub accesses_of : Option Pop → ℕ
accesses_of part = total (reads_of part) + count (writes_port part)

unfoldable pub is_in_place : Pair → Bool
is_in_place p = ((is_add p.add && is_mul p.mul) && is_flagged p.add p.mul) && nat_le (accesses_of p.add + accesses_of p.mul) 1
