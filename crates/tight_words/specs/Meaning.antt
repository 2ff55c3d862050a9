-- What a word means, whichever ports and addresses say it.
use Rattle.std.specs.Prelude.{ℕ, ◌+◌, ◌%◌, ◌<◌, Bool, true, false, not, ◌&&◌, ◌||◌, ◌==◌, nat_le, if◌then◌else◌}
use Rattle.qpu_encode.specs.declared.form.AddOp.{AddOp}
use Rattle.qpu_encode.specs.declared.form.AddOp.TheVariants as add_op
use Rattle.qpu_encode.specs.declared.form.MulOp.{MulOp}
use Rattle.qpu_encode.specs.declared.form.MulOp.TheVariants as mul_op
use Rattle.qpu_encode.specs.declared.form.AddPart.{AddPart}
use Rattle.qpu_encode.specs.declared.form.MulPart.{MulPart}
use Rattle.qpu_encode.specs.declared.form.Cond.TheVariants.{Never}
use Rattle.qpu_encode.specs.declared.form.Head.{Head}
use Rattle.qpu_encode.specs.declared.form.Head.TheVariants.{Plain, End, Small}
use Rattle.qpu_encode.specs.declared.form.Form.{Form}
use Rattle.qpu_encode.specs.declared.form.Form.TheVariants.{Alu, Ldi, Bra}
use Rattle.qpu_encode.specs.Codes.{add_code, mul_code, cond_code}
use Rattle.tight_words.specs.declared.meaning.Source.{Source}
use Rattle.tight_words.specs.declared.meaning.Source.TheVariants.{Acc, Five, FileA, FileB, Element, Qpu, Uniform, Row, Constant}
use Rattle.tight_words.specs.declared.meaning.AddAct.{AddAct}
use Rattle.tight_words.specs.declared.meaning.MulAct.{MulAct}
use Rattle.tight_words.specs.declared.meaning.Reads.{Reads}
use Rattle.tight_words.specs.declared.meaning.Meaning.{Meaning}

-- one source
abbrev pub same : Source → Source → Bool
same (Acc m) (Acc n) = m == n
same Five Five = true
same (FileA m) (FileA n) = m == n
same (FileB m) (FileB n) = m == n
same Element Element = true
same Qpu Qpu = true
same Uniform Uniform = true
same Row Row = true
same (Constant m) (Constant n) = m == n
same _ _ = false

-- what a read through A gives. 39, and the waits and the mutex, give the constant 0
abbrev pub read_a : ℕ → Source
read_a x =
    if nat_le x 31 then FileA x
    else (if x == 32 then Uniform
    else (if x == 38 then Element
    else (if x == 48 then Row else Constant 0)))

abbrev pub small_number : ℕ → ℕ
small_number x = if nat_le (x % 32) 15 then x % 32 else x % 32 + 4294967264

-- what a read through B gives, or the small immediate
abbrev pub read_b : Bool → ℕ → Source
read_b small x =
    if small then Constant (small_number x)
    else (if nat_le x 31 then FileB x
    else (if x == 32 then Uniform
    else (if x == 38 then Qpu
    else (if x == 48 then Row else Constant 0))))

-- the source that a selector names, by the two address fields
abbrev pub operand : Bool → ℕ → ℕ → ℕ → Source
operand small ra rb s = if nat_le s 3 then Acc s else (if s == 5 then Five else (if s == 6 then read_a ra else read_b small rb))

-- a destination that isn't the same through A and through B
abbrev pub is_sided : ℕ → Bool
is_sided dst = ((nat_le dst 31 || (dst == 37)) || (dst == 49)) || (dst == 50)

abbrev pub side : ℕ → Bool → Bool
side dst through_b = is_sided dst && through_b

abbrev pub is_small : Head → Bool
is_small Small = true
is_small Plain = false
is_small End = false

-- the code of the rotation, 0 for none
abbrev pub turn : Bool → ℕ → ℕ
turn small rb = if small && nat_le 48 rb then rb else 0

abbrev pub is_nop : AddOp → Bool
is_nop add_op.Nop = true
is_nop _ = false

abbrev pub is_mul_nop : MulOp → Bool
is_mul_nop mul_op.Nop = true
is_mul_nop _ = false

abbrev pub count : Bool → ℕ
count true = 1
count false = 0

-- the peripheral reads
abbrev pub reads_of : Bool → ℕ → ℕ → Reads
reads_of small ra rb =
    record {
      uniform = count (ra == 32) + count (not small && (rb == 32));
      row = count (ra == 48) + count (not small && (rb == 48));
      load_wait = count (ra == 50);
      store_wait = count (not small && (rb == 50));
      lock = count (ra == 51) + count (not small && (rb == 51));
    }

abbrev pub add_act : ℕ → AddPart → Bool → Bool → ℕ → ℕ → AddAct
add_act unpack p swap small ra rb =
    record { op = p.op; unpack = unpack; cond = p.cond; dst = p.dst; side = side p.dst swap; a = operand small ra rb p.a; b = operand small ra rb p.b }

abbrev pub mul_act : MulPart → Bool → Bool → ℕ → ℕ → MulAct
mul_act p swap small ra rb =
    record { op = p.op; turn = turn small rb; cond = p.cond; dst = p.dst; side = side p.dst (not swap); a = operand small ra rb p.a; b = operand small ra rb p.b }

abbrev pub no_reads : Reads
no_reads = record { uniform = 0; row = 0; load_wait = 0; store_wait = 0; lock = 0 }

abbrev pub no_meaning : Meaning
no_meaning =
    record {
      add = record { op = add_op.Nop; unpack = 0; cond = Never; dst = 39; side = false; a = Acc 0; b = Acc 0 };
      mul = record { op = mul_op.Nop; turn = 0; cond = Never; dst = 39; side = false; a = Acc 0; b = Acc 0 };
      flags = false;
      reads = no_reads;
    }

-- operations, conditions, destinations and operands, the flags, and the peripheral reads.
-- (The peripheral writes are destinations.)
unfoldable pub meaning : Form → Meaning
meaning (Alu head unpack add mul flags swap ra rb) =
    record {
      add = add_act unpack add swap (is_small head) ra rb;
      mul = mul_act mul swap (is_small head) ra rb;
      flags = flags;
      reads = reads_of (is_small head) ra rb;
    }
meaning (Ldi add_cond mul_cond swap add_dst mul_dst value) = no_meaning
meaning (Bra c words) = no_meaning

-- the two use different units, and the flags come from the unit of the one that sets them
abbrev pub apart : Meaning → Meaning → Bool
apart u v =
    (not (not (is_nop u.add.op) && not (is_nop v.add.op)) && not (not (is_mul_nop u.mul.op) && not (is_mul_nop v.mul.op)))
    && (not ((u.flags && is_nop u.add.op) && not (is_nop v.add.op)) && not ((v.flags && is_nop v.add.op) && not (is_nop u.add.op)))

abbrev pub sum_reads : Reads → Reads → Reads
sum_reads x y =
    record { uniform = x.uniform + y.uniform; row = x.row + y.row; load_wait = x.load_wait + y.load_wait; store_wait = x.store_wait + y.store_wait; lock = x.lock + y.lock }

-- what a word that holds both means
abbrev pub both : Meaning → Meaning → Meaning
both u v =
    record {
      add = if is_nop u.add.op then v.add else u.add;
      mul = if is_mul_nop u.mul.op then v.mul else u.mul;
      flags = u.flags || v.flags;
      reads = sum_reads u.reads v.reads;
    }

-- ---- one meaning, tested

abbrev pub same_bool : Bool → Bool → Bool
same_bool a b = if a then b else not b

abbrev pub same_add : AddAct → AddAct → Bool
same_add x y =
    (((add_code x.op == add_code y.op) && (x.unpack == y.unpack)) && ((cond_code x.cond == cond_code y.cond) && (x.dst == y.dst)))
    && (same_bool x.side y.side && (same x.a y.a && same x.b y.b))

abbrev pub same_mul : MulAct → MulAct → Bool
same_mul x y =
    (((mul_code x.op == mul_code y.op) && (x.turn == y.turn)) && ((cond_code x.cond == cond_code y.cond) && (x.dst == y.dst)))
    && (same_bool x.side y.side && (same x.a y.a && same x.b y.b))

abbrev pub same_reads : Reads → Reads → Bool
same_reads x y =
    ((x.uniform == y.uniform) && (x.row == y.row))
    && (((x.load_wait == y.load_wait) && (x.store_wait == y.store_wait)) && (x.lock == y.lock))

abbrev pub same_meaning : Meaning → Meaning → Bool
same_meaning x y = (same_reads x.reads y.reads && same_bool x.flags y.flags) && (same_add x.add y.add && same_mul x.mul y.mul)

-- a port gives an access once
pub record IsFew (r : Reads) : Type 0 where
  pub uniform : r.uniform < 100
  pub row : r.row < 100
  pub load_wait : r.load_wait < 100
  pub store_wait : r.store_wait < 100
  pub lock : r.lock < 100
