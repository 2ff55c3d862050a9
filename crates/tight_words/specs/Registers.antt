-- The registers and the peripherals of a word, and the three rules that look at the word before.
use Rattle.std.specs.Prelude.{ℕ, ◌-◌, Bool, true, false, not, ◌&&◌, ◌||◌, ◌==◌, nat_le, if◌then◌else◌}
use Rattle.std.specs.declared.option.Option.{Option}
use Rattle.std.specs.declared.option.Option.TheVariants.{Some, None}
use Rattle.qpu_encode.specs.declared.form.AddOp.TheVariants as add_op
use Rattle.qpu_encode.specs.declared.form.MulOp.TheVariants as mul_op
use Rattle.qpu_encode.specs.declared.form.AddOp.{AddOp}
use Rattle.qpu_encode.specs.declared.form.MulOp.{MulOp}
use Rattle.qpu_encode.specs.declared.form.AddPart.{AddPart}
use Rattle.qpu_encode.specs.declared.form.MulPart.{MulPart}
use Rattle.qpu_encode.specs.declared.form.Cond.{Cond}
use Rattle.qpu_encode.specs.declared.form.Cond.TheVariants.{Never}
use Rattle.qpu_encode.specs.declared.form.Head.{Head}
use Rattle.qpu_encode.specs.declared.form.Head.TheVariants.{Plain, End, Small}
use Rattle.qpu_encode.specs.declared.form.Form.{Form}
use Rattle.qpu_encode.specs.declared.form.Form.TheVariants.{Alu, Ldi, Bra}
use Rattle.qpu_encode.specs.Codes.{cond_code}
use Rattle.tight_words.specs.declared.meaning.Source.{Source}
use Rattle.tight_words.specs.declared.meaning.Source.TheVariants.{Acc, Five, FileA, FileB}
use Rattle.tight_words.specs.declared.registers.Target.{Target}
use Rattle.tight_words.specs.Meaning.{same, read_a, read_b, operand, is_small, turn, is_nop, is_mul_nop}

-- ---- what a word writes. Target: through_b, dst, cond

abbrev pub first_target : Form → Target
first_target (Alu head unpack add mul flags swap ra rb) = record { through_b = swap; dst = add.dst; cond = add.cond }
first_target (Ldi add_cond mul_cond swap add_dst mul_dst value) = record { through_b = swap; dst = add_dst; cond = add_cond }
first_target (Bra c words) = record { through_b = false; dst = 39; cond = Never }

abbrev pub second_target : Form → Target
second_target (Alu head unpack add mul flags swap ra rb) = record { through_b = not swap; dst = mul.dst; cond = mul.cond }
second_target (Ldi add_cond mul_cond swap add_dst mul_dst value) = record { through_b = not swap; dst = mul_dst; cond = mul_cond }
second_target (Bra c words) = record { through_b = true; dst = 39; cond = Never }

-- the register at a destination
abbrev pub register_at : Bool → ℕ → Option Source
register_at through_b dst =
    if nat_le dst 31 then Some (if through_b then FileB dst else FileA dst)
    else (if nat_le dst 35 && nat_le 32 dst then Some (Acc (dst - 32))
    else (if dst == 37 then Some Five else None))

-- the register that a unit writes
unfoldable pub written : Target → Option Source
written t = if cond_code t.cond == 0 then None else register_at t.through_b t.dst

abbrev pub is_this : Option Source → Source → Bool
is_this None s = false
is_this (Some r) s = same r s

unfoldable pub writes : Form → Source → Bool
writes f s = is_this (written (first_target f)) s || is_this (written (second_target f)) s

-- a read setup is written: address 49 through A
abbrev pub is_setup : Target → Bool
is_setup t = (not (cond_code t.cond == 0) && (t.dst == 49)) && not t.through_b

unfoldable pub writes_setup : Form → Bool
writes_setup f = is_setup (first_target f) || is_setup (second_target f)

-- ---- what a word reads, and whether it has a peripheral access

abbrev pub is_port_read : ℕ → Bool
is_port_read x = ((x == 32) || (x == 48)) || ((x == 50) || (x == 51))

abbrev pub is_port_write : Target → Bool
is_port_write t = not (cond_code t.cond == 0) && (nat_le 48 t.dst && nat_le t.dst 51)

unfoldable pub has_access : Form → Bool
has_access (Alu head unpack add mul flags swap ra rb) =
    (is_port_read ra || (not (is_small head) && is_port_read rb))
    || (is_port_write (record { through_b = swap; dst = add.dst; cond = add.cond }) || is_port_write (record { through_b = not swap; dst = mul.dst; cond = mul.cond }))
has_access (Ldi add_cond mul_cond swap add_dst mul_dst value) =
    is_port_write (record { through_b = swap; dst = add_dst; cond = add_cond }) || is_port_write (record { through_b = not swap; dst = mul_dst; cond = mul_cond })
has_access (Bra c words) = false

-- a register is used where an address field names it, selected or not, by a selector of a unit with an operation,
-- and r5 by a rotation by r5
unfoldable pub uses : Form → Source → Bool
uses (Alu head unpack add mul flags swap ra rb) s =
    ((same (read_a ra) s || same (read_b (is_small head) rb) s)
    || (not (is_nop add.op) && (same (operand (is_small head) ra rb add.a) s || same (operand (is_small head) ra rb add.b) s)))
    || ((not (is_mul_nop mul.op) && (same (operand (is_small head) ra rb mul.a) s || same (operand (is_small head) ra rb mul.b) s))
    || ((turn (is_small head) rb == 48) && same Five s))
uses (Ldi add_cond mul_cond swap add_dst mul_dst value) s = false
uses (Bra c words) s = false

-- a condition on flags
abbrev pub on_flags : Cond → Bool
on_flags c = nat_le 2 (cond_code c)

unfoldable pub looks_at_flags : Form → Bool
looks_at_flags f = on_flags (first_target f).cond || on_flags (second_target f).cond

abbrev pub sets_flags : Form → Bool
sets_flags (Alu head unpack add mul flags swap ra rb) = flags
sets_flags (Ldi add_cond mul_cond swap add_dst mul_dst value) = false
sets_flags (Bra c words) = false

-- ---- kinds of words

abbrev pub is_end_head : Head → Bool
is_end_head End = true
is_end_head Plain = false
is_end_head Small = false

abbrev pub is_end : Form → Bool
is_end (Alu head unpack add mul flags swap ra rb) = is_end_head head
is_end (Ldi add_cond mul_cond swap add_dst mul_dst value) = false
is_end (Bra c words) = false

-- a word of the two units after which the program goes on
abbrev pub goes_on : Form → Bool
goes_on (Alu head unpack add mul flags swap ra rb) = not (is_end_head head)
goes_on (Ldi add_cond mul_cond swap add_dst mul_dst value) = false
goes_on (Bra c words) = false

abbrev pub is_branch : Form → Bool
is_branch (Bra c words) = true
is_branch (Alu head unpack add mul flags swap ra rb) = false
is_branch (Ldi add_cond mul_cond swap add_dst mul_dst value) = false

-- a unit that leaves nothing
abbrev pub is_still : Bool → Cond → ℕ → Bool
is_still nop c dst = (nop || (cond_code c == 0)) || (dst == 39)

unfoldable pub is_idle : Form → Bool
is_idle (Alu head unpack add mul flags swap ra rb) =
    (not (is_end_head head) && (not flags && not (has_access (Alu head unpack add mul flags swap ra rb))))
    && (is_still (is_nop add.op) add.cond add.dst && is_still (is_mul_nop mul.op) mul.cond mul.dst)
is_idle (Ldi add_cond mul_cond swap add_dst mul_dst value) = false
is_idle (Bra c words) = false

unfoldable pub is_half : Form → Bool
is_half (Alu head unpack add mul flags swap ra rb) =
    (not (is_end_head head) && not (is_idle (Alu head unpack add mul flags swap ra rb))) && (is_nop add.op || is_mul_nop mul.op)
is_half (Ldi add_cond mul_cond swap add_dst mul_dst value) = false
is_half (Bra c words) = false

-- ---- the other form of a move

abbrev pub is_or : AddOp → Bool
is_or add_op.Or = true
is_or _ = false

abbrev pub is_min : MulOp → Bool
is_min mul_op.V8Min = true
is_min _ = false

abbrev pub no_add_part : AddPart
no_add_part = record { op = add_op.Nop; cond = Never; dst = 39; a = 0; b = 0 }

abbrev pub no_mul_part : MulPart
no_mul_part = record { op = mul_op.Nop; cond = Never; dst = 39; a = 0; b = 0 }

-- `or` of an operand with itself, not unpacked, is `v8min` of it with itself, not rotated, on the other unit.
-- All else stays, but that the units change files, so that the destination is the same.
unfoldable pub other : Form → Option Form
other (Alu head unpack add mul flags swap ra rb) =
    if (is_or add.op && is_mul_nop mul.op) && ((unpack == 0) && same (operand (is_small head) ra rb add.a) (operand (is_small head) ra rb add.b))
    then Some (Alu head unpack no_add_part (record { op = mul_op.V8Min; cond = add.cond; dst = add.dst; a = add.a; b = add.b }) flags (not swap) ra rb)
    else (if (is_min mul.op && is_nop add.op) && ((turn (is_small head) rb == 0) && same (operand (is_small head) ra rb mul.a) (operand (is_small head) ra rb mul.b))
    then Some (Alu head unpack (record { op = add_op.Or; cond = mul.cond; dst = mul.dst; a = mul.a; b = mul.b }) no_mul_part flags (not swap) ra rb)
    else None)
other (Ldi add_cond mul_cond swap add_dst mul_dst value) = None
other (Bra c words) = None

-- ---- the rules H1 to H3 after a word

-- H1: a register of file A or B is read that the word before wrote
unfoldable pub reads_fresh : Form → Form → Bool
reads_fresh p (Alu head unpack add mul flags swap ra rb) = writes p (read_a ra) || writes p (read_b (is_small head) rb)
reads_fresh p (Ldi add_cond mul_cond swap add_dst mul_dst value) = false
reads_fresh p (Bra c words) = false

abbrev pub is_old : Form → ℕ → Bool
is_old p s = nat_le s 3 && not (writes p (Acc s))

-- H2 and H3: a rotation of what isn't an accumulator that stood before, or by an r5 that didn't
unfoldable pub turns_fresh : Form → Form → Bool
turns_fresh p (Alu head unpack add mul flags swap ra rb) =
    (not (turn (is_small head) rb == 0) && not (is_old p mul.a && is_old p mul.b)) || ((turn (is_small head) rb == 48) && writes p Five)
turns_fresh p (Ldi add_cond mul_cond swap add_dst mul_dst value) = false
turns_fresh p (Bra c words) = false

-- a word breaks H1, H2 or H3 right after another. A word that isn't there breaks nothing
abbrev pub clash : Option Form → Option Form → Bool
clash None f = false
clash (Some p) None = false
clash (Some p) (Some f) = reads_fresh p f || turns_fresh p f

-- the second can be done with the first: it uses and writes no register that the first writes, its conditions aren't on flags
-- that the first sets, not both set flags, and not both have a peripheral access
abbrev pub uses_this : Form → Option Source → Bool
uses_this v None = false
uses_this v (Some s) = uses v s || writes v s

unfoldable pub is_free : Form → Form → Bool
is_free u v =
    (not (uses_this v (written (first_target u))) && not (uses_this v (written (second_target u))))
    && ((not (sets_flags u && (looks_at_flags v || sets_flags v))) && not (has_access u && has_access v))
