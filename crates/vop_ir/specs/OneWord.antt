-- What one word says, once its registers have places.
--
-- It has one access of a peripheral at most. Peripherals and r5 are written in all elements, and where flags are set all elements are written. A
-- rotation stands in the mul unit and reads registers; a part of a word is taken of one register by `or`. Of two constants that a word has by
-- itself there is one: the QPU's number, or a small number. What looks at no operand leaves nothing but its access.
use Rattle.std.specs.Prelude.{ℕ, ℤ, pos, negsuc, Bool, true, false, ◌&&◌, ◌||◌, not, nat_le, nat_lt, ◌==◌}
use Rattle.qpu_encode.specs.declared.form.AddOp.TheVariants as add_op
use Rattle.qpu_encode.specs.declared.form.MulOp.TheVariants as mul_op
use Rattle.qpu_encode.specs.declared.form.Cond.{Cond}
use Rattle.qpu_encode.specs.declared.form.Cond.TheVariants.{Always}
use Rattle.vop_ir.specs.declared.form.Op.{Op}
use Rattle.vop_ir.specs.declared.form.Op.TheVariants as op
use Rattle.vop_ir.specs.declared.form.Src.{Src}
use Rattle.vop_ir.specs.declared.form.Src.TheVariants as src
use Rattle.vop_ir.specs.declared.form.Dst.{Dst}
use Rattle.vop_ir.specs.declared.form.Dst.TheVariants as dst
use Rattle.vop_ir.specs.declared.form.Turn.{Turn}
use Rattle.vop_ir.specs.declared.form.Turn.TheVariants as turn
use Rattle.vop_ir.specs.declared.form.Vop.{Vop}

abbrev pub implies : Bool → Bool → Bool
implies a b = not a || b

-- ---- operations

-- an operation of a unit; the others read a peripheral or nothing, and look at no operand
abbrev pub looks : Op → Bool
looks (op.Add add_op.Nop) = false
looks (op.Add x) = true
looks (op.Mul x) = true
looks _ = false

abbrev pub is_or : Op → Bool
is_or (op.Add add_op.Or) = true
is_or _ = false

abbrev pub is_mul : Op → Bool
is_mul (op.Mul x) = true
is_mul _ = false

-- the mul unit's operation that does nothing is no operation
abbrev pub is_some_op : Op → Bool
is_some_op (op.Mul mul_op.Nop) = false
is_some_op _ = true

abbrev pub is_access_op : Op → Bool
is_access_op op.Lock = true
is_access_op op.WaitLoad = true
is_access_op op.WaitStore = true
is_access_op _ = false

-- ---- operands

abbrev pub is_small_number : ℤ → Bool
is_small_number (pos n) = nat_le n 15
is_small_number (negsuc n) = nat_le n 15

abbrev pub same_number : ℤ → ℤ → Bool
same_number (pos a) (pos b) = a == b
same_number (negsuc a) (negsuc b) = a == b
same_number _ _ = false

abbrev pub same_src : Src → Src → Bool
same_src (src.Reg a) (src.Reg b) = a == b
same_src (src.Small a) (src.Small b) = same_number a b
same_src (src.Word a) (src.Word b) = a == b
same_src src.Uniform src.Uniform = true
same_src src.Elem src.Elem = true
same_src src.Qpu src.Qpu = true
same_src src.Vpm src.Vpm = true
same_src _ _ = false

abbrev pub is_reg : Src → Bool
is_reg (src.Reg r) = true
is_reg _ = false

abbrev pub is_word : Src → Bool
is_word (src.Word w) = true
is_word _ = false

-- a constant that the word has by itself
abbrev pub is_own : Src → Bool
is_own (src.Small i) = true
is_own src.Qpu = true
is_own _ = false

abbrev pub is_access_source : Src → Bool
is_access_source src.Uniform = true
is_access_source src.Vpm = true
is_access_source _ = false

abbrev pub is_in_range : Src → Bool
is_in_range (src.Small i) = is_small_number i
is_in_range _ = true

-- what is read by no address
abbrev pub is_unread : Src → Bool
is_unread (src.Small i) = true
is_unread _ = false

-- ---- targets

abbrev pub is_access_target : Dst → Bool
is_access_target (dst.Reg r) = false
is_access_target dst.Five = false
is_access_target dst.Nowhere = false
is_access_target _ = true

abbrev pub is_five : Dst → Bool
is_five dst.Five = true
is_five _ = false

abbrev pub is_nowhere : Dst → Bool
is_nowhere dst.Nowhere = true
is_nowhere _ = false

abbrev pub is_always : Cond → Bool
is_always Always = true
is_always _ = false

-- ---- what goes together

abbrev pub is_turn : Turn → Bool
is_turn turn.Not = false
is_turn _ = true

abbrev pub is_turn_in_range : Turn → Bool
is_turn_in_range (turn.By n) = nat_le 1 n && nat_le n 15
is_turn_in_range _ = true

abbrev pub is_unpack : ℕ → Bool
is_unpack n = nat_lt n 8 && not (n == 3)

-- operands that are one, or of which one at most is a constant of the word's own or comes from a peripheral
abbrev pub reads_fit : Src → Src → Bool
reads_fit a b = same_src a b || (not (is_own a && is_own b) && not (is_access_source a && is_access_source b))

abbrev pub one_access : Vop → Bool
one_access o =
    not (is_access_op o.op && is_access_target o.dst)
    && not ((is_access_source o.a || is_access_source o.b) && (is_access_op o.op || (is_five o.dst || is_access_target o.dst)))

-- a word in all elements is loaded without flags
abbrev pub loads_alone : Vop → Bool
loads_alone o = implies (is_word o.a && same_src o.a o.b) (is_or o.op && (not o.flags && o.unpack == 0))

abbrev pub turns_alone : Vop → Bool
turns_alone o = implies (is_turn o.turn) (is_mul o.op && (is_reg o.a && (is_reg o.b && (not o.flags && is_turn_in_range o.turn))))

abbrev pub unpacks_alone : Vop → Bool
unpacks_alone o = (o.unpack == 0) || (is_unpack o.unpack && (is_or o.op && (is_reg o.a && (same_src o.a o.b && not (is_turn o.turn)))))

-- what looks at no operand leaves nothing but its access
abbrev pub is_idle : Vop → Bool
is_idle o = is_unread o.a && (is_unread o.b && (is_nowhere o.dst && (not o.flags && (not (is_turn o.turn) && o.unpack == 0))))

abbrev pub is_vop : Vop → Bool
is_vop o =
    is_some_op o.op && (implies (not (looks o.op)) (is_idle o)
    && (implies (looks o.op) (reads_fit o.a o.b)
    && (is_in_range o.a && (is_in_range o.b
    && (one_access o
    && (implies (o.flags || (is_five o.dst || is_access_target o.dst)) (is_always o.cond)
    && (loads_alone o && (turns_alone o && unpacks_alone o))))))))
