-- What one word says alone.
--
-- A word reads one address as A and one as B. Registers of file A and elements' numbers are read as A alone; registers of file B, small immediates and
-- the QPU's number as B alone; uniforms and rows of the VPM as either. It has one access of a peripheral. Peripherals and r5 are written in all
-- elements, and where flags are set all elements are written. A rotation stands in the mul unit and reads accumulators. A word in all elements is
-- loaded by a word of its own.
use Rattle.std.specs.Prelude.{ℕ, ℤ, pos, negsuc, Bool, true, false, ◌&&◌, ◌||◌, not, nat_le, nat_lt, ◌==◌}
use Rattle.qpu_encode.specs.declared.form.AddOp.TheVariants as add_op
use Rattle.qpu_encode.specs.declared.form.MulOp.TheVariants as mul_op
use Rattle.qpu_encode.specs.declared.form.Cond.{Cond}
use Rattle.qpu_encode.specs.declared.form.Cond.TheVariants.{Always}
use Rattle.vop_ir.specs.declared.form.Op.{Op}
use Rattle.vop_ir.specs.declared.form.Op.TheVariants as op
use Rattle.vop_ir.specs.declared.form.Turn.{Turn}
use Rattle.vop_ir.specs.declared.form.Turn.TheVariants as turn
use Rattle.phys_ir.specs.declared.form.PSrc.{PSrc}
use Rattle.phys_ir.specs.declared.form.PSrc.TheVariants as psrc
use Rattle.phys_ir.specs.declared.form.PDst.{PDst}
use Rattle.phys_ir.specs.declared.form.PDst.TheVariants as pdst
use Rattle.phys_ir.specs.declared.form.Pop.{Pop}

abbrev pub implies : Bool → Bool → Bool
implies a b = not a || b

-- ---- operations

-- an operation of a unit; the others read a peripheral or nothing, and look at no operand
abbrev pub looks : Op → Bool
looks (op.Add add_op.Nop) = false
looks (op.Add x) = true
looks (op.Mul x) = true
looks _ = false

abbrev pub is_or : Op → Bool
is_or (op.Add add_op.Or) = true
is_or _ = false

abbrev pub is_mul : Op → Bool
is_mul (op.Mul mul_op.Nop) = false
is_mul (op.Mul x) = true
is_mul _ = false

-- the mul unit's operation that does nothing is no operation
abbrev pub is_some_op : Op → Bool
is_some_op (op.Mul mul_op.Nop) = false
is_some_op _ = true

abbrev pub is_access_op : Op → Bool
is_access_op op.Lock = true
is_access_op op.WaitLoad = true
is_access_op op.WaitStore = true
is_access_op _ = false

-- ---- operands

abbrev pub is_small_number : ℤ → Bool
is_small_number (pos n) = nat_le n 15
is_small_number (negsuc n) = nat_le n 15

abbrev pub same_number : ℤ → ℤ → Bool
same_number (pos a) (pos b) = a == b
same_number (negsuc a) (negsuc b) = a == b
same_number _ _ = false

abbrev pub same_psrc : PSrc → PSrc → Bool
same_psrc (psrc.A a) (psrc.A b) = a == b
same_psrc (psrc.B a) (psrc.B b) = a == b
same_psrc (psrc.Acc a) (psrc.Acc b) = a == b
same_psrc (psrc.Small a) (psrc.Small b) = same_number a b
same_psrc (psrc.Word a) (psrc.Word b) = a == b
same_psrc psrc.Uniform psrc.Uniform = true
same_psrc psrc.Elem psrc.Elem = true
same_psrc psrc.Qpu psrc.Qpu = true
same_psrc psrc.Vpm psrc.Vpm = true
same_psrc _ _ = false

abbrev pub is_a : PSrc → Bool
is_a (psrc.A r) = true
is_a _ = false

abbrev pub reads_a : PSrc → Bool
reads_a (psrc.A r) = true
reads_a psrc.Elem = true
reads_a _ = false

abbrev pub reads_b : PSrc → Bool
reads_b (psrc.B r) = true
reads_b (psrc.Small i) = true
reads_b psrc.Qpu = true
reads_b _ = false

abbrev pub is_acc : PSrc → Bool
is_acc (psrc.Acc r) = true
is_acc _ = false

abbrev pub is_word : PSrc → Bool
is_word (psrc.Word w) = true
is_word _ = false

abbrev pub is_access_source : PSrc → Bool
is_access_source psrc.Uniform = true
is_access_source psrc.Vpm = true
is_access_source _ = false

abbrev pub is_in_range : PSrc → Bool
is_in_range (psrc.Small i) = is_small_number i
is_in_range _ = true

-- what is read by no address
abbrev pub is_unread : PSrc → Bool
is_unread (psrc.Acc r) = true
is_unread (psrc.Small i) = true
is_unread _ = false

-- ---- targets

abbrev pub is_access_target : PDst → Bool
is_access_target (pdst.A r) = false
is_access_target (pdst.B r) = false
is_access_target (pdst.Acc r) = false
is_access_target pdst.Five = false
is_access_target pdst.Nowhere = false
is_access_target _ = true

abbrev pub is_five : PDst → Bool
is_five pdst.Five = true
is_five _ = false

abbrev pub is_nowhere : PDst → Bool
is_nowhere pdst.Nowhere = true
is_nowhere _ = false

abbrev pub is_always : Cond → Bool
is_always Always = true
is_always _ = false

-- ---- what goes together

abbrev pub is_turn : Turn → Bool
is_turn turn.Not = false
is_turn _ = true

abbrev pub is_turn_in_range : Turn → Bool
is_turn_in_range (turn.By n) = nat_le 1 n && nat_le n 15
is_turn_in_range _ = true

abbrev pub is_unpack : ℕ → Bool
is_unpack n = nat_lt n 8 && not (n == 3)

-- operands that are one, or are read by addresses of their own
abbrev pub reads_fit : PSrc → PSrc → Bool
reads_fit a b =
    same_psrc a b || (not (reads_a a && reads_a b) && (not (reads_b a && reads_b b) && not (is_access_source a && is_access_source b)))

abbrev pub one_access : Pop → Bool
one_access o =
    not (is_access_op o.op && is_access_target o.dst)
    && not ((is_access_source o.a || is_access_source o.b) && (is_access_op o.op || is_access_target o.dst))

-- a load immediate
abbrev pub loads_alone : Pop → Bool
loads_alone o = implies (is_word o.a || is_word o.b) (same_psrc o.a o.b && (is_or o.op && (not o.flags && (not (is_turn o.turn) && o.unpack == 0))))

abbrev pub turns_alone : Pop → Bool
turns_alone o = implies (is_turn o.turn) (is_mul o.op && (is_acc o.a && (is_acc o.b && (not o.flags && is_turn_in_range o.turn))))

abbrev pub unpacks_alone : Pop → Bool
unpacks_alone o = (o.unpack == 0) || (is_unpack o.unpack && (is_or o.op && (is_a o.a && (same_psrc o.a o.b && not (is_turn o.turn)))))

-- what looks at no operand leaves nothing but its access
abbrev pub is_idle : Pop → Bool
is_idle o = is_unread o.a && (is_unread o.b && (is_nowhere o.dst && (not o.flags && (not (is_turn o.turn) && o.unpack == 0))))

unfoldable pub is_pop : Pop → Bool
is_pop o =
    is_some_op o.op && (implies (not (looks o.op)) (is_idle o)
    && (implies (looks o.op) (reads_fit o.a o.b)
    && (is_in_range o.a && (is_in_range o.b
    && (one_access o
    && (implies (o.flags || (is_five o.dst || is_access_target o.dst)) (is_always o.cond)
    && (loads_alone o && (turns_alone o && unpacks_alone o))))))))
