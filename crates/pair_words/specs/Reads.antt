-- The reads of a pair's word: what its operands ask for, and the addresses that give it.
use Rattle.std.specs.Prelude.{ℕ, ℤ, pos, negsuc, ◌+◌, ◌-◌, ◌%◌, Bool, true, false, if◌then◌else◌, Option, Some, None}
use Rattle.vop_ir.specs.declared.form.Op.{Op}
use Rattle.vop_ir.specs.declared.form.Op.TheVariants as op
use Rattle.vop_ir.specs.declared.form.Turn.{Turn}
use Rattle.vop_ir.specs.declared.form.Turn.TheVariants as turn
use Rattle.phys_ir.specs.declared.form.PSrc.{PSrc}
use Rattle.phys_ir.specs.declared.form.PSrc.TheVariants as psrc
use Rattle.phys_ir.specs.declared.form.Pop.{Pop}
use Rattle.phys_ir.specs.declared.form.Pair.{Pair}
use Rattle.pair_words.specs.declared.reads.Asked.{Asked}
use Rattle.pair_words.specs.declared.reads.Ports.{Ports}
use Rattle.tight_words.specs.Meaning.{is_nop}

-- the address that is read or written for nothing
abbrev pub nowhere : ℕ
nowhere = 39

-- ---- what is asked: through A, through B, as a small immediate, or through either port

abbrev pub nothing : Asked
nothing = record { a = None; b = None; small = None; either = None }

abbrev pub through_a : ℕ → Asked
through_a address = record { a = Some address; b = None; small = None; either = None }

abbrev pub through_b : ℕ → Asked
through_b address = record { a = None; b = Some address; small = None; either = None }

abbrev pub through_either : ℕ → Asked
through_either address = record { a = None; b = None; small = None; either = Some address }

abbrev pub immediate : ℕ → Asked
immediate code = record { a = None; b = None; small = Some code; either = None }

-- the code of a small immediate: five bits of the number
abbrev pub small_code : ℤ → ℕ
small_code (pos n) = n % 32
small_code (negsuc n) = 31 - n % 32

abbrev pub asked_by : PSrc → Asked
asked_by (psrc.A r) = through_a r
asked_by (psrc.B r) = through_b r
asked_by (psrc.Acc r) = nothing
asked_by (psrc.Small i) = immediate (small_code i)
asked_by (psrc.Word w) = nothing
asked_by psrc.Uniform = through_either 32
asked_by psrc.Elem = through_a 38
asked_by psrc.Qpu = through_b 38
asked_by psrc.Vpm = through_either 48

abbrev pub or_else : Option ℕ → Option ℕ → Option ℕ
or_else (Some x) other = Some x
or_else None other = other

-- what both ask, where they agree or only one asks
abbrev pub joined : Asked → Asked → Asked
joined x y = record { a = or_else x.a y.a; b = or_else x.b y.b; small = or_else x.small y.small; either = or_else x.either y.either }

-- the mutex is read at 51, the wait for a load at 50 through A and that for a store at 50 through B
abbrev pub asked_by_op : Pop → Op → Asked
asked_by_op o (op.Add x) = if is_nop x then nothing else joined (asked_by o.a) (asked_by o.b)
asked_by_op o (op.Mul x) = joined (asked_by o.a) (asked_by o.b)
asked_by_op o op.Lock = through_either 51
asked_by_op o op.WaitLoad = through_a 50
asked_by_op o op.WaitStore = through_b 50

abbrev pub asked_by_part : Option Pop → Asked
asked_by_part None = nothing
asked_by_part (Some o) = asked_by_op o o.op

-- the code of a rotation: 48 by r5
abbrev pub turn_code : Turn → Option ℕ
turn_code turn.Not = None
turn_code (turn.By n) = Some (48 + n % 16)
turn_code turn.ByFive = Some 48

abbrev pub asked_by_turn : Option Pop → Asked
asked_by_turn None = nothing
asked_by_turn (Some o) = record { a = None; b = None; small = turn_code o.turn; either = None }

unfoldable pub asked_by_pair : Pair → Asked
asked_by_pair p = joined (asked_by_turn p.mul) (joined (asked_by_part p.add) (asked_by_part p.mul))

-- ---- the addresses

abbrev pub or_nowhere : Option ℕ → ℕ
or_nowhere (Some x) = x
or_nowhere None = nowhere

abbrev pub is_asked : Option ℕ → Bool
is_asked (Some x) = true
is_asked None = false

-- what either port gives is read through A, and through B where something else is asked of A
unfoldable pub ports_by : Asked → Ports
ports_by x =
    record {
      ra = or_nowhere (if is_asked x.a then x.a else x.either);
      rb = or_nowhere (or_else x.small (if is_asked x.a then or_else x.b x.either else x.b));
      small = is_asked x.small;
      in_b = is_asked x.a;
    }

unfoldable pub ports_of : Pair → Ports
ports_of p = ports_by (asked_by_pair p)

-- ---- selectors: 6 is the read of A, 7 that of B or the small immediate

abbrev pub selector_of_port : Bool → ℕ
selector_of_port in_b = if in_b then 7 else 6

abbrev pub selector : Bool → PSrc → ℕ
selector in_b (psrc.A r) = 6
selector in_b (psrc.B r) = 7
selector in_b (psrc.Acc r) = r
selector in_b (psrc.Small i) = 7
selector in_b (psrc.Word w) = 0
selector in_b psrc.Uniform = selector_of_port in_b
selector in_b psrc.Elem = 6
selector in_b psrc.Qpu = 7
selector in_b psrc.Vpm = selector_of_port in_b

abbrev pub selector_of_op : Bool → Op → ℕ
selector_of_op in_b (op.Add x) = 0
selector_of_op in_b (op.Mul x) = 0
selector_of_op in_b op.Lock = selector_of_port in_b
selector_of_op in_b op.WaitLoad = 6
selector_of_op in_b op.WaitStore = 7
