-- Which operands of an operation are copied first, so that one word can say the rest.
--
-- A word reads one register of each file. Elements' numbers are read as A; small immediates and the QPU's number as B; uniforms and rows of the VPM
-- either way. A word in all elements is loaded by a word of its own. A rotation takes accumulators alone, and an unpack one register of file A.
use Rattle.std.specs.Prelude.{ℕ, ◌<◌, ◌≤◌, ◌++◌, get_or, ℤ, pos, negsuc, List, [], ◌∷◌, map, Bool, true, false, ◌&&◌, ◌||◌, not, nat_le, nat_lt, ◌==◌, Option, Some, None, is_none, if◌then◌else◌, slice_get}
use Rattle.qpu_encode.specs.declared.form.AddOp.TheVariants as add_op
use Rattle.vpm_words.specs.Access.{Site}
use Rattle.vop_ir.specs.declared.form.Op.{Op}
use Rattle.vop_ir.specs.declared.form.Op.TheVariants as op
use Rattle.vop_ir.specs.declared.form.Src.{Src}
use Rattle.vop_ir.specs.declared.form.Src.TheVariants as src
use Rattle.vop_ir.specs.declared.form.Dst.{Dst}
use Rattle.vop_ir.specs.declared.form.Dst.TheVariants as dst
use Rattle.vop_ir.specs.declared.form.Turn.{Turn}
use Rattle.vop_ir.specs.declared.form.Turn.TheVariants as turn
use Rattle.vop_ir.specs.declared.form.Vop.{Vop}
use Rattle.vop_ir.specs.Around.{Around}
use Rattle.vop_ir.specs.Meaning.{State, src_access}
use Rattle.phys_ir.specs.declared.form.PhysBlock.{PhysBlock}
use Rattle.phys_ir.specs.Places.{block_of}
use Rattle.vop_ir.specs.Runs.{Block, vops, IsSteady, Shows, Visit, whole, outside, IsOpening, stays_open, releases}
use Rattle.regfile_alloc.specs.Code.{Item, Picks, Both, Each, src_in, moves_of, real_of, code_of}

abbrev pub is_private : Src → Bool
is_private x = is_none (src_access x)

-- what is read from a peripheral isn't copied
unfoldable pub feed : ℕ → Src → Option ℕ
feed p x = if is_private x then Some p else None

abbrev pub same_number : ℤ → ℤ → Bool
same_number (pos a) (pos b) = a == b
same_number (negsuc a) (negsuc b) = a == b
same_number _ _ = false

abbrev pub same_src : Src → Src → Bool
same_src (src.Reg a) (src.Reg b) = a == b
same_src (src.Small a) (src.Small b) = same_number a b
same_src (src.Word a) (src.Word b) = a == b
same_src src.Uniform src.Uniform = true
same_src src.Elem src.Elem = true
same_src src.Qpu src.Qpu = true
same_src src.Vpm src.Vpm = true
same_src _ _ = false

-- of operands over places: an accumulator, what is read as A alone, what is read as B alone, a word
abbrev pub is_acc : Src → Bool
is_acc (src.Reg p) = nat_le 64 p
is_acc _ = false

abbrev pub reads_a : Src → Bool
reads_a (src.Reg p) = nat_lt p 32
reads_a src.Elem = true
reads_a _ = false

abbrev pub reads_b : Src → Bool
reads_b (src.Reg p) = nat_le 32 p && nat_lt p 64
reads_b (src.Small i) = true
reads_b src.Qpu = true
reads_b _ = false

abbrev pub is_word : Src → Bool
is_word (src.Word w) = true
is_word _ = false

abbrev pub clash : Src → Src → Bool
clash a b = (reads_a a && reads_a b) || (reads_b a && reads_b b)

abbrev pub turns : Turn → Bool
turns turn.Not = false
turns _ = true

-- a word in all elements goes to its destination by a word that loads it
abbrev pub is_or : Op → Bool
is_or (op.Add add_op.Or) = true
is_or _ = false

abbrev pub loads_word : Vop → Bool
loads_word o = is_or o.op && not o.flags

-- r0 and r1 take copies, and `spare` takes one that is unpacked
abbrev pub first_copy : ℕ
first_copy = 64

abbrev pub second_copy : ℕ
second_copy = 65

abbrev pub if_needed : Bool → ℕ → Src → Option ℕ
if_needed test p x = if test then feed p x else None

-- the place for the one copy of two equal operands
abbrev pub copy_place : ℕ → Vop → ℕ
copy_place spare o = if o.unpack == 0 then first_copy else spare

abbrev pub needs_copy : Vop → Src → Bool
needs_copy o a = (not (o.unpack == 0) && not (reads_a a)) || ((turns o.turn && not (is_acc a)) || (is_word a && not (loads_word o)))

-- where the operands are two
abbrev pub needs_first : Vop → Src → Bool
needs_first o a = (turns o.turn && not (is_acc a)) || is_word a

abbrev pub needs_second : Vop → Src → Src → Bool
needs_second o a b = (turns o.turn && not (is_acc b)) || (is_word b || clash a b)

-- a and b are the operands of o over places
unfoldable pub picks_of : ℕ → Vop → Src → Src → Picks
picks_of spare o a b =
    if same_src o.a o.b
    then Both (if_needed (needs_copy o a) (copy_place spare o) a)
    else Each (if_needed (needs_first o a) first_copy a) (if_needed (needs_second o a b) second_copy b)

-- ---- registers that have one place each, and nothing in rows

abbrev pub item_in : (ℕ → ℕ) → ℕ → Vop → Item
item_in loc spare o = record { op = o; loc = loc; picks = picks_of spare o (src_in loc o.a) (src_in loc o.b) }

abbrev pub items_in : (ℕ → ℕ) → ℕ → List Vop → List Item
items_in loc spare [] = []
items_in loc spare (o ∷ os) = item_in loc spare o ∷ items_in loc spare os

abbrev pub block_in : (ℕ → ℕ) → ℕ → Block vops → Block vops
block_in loc spare k = record { ops = code_of (items_in loc spare k.ops); exit = k.exit }

-- register r is register r of file A
abbrev pub as_numbered : ℕ → ℕ
as_numbered r = r

abbrev pub IsSrcBelow : ℕ → Src → Type 0
IsSrcBelow n (src.Reg r) = r < n
IsSrcBelow n x = Unit {0}

abbrev pub IsDstBelow : ℕ → Dst → Type 0
IsDstBelow n (dst.Reg r) = r < n
IsDstBelow n x = Unit {0}

pub record IsBelow (n : ℕ) (o : Vop) : Type 0 where
  pub a : IsSrcBelow n o.a
  pub b : IsSrcBelow n o.b
  pub dst : IsDstBelow n o.dst

abbrev pub AreBelow : ℕ → List Vop → Type 0
AreBelow n [] = Unit {0}
AreBelow n (o ∷ os) = IsBelow n o × AreBelow n os

abbrev pub AllBelow : ℕ → List (Block vops) → Type 0
AllBelow n [] = Unit {0}
AllBelow n (k ∷ ks) = AreBelow n k.ops × AllBelow n ks

-- what others see of a run over registers: its sections
abbrev pub seen_closed : Bool → List State → (List State → List Around) → List Around
seen_closed released [] rest = rest []
seen_closed true (w ∷ ws) rest = w.around ∷ rest ws
seen_closed false (w ∷ ws) rest = rest ws

abbrev pub seen_by : Bool → Bool → List State → (Bool → List State → List Around) → List Around
seen_by true released ws rest = rest true ws
seen_by false released ws rest = seen_closed released ws (rest false)

abbrev pub seen_steps : List Vop → Bool → List State → List Around
seen_steps [] is_open ws = []
seen_steps (o ∷ os) is_open ws = seen_by (stays_open vops is_open o) (releases o.dst) ws (λ still us. seen_steps os still us)

abbrev pub ops_at : Option (Block vops) → List Vop
ops_at None = []
ops_at (Some k) = k.ops

abbrev pub seen_outside : List (Block vops) → List (Visit whole) → List (Visit outside)
seen_outside ks [] = []
seen_outside ks (w ∷ ws) = record { block = w.block; steps = seen_steps (ops_at (slice_get ks w.block)) false w.steps } ∷ seen_outside ks ws

-- With at most 32 registers each has its place in file A, no row is used, and others see of the run what they see of the source's.
abbrev pub KeepsRegisters : Type 0
KeepsRegisters =
    (n : ℕ) → n ≤ 32 → (ks : List (Block vops)) → AllBelow n ks → (g : Site) (t : State) → IsOpening t → (source : IsSteady whole vops g ks t)
    → Shows outside vops g (map (block_in as_numbered first_copy) ks) (seen_outside ks source.seen) (Some 0) t

-- ---- what the code makes, by the places of registers in a list

-- a place that there is
abbrev pub within : ℕ → ℕ
within p = if nat_lt p 68 then p else 0

abbrev pub loc_of : List ℕ → ℕ → ℕ
loc_of places r = within (get_or places r 0)

abbrev pub item_code : (ℕ → ℕ) → ℕ → Vop → List Vop
item_code loc spare o = moves_of (item_in loc spare o) ++ (real_of (item_in loc spare o) ∷ [])

abbrev pub IsSrcPlace : Src → Type 0
IsSrcPlace (src.Reg p) = p < 68
IsSrcPlace x = Unit {0}

abbrev pub IsDstPlace : Dst → Type 0
IsDstPlace (dst.Reg p) = p < 68
IsDstPlace x = Unit {0}

-- these operations are over places
abbrev pub AreInPlaces : List Vop → Type 0
AreInPlaces [] = Unit {0}
AreInPlaces (o ∷ os) = (IsDstPlace o.dst × IsSrcPlace o.a × IsSrcPlace o.b) × AreInPlaces os

-- The run over places is steady where that over registers is, and others see the same of both: the blocks, the values of setups, the transfers, the
-- bytes stored and the memory.
abbrev pub KeepsRun : List (Block vops) → List PhysBlock → Type 0
KeepsRun ks ps =
    (g : Site) (t : State) → IsOpening t → (source : IsSteady whole vops g ks t) → Shows outside vops g (map block_of ps) (seen_outside ks source.seen) (Some 0) t
