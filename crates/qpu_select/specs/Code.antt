-- The code of a batch's statements.
--
-- Value v is register v. Above the values stand the scratch's address and seven registers of the accesses, then those of the loop over batches, a
-- temporary one, the parameters, the numbers of the work, and the variables.
use Rattle.std.specs.Prelude.{ℕ, ◌+◌, ◌-◌, ◌^◌, ◌<◌, true, false, List, [], ◌∷◌, ◌++◌, map, length, Option, Some, None, if◌then◌else◌, nat_lt, nat_le, ◌==◌, negsuc, slice_get}
use Rattle.q_lane.specs.declared.operations.BinOp.{BinOp}
use Rattle.q_lane.specs.declared.operations.BinOp.TheVariants as bin
use Rattle.q_lane.specs.declared.operations.UnOp.{UnOp}
use Rattle.q_lane.specs.declared.operations.UnOp.TheVariants as one
use Rattle.q_functions.specs.declared.functions.WorkFunction.{WorkFunction}
use Rattle.q_functions.specs.declared.functions.WorkFunction.TheVariants.{WorkDim, GlobalSize, LocalSize}
use Rattle.item_ir.specs.declared.form.Def.{Def}
use Rattle.item_ir.specs.declared.form.Def.TheVariants.{Const, Param, Work, Get, Bin, One, Built, Choose, Load as Loads, Element, Flat, Items}
use Rattle.lane_ir.specs.declared.form.LaneStmt.{LaneStmt, Row_of-LaneStmt, end_of-LaneStmt, more_of-LaneStmt}
use Rattle.lane_ir.specs.declared.form.LaneStmt.TheVariants.{Let, Put, Load, Store, GetElement, PutElement, Clear, WhileAny'}
use Rattle.lane_ir.specs.declared.ir.LaneIr.{LaneIr}
use Rattle.qpu_encode.specs.declared.form.AddOp.TheVariants as add_op
use Rattle.qpu_encode.specs.declared.form.MulOp.TheVariants as mul_op
use Rattle.qpu_encode.specs.declared.form.BraCond.TheVariants.{AnyNz}
use Rattle.qpu_encode.specs.declared.form.BraCond.{BraCond}
use Rattle.vop_ir.specs.declared.form.Op.{Op}
use Rattle.vop_ir.specs.declared.form.Op.TheVariants as op
use Rattle.vop_ir.specs.declared.form.Src.{Src}
use Rattle.vop_ir.specs.declared.form.Src.TheVariants as src
use Rattle.vop_ir.specs.declared.form.Dst.TheVariants as dst
use Rattle.vop_ir.specs.declared.form.Exit.TheVariants.{Jump, Branch}
use Rattle.vop_ir.specs.declared.form.Vop.{Vop}
use Rattle.vop_ir.specs.Operations.{plain, flagged, where_zero, where_set, copy, small}
use Rattle.vop_ir.specs.Runs.{Block, vops}
use Rattle.vpm_dma_lower.specs.Code.{shifted}
use Rattle.vpm_dma_lower.specs.Accesses.{Code}
pub use Rattle.qpu_select.specs.declared.shape.Shape.{Shape}

-- ---- registers

-- all registers have numbers of 32 bits
abbrev pub HasRoom : Shape → Type 0
HasRoom h = h.vals + h.params + h.vars + 32 < 2 ^ 32

abbrev pub shape_of : LaneIr → Shape
shape_of b = record { vals = b.vals; params = length b.kinds.items; vars = b.vars }

abbrev pub batch_reg : Shape → ℕ
batch_reg h = h.vals + 8

abbrev pub step_reg : Shape → ℕ
step_reg h = h.vals + 9

abbrev pub batches_reg : Shape → ℕ
batches_reg h = h.vals + 10

abbrev pub items_reg : Shape → ℕ
items_reg h = h.vals + 11

abbrev pub temporary : Shape → ℕ
temporary h = h.vals + 12

abbrev pub param_reg : Shape → ℕ → ℕ
param_reg h p = h.vals + 13 + p

abbrev pub dims_reg : Shape → ℕ
dims_reg h = h.vals + 13 + h.params

-- of dimension 0; the other dimensions follow
abbrev pub global_reg : Shape → ℕ
global_reg h = h.vals + 14 + h.params

abbrev pub local_reg : Shape → ℕ
local_reg h = h.vals + 17 + h.params

abbrev pub var_reg : Shape → ℕ → ℕ
var_reg h u = h.vals + 20 + h.params + u

abbrev pub all_regs : Shape → ℕ
all_regs h = h.vals + 20 + h.params + h.vars

-- ---- definitions

-- a word as an operand, by itself where it is small
abbrev pub constant : ℕ → Src
constant x = if nat_lt x 16 then small x else if nat_le (2 ^ 32 - 16) x then src.Small (negsuc (2 ^ 32 - 1 - x)) else src.Word x

abbrev pub moves : ℕ → ℕ → Vop
moves d a = copy (dst.Reg d) (src.Reg a)

-- Z stands where the register is 0
abbrev pub asks : ℕ → Vop
asks r = flagged (op.Add add_op.Or) dst.Nowhere (src.Reg r) (src.Reg r)

-- Z stands where the register is this small number
abbrev pub compares : ℕ → ℕ → Vop
compares r n = flagged (op.Add add_op.Xor) dst.Nowhere (src.Reg r) (small n)

abbrev pub move_where_zero : ℕ → ℕ → Vop
move_where_zero d a = where_zero (op.Add add_op.Or) (dst.Reg d) (src.Reg a) (src.Reg a)

abbrev pub move_where_set : ℕ → ℕ → Vop
move_where_set d a = where_set (op.Add add_op.Or) (dst.Reg d) (src.Reg a) (src.Reg a)

-- the operation of a unit that an operation on two words is, where it is one
abbrev pub unit_op : BinOp → Option Op
unit_op bin.Add = Some (op.Add add_op.Add)
unit_op bin.Sub = Some (op.Add add_op.Sub)
unit_op bin.Mul = Some (op.Add add_op.Mul32)
unit_op (bin.MulHi true) = Some (op.Add add_op.MulHs)
unit_op (bin.MulHi false) = Some (op.Add add_op.MulHu)
unit_op bin.And = Some (op.Add add_op.And)
unit_op bin.Or = Some (op.Add add_op.Or)
unit_op bin.Xor = Some (op.Add add_op.Xor)
unit_op bin.Shl = Some (op.Add add_op.Shl)
unit_op bin.Shr = Some (op.Add add_op.Shr)
unit_op bin.Sar = Some (op.Add add_op.Asr)
unit_op (bin.Min true) = Some (op.Add add_op.Min)
unit_op (bin.Max true) = Some (op.Add add_op.Max)
unit_op bin.Mul24 = Some (op.Mul mul_op.Mul24)
unit_op o = None

abbrev pub two_ops : ℕ → Option Op → ℕ → ℕ → List Vop
two_ops v None a b = []
two_ops v (Some x) a b = plain x (dst.Reg v) (src.Reg a) (src.Reg b) ∷ []

abbrev pub one_ops : ℕ → UnOp → ℕ → List Vop
one_ops v one.Not a = plain (op.Add add_op.Not) (dst.Reg v) (src.Reg a) (src.Reg a) ∷ []
one_ops v one.Neg a = plain (op.Add add_op.Sub) (dst.Reg v) (small 0) (src.Reg a) ∷ []
one_ops v one.Clz a = plain (op.Add add_op.Clz) (dst.Reg v) (src.Reg a) (src.Reg a) ∷ []
one_ops v o a = []

-- a where c isn't 0, else b; v may be any of them
abbrev pub choose_ops : ℕ → ℕ → ℕ → ℕ → List Vop
choose_ops v c a b =
    if b == v then asks c ∷ move_where_set v a ∷ []
    else if a == v then asks c ∷ move_where_zero v b ∷ []
    else asks c ∷ moves v b ∷ move_where_set v a ∷ []

-- the size, of those that stand from register `first` on, of the dimension that register d says; past 2 it is 1
abbrev pub size_ops : ℕ → ℕ → ℕ → ℕ → List Vop
size_ops t first v d =
    copy (dst.Reg t) (small 1)
    ∷ asks d
    ∷ move_where_zero t first
    ∷ compares d 1
    ∷ move_where_zero t (first + 1)
    ∷ compares d 2
    ∷ move_where_zero t (first + 2)
    ∷ moves v t
    ∷ []

abbrev pub work_ops : Shape → ℕ → WorkFunction → ℕ → List Vop
work_ops h v WorkDim d = moves v (dims_reg h) ∷ []
work_ops h v GlobalSize d = size_ops (temporary h) (global_reg h) v d
work_ops h v LocalSize d = size_ops (temporary h) (local_reg h) v d
work_ops h v which d = []

-- 16 times the batch's number, and the lane
abbrev pub flat_ops : Shape → ℕ → List Vop
flat_ops h v =
    plain (op.Add add_op.Shl) (dst.Reg v) (src.Reg (batch_reg h)) (small 4)
    ∷ plain (op.Add add_op.Add) (dst.Reg v) (src.Reg v) src.Elem
    ∷ []

abbrev pub let_ops : Shape → ℕ → Def → List Vop
let_ops h v (Const x) = copy (dst.Reg v) (constant x) ∷ []
let_ops h v (Param p) = moves v (param_reg h p) ∷ []
let_ops h v (Work which d) = work_ops h v which d.0
let_ops h v (Get u) = moves v (var_reg h u) ∷ []
let_ops h v (Bin o a b) = two_ops v (unit_op o) a.0 b.0
let_ops h v (One o a) = one_ops v o a.0
let_ops h v (Built which work args) = []
let_ops h v (Choose c a b) = choose_ops v c.0 a.0 b.0
let_ops h v (Loads t a) = []
let_ops h v (Element r i) = []
let_ops h v Flat = flat_ops h v
let_ops h v Items = moves v (items_reg h) ∷ []

-- variable u becomes x where the mask isn't 0
abbrev pub put_ops : Shape → ℕ → ℕ → ℕ → List Vop
put_ops h u x m = asks m ∷ move_where_set (var_reg h u) x ∷ []

-- ---- statements

-- where a statement stands: the number of the block that is still open, its operations so far, and how many accesses stand before it
pub record Start : Type 0 where
  pub block : ℕ
  pub ops : List Vop
  pub next : ℕ

-- what it adds: the blocks that are closed, and then the operations of the open block, and how many accesses there are
pub record Piece : Type 0 where
  pub closed : List (Block vops)
  pub ops : List Vop
  pub next : ℕ

abbrev pub after : Start → Piece → Start
after s q = record { block = s.block + length q.closed; ops = q.ops; next = q.next }

-- a piece and what comes after it
abbrev pub joined : Piece → Piece → Piece
joined q p = record { closed = q.closed ++ p.closed; ops = p.ops; next = p.next }

abbrev pub adds : Start → List Vop → Piece
adds s ops = record { closed = []; ops = s.ops ++ ops; next = s.next }

-- the blocks of access n; there are none where there is no such access
abbrev pub blocks_of : Option Code → List (Block vops)
blocks_of None = []
blocks_of (Some c) = c.blocks

-- the open block leads to the next, where the next access stands
abbrev pub enters : List Code → Start → Piece
enters cs s =
    record {
      closed = record { ops = s.ops; exit = Jump (s.block + 1) } ∷ map (shifted (s.block + 1)) (blocks_of (slice_get cs s.next));
      ops = [];
      next = s.next + 1;
    }

-- the block after the open one
abbrev pub opened : Start → Start
opened s = record { block = s.block + 1; ops = []; next = s.next }

-- where the body of a loop stands, whose head is this piece
abbrev pub body_at : Start → Piece → Start
body_at s head = opened (after (opened s) head)

-- the head, a test, and while it holds the body and the head again
abbrev pub loop_blocks : Start → Vop → BraCond → Piece → Piece → List (Block vops)
loop_blocks s test holds head body =
    record { ops = s.ops; exit = Jump (s.block + 1) }
    ∷ (head.closed
    ++ (record {
      ops = head.ops ++ test ∷ [];
      exit = Branch holds (body_at s head).block ((body_at s head).block + length body.closed + 1);
    }
    ∷ (body.closed ++ record { ops = body.ops; exit = Jump (s.block + 1) } ∷ [])))

abbrev pub looped : Start → Vop → BraCond → Piece → Piece → Piece
looped s test holds head body = record { closed = loop_blocks s test holds head body; ops = []; next = body.next }

-- a loop whose head stands, and whose body is this
abbrev pub around : Start → Vop → BraCond → Piece → (Start → Piece) → Piece
around s test holds head body = looped s test holds head (body (body_at s head))

-- what comes after a piece that stands
abbrev pub then_row : Start → Piece → (Start → Piece) → Piece
then_row s q rest = joined q (rest (after s q))

abbrev pub nothing : Start → Piece
nothing s = record { closed = []; ops = s.ops; next = s.next }

abbrev mutual
  pub emit : Shape → List Code → LaneStmt → Start → Piece
  emit h cs (Let v d) s = adds s (let_ops h v.0 d)
  emit h cs (Put u x m) s = adds s (put_ops h u x.0 m.0)
  emit h cs (Load t d a m) s = enters cs s
  emit h cs (Store t a x m) s = enters cs s
  emit h cs (GetElement r d j m) s = enters cs s
  emit h cs (PutElement r j x m) s = enters cs s
  emit h cs (Clear r m) s = enters cs s
  emit h cs (WhileAny' i head m j body) s = around s (asks m.0) AnyNz (emit_row h cs head (opened s)) (emit_row h cs body)

  pub emit_row : {k : _} → Shape → List Code → Row_of-LaneStmt k → Start → Piece
  emit_row h cs end_of-LaneStmt s = nothing s
  emit_row h cs (more_of-LaneStmt a rest) s = then_row s (emit h cs a s) (emit_row h cs rest)

abbrev pub emit_all : Shape → List Code → List LaneStmt → Start → Piece
emit_all h cs [] s = nothing s
emit_all h cs (a ∷ rest) s = then_row s (emit h cs a s) (emit_all h cs rest)
