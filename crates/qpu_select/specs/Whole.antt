-- The code of a batch: its opening, and its statements in the loop over batches.
use Rattle.std.specs.Prelude.{ℕ, ◌+◌, List, [], ◌∷◌, ◌++◌, map}
use Rattle.std.specs.List.{range_with_len}
use Rattle.lane_ir.specs.declared.form.LaneStmt.{LaneStmt}
use Rattle.qpu_encode.specs.declared.form.AddOp.TheVariants as add_op
use Rattle.qpu_encode.specs.declared.form.BraCond.TheVariants.{AnyN}
use Rattle.vop_ir.specs.declared.form.Op.TheVariants as op
use Rattle.vop_ir.specs.declared.form.Src.TheVariants as src
use Rattle.vop_ir.specs.declared.form.Dst.TheVariants as dst
use Rattle.vop_ir.specs.declared.form.Exit.TheVariants.{Stop}
use Rattle.vop_ir.specs.declared.form.Vop.{Vop}
use Rattle.vop_ir.specs.Operations.{plain, flagged, copy}
use Rattle.vop_ir.specs.Runs.{Block, vops}
use Rattle.vpm_dma_lower.specs.Accesses.{Code}
use Rattle.qpu_select.specs.Code.{Shape, batch_reg, step_reg, batches_reg, items_reg, dims_reg, global_reg, local_reg, Start, Piece, opened, around, then_row, nothing, adds}
use Rattle.qpu_select.specs.Clears.{emit_body}

-- the registers of the uniforms that each kernel has, in their order
abbrev pub work_regs : Shape → List ℕ
work_regs h =
    h.vals ∷ batch_reg h ∷ step_reg h ∷ batches_reg h ∷ items_reg h ∷ dims_reg h
    ∷ global_reg h ∷ (global_reg h + 1) ∷ (global_reg h + 2) ∷ local_reg h ∷ (local_reg h + 1) ∷ (local_reg h + 2) ∷ []

-- and of the arguments
abbrev pub uniform_regs : Shape → List ℕ
uniform_regs h = work_regs h ++ range_with_len (h.vals + 13) h.params

abbrev pub takes : ℕ → Vop
takes r = copy (dst.Reg r) src.Uniform

-- N stands while the batch's number is below how many there are
abbrev pub more_batches : Shape → Vop
more_batches h = flagged (op.Add add_op.Sub) dst.Nowhere (src.Reg (batch_reg h)) (src.Reg (batches_reg h))

abbrev pub next_batch : Shape → Vop
next_batch h = plain (op.Add add_op.Add) (dst.Reg (batch_reg h)) (src.Reg (batch_reg h)) (src.Reg (step_reg h))

abbrev pub opening : Shape → Start
opening h = record { block = 0; ops = map takes (uniform_regs h); next = 0 }

-- a batch, and then the next batch of this QPU
abbrev pub batch : Shape → List Code → List LaneStmt → Start → Piece
batch h cs body s = then_row s (emit_body h cs [] body s) (λ t. adds t (next_batch h ∷ []))

abbrev pub program : Shape → List Code → List LaneStmt → List (Block vops)
program h cs body =
    (around (opening h) (more_batches h) AnyN (nothing (opened (opening h))) (batch h cs body)).closed ++ record { ops = []; exit = Stop } ∷ []
