-- Which registers are cleared, and before which statements of a batch.
--
-- What writes a register in some lanes only leaves the others as they were. Where a register is first named so, what it held before the batch would have to
-- last, round the loop over batches. So it is cleared before the outermost statement that names it so: nothing reads it before.
use Rattle.std.specs.Prelude.{◌≡◌, ℕ, ◌<◌, Bool, true, false, not, ◌&&◌, List, [], ◌∷◌, ◌++◌, map, length, get_or, if◌then◌else◌}
use Rattle.item_ir.specs.declared.form.Def.{Def}
use Rattle.item_ir.specs.declared.form.Def.TheVariants.{Work, Get, Bin, One, Choose}
use Rattle.lane_ir.specs.declared.form.LaneStmt.{LaneStmt, Row_of-LaneStmt, end_of-LaneStmt, more_of-LaneStmt}
use Rattle.lane_ir.specs.declared.form.LaneStmt.TheVariants.{Let, Put, Load, Store, GetElement, PutElement, Clear, WhileAny'}
use Rattle.vop_ir.specs.declared.form.Dst.TheVariants as dst
use Rattle.vop_ir.specs.declared.form.Vop.{Vop}
use Rattle.vop_ir.specs.Operations.{copy, small}
use Rattle.vop_ir.specs.Valid.{holds}
use Rattle.vpm_dma_lower.specs.Accesses.{Code}
use Rattle.qpu_select.specs.Code.{Shape, Start, Piece, var_reg, then_row, nothing, adds, emit}
pub use Rattle.qpu_select.specs.declared.naming.Naming.{Naming}

-- read, or written in all lanes
abbrev pub wholly : ℕ → Naming
wholly r = record { reg = r; in_part = false }

-- written in some lanes only
abbrev pub partly : ℕ → Naming
partly r = record { reg = r; in_part = true }

-- the values and variables that a definition reads
abbrev pub reads : Shape → Def → List ℕ
reads h (Get u) = var_reg h u ∷ []
reads h (Work which d) = d.0 ∷ []
reads h (Bin o a b) = a.0 ∷ b.0 ∷ []
reads h (One o a) = a.0 ∷ []
reads h (Choose c a b) = c.0 ∷ a.0 ∷ b.0 ∷ []
reads h d = []

-- what a statement names, in the order of the text
abbrev mutual
  pub namings : Shape → LaneStmt → List Naming
  namings h (Let v d) = map wholly (reads h d) ++ wholly v.0 ∷ []
  namings h (Put u x m) = wholly x.0 ∷ wholly m.0 ∷ partly (var_reg h u) ∷ []
  namings h (Load t d a m) = wholly a.0 ∷ wholly m.0 ∷ partly d.0 ∷ []
  namings h (Store t a x m) = wholly a.0 ∷ wholly x.0 ∷ wholly m.0 ∷ []
  namings h (GetElement r d j m) = wholly j.0 ∷ wholly m.0 ∷ partly d.0 ∷ []
  namings h (PutElement r j x m) = wholly j.0 ∷ wholly x.0 ∷ wholly m.0 ∷ []
  namings h (Clear r m) = wholly m.0 ∷ []
  namings h (WhileAny' i head m j body) = namings_row h head ++ (wholly m.0 ∷ namings_row h body)

  pub namings_row : {k : _} → Shape → Row_of-LaneStmt k → List Naming
  namings_row h end_of-LaneStmt = []
  namings_row h (more_of-LaneStmt a rest) = namings h a ++ namings_row h rest

abbrev pub namings_all : Shape → List LaneStmt → List Naming
namings_all h [] = []
namings_all h (a ∷ rest) = namings h a ++ namings_all h rest

-- a naming asks for a clear where it is a write in some lanes only, of none of these registers, which were named before
abbrev pub cleared_by : List ℕ → Naming → List ℕ
cleared_by seen w = if w.in_part && not (holds w.reg seen) then w.reg ∷ [] else []

abbrev pub cleared : List ℕ → List Naming → List ℕ
cleared seen [] = []
cleared seen (w ∷ ws) = cleared_by seen w ++ cleared (w.reg ∷ seen) ws

-- what was named before, and what is named here
abbrev pub seen_after : List ℕ → List Naming → List ℕ
seen_after seen [] = seen
seen_after seen (w ∷ ws) = seen_after (w.reg ∷ seen) ws

abbrev pub clear : ℕ → Vop
clear r = copy (dst.Reg r) (small 0)

-- the outermost statements, and before each the clears for it
abbrev pub emit_body : Shape → List Code → List ℕ → List LaneStmt → Start → Piece
emit_body h cs seen [] s = nothing s
emit_body h cs seen (a ∷ rest) s =
    then_row s (adds s (map clear (cleared seen (namings h a)))) (λ t. then_row t (emit h cs a t) (emit_body h cs (seen_after seen (namings h a)) rest))

-- the flags say which registers these are
abbrev pub Marks : List Bool → List ℕ → Type 0
Marks flags seen = (r : ℕ) → r < length flags → get_or flags r false ≡ holds r seen
