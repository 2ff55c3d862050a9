-- The code of each access of a batch, in the order of the text: of a loop those of its head before those of its body.
use Rattle.std.specs.Prelude.{ℕ, ◌+◌, List, [], ◌∷◌, ◌++◌, map, sum, take, get_or}
use Rattle.lane_ir.specs.declared.form.LaneStmt.{LaneStmt, Row_of-LaneStmt, end_of-LaneStmt, more_of-LaneStmt}
use Rattle.lane_ir.specs.declared.form.LaneStmt.TheVariants.{Let, Put, Load, Store, GetElement, PutElement, Clear, WhileAny'}
use Rattle.vop_ir.specs.Runs.{Block, vops, block_from}
use Rattle.vpm_dma_lower.specs.declared.access.Access.{Access}
use Rattle.vpm_dma_lower.specs.Code.{load_blocks, store_blocks, get_blocks, put_blocks, clear_blocks}

-- blocks of an access, over this many registers
pub record Code : Type 0 where
  pub regs : ℕ
  pub blocks : List (Block vops)

abbrev pub code_from : Access → Code
code_from a = record { regs = a.regs; blocks = map block_from a.blocks.items }

-- an access of a batch of `vals` values has seven registers of its own, above that of the scratch
abbrev pub code_over : ℕ → List (Block vops) → Code
code_over vals blocks = record { regs = vals + 8; blocks = blocks }

-- the row of the scratch in which an array begins: each element of the arrays before it has a row
abbrev pub first_row : List ℕ → ℕ → ℕ
first_row lens array = sum (take array lens)

abbrev mutual
  -- `vals` is how many values there are, `lens` the lengths of the arrays
  pub codes : ℕ → List ℕ → LaneStmt → List Code
  codes vals lens (Let v d) = []
  codes vals lens (Put v x m) = []
  codes vals lens (Load t d a m) = code_over vals (load_blocks 0 vals t d.0 a.0 m.0) ∷ []
  codes vals lens (Store t a x m) = code_over vals (store_blocks 0 vals t a.0 x.0 m.0) ∷ []
  codes vals lens (GetElement r d j m) = code_over vals (get_blocks 0 vals (first_row lens r) d.0 j.0 m.0) ∷ []
  codes vals lens (PutElement r j x m) = code_over vals (put_blocks 0 vals (first_row lens r) j.0 x.0 m.0) ∷ []
  codes vals lens (Clear r m) = code_over vals (clear_blocks 0 vals (first_row lens r) (get_or lens r 0) m.0) ∷ []
  codes vals lens (WhileAny' h head m b body) = codes_row vals lens head ++ codes_row vals lens body

  pub codes_row : {k : _} → ℕ → List ℕ → Row_of-LaneStmt k → List Code
  codes_row vals lens end_of-LaneStmt = []
  codes_row vals lens (more_of-LaneStmt a rest) = codes vals lens a ++ codes_row vals lens rest

abbrev pub codes_all : ℕ → List ℕ → List LaneStmt → List Code
codes_all vals lens [] = []
codes_all vals lens (a ∷ rest) = codes vals lens a ++ codes_all vals lens rest
