-- What is promised of the outcome.
use Rattle.std.specs.Prelude.{◌≡◌, ℕ, List}
use Rattle.vop_ir.specs.declared.form.Exit.{Exit}
use Rattle.vop_ir.specs.declared.form.VopBlock.{VopBlock}
use Rattle.vop_ir.specs.Runs.{Block, vops}
use Rattle.phys_ir.specs.declared.whole.PhysIr.{PhysIr}
use Rattle.regfile_alloc.specs.Picks.{KeepsRun}

abbrev pub exit_from : VopBlock → Exit
exit_from b = b.exit

-- no row is added, and others see of the run what they see of the source's
pub record IsInFile (rows : ℕ) (source : List (Block vops)) (p : PhysIr) : Type 0 where
  pub same_rows : p.rows ≡ rows
  pub keeps : KeepsRun source p.blocks.items
