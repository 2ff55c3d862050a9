-- Where the blocks of a program lead.
use Rattle.std.specs.Prelude.{ℕ, Bool, true, ◌&&◌, nat_lt, List, [], ◌∷◌, length}
use Rattle.vop_ir.specs.declared.form.Exit.{Exit}
use Rattle.vop_ir.specs.Valid.{is_exit}
use Rattle.phys_ir.specs.declared.form.PhysBlock.{PhysBlock}
use Rattle.phys_ir.specs.declared.form.BundleBlock.{BundleBlock}

abbrev pub exit_of : PhysBlock → Exit
exit_of b = b.exit

abbrev pub pairs_exit : BundleBlock → Exit
pairs_exit b = b.exit

-- exits of a program of n blocks
abbrev pub are_exits : ℕ → List Exit → Bool
are_exits n [] = true
are_exits n (e ∷ es) = is_exit n e && are_exits n es

-- there is a first block, and each exit leads to a block that is there, none back to the first
unfoldable pub is_closed : List Exit → Bool
is_closed es = nat_lt 0 (length es) && are_exits (length es) es
