-- Where a pair's word writes.
use Rattle.std.specs.Prelude.{ℕ, ◌+◌, Bool, true, false, not, Option, Some, None}
use Rattle.phys_ir.specs.declared.form.PDst.{PDst}
use Rattle.phys_ir.specs.declared.form.PDst.TheVariants as pdst
use Rattle.phys_ir.specs.declared.form.Pop.{Pop}
use Rattle.phys_ir.specs.declared.form.Pair.{Pair}
use Rattle.pair_words.specs.Reads.{nowhere}

abbrev pub address_of : PDst → ℕ
address_of (pdst.A r) = r
address_of (pdst.B r) = r
address_of (pdst.Acc r) = 32 + r
address_of pdst.Five = 37
address_of pdst.Nowhere = nowhere
address_of pdst.Vpm = 48
address_of pdst.ReadSet = 49
address_of pdst.WriteSet = 49
address_of pdst.LoadAddr = 50
address_of pdst.StoreAddr = 50
address_of pdst.Unlock = 51

-- whether it is written through B; none: through either
abbrev pub side_of : PDst → Option Bool
side_of (pdst.A r) = Some false
side_of (pdst.B r) = Some true
side_of (pdst.Acc r) = None
side_of pdst.Five = Some true
side_of pdst.Nowhere = None
side_of pdst.Vpm = None
side_of pdst.ReadSet = Some false
side_of pdst.WriteSet = Some true
side_of pdst.LoadAddr = Some false
side_of pdst.StoreAddr = Some true
side_of pdst.Unlock = None

abbrev pub side_of_part : Option Pop → Option Bool
side_of_part None = None
side_of_part (Some o) = side_of o.dst

abbrev pub swap_by : Option Bool → Option Bool → Bool
swap_by (Some through_b) other = through_b
swap_by None (Some through_b) = not through_b
swap_by None None = false

-- the add unit goes through B
unfoldable pub swaps : Pair → Bool
swaps p = swap_by (side_of_part p.add) (side_of_part p.mul)
