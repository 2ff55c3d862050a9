-- How far marks reach that were passed in their order.
use Rattle.std.specs.Prelude.{ℕ, Bool, max, nat_eq, nat_lt, ◌&&◌, ◌||◌, if◌then◌else◌}
use Rattle.footprint.specs.declared.marks.Mark.{Mark}
use Rattle.footprint.specs.declared.marks.Use.{Use}
use Rattle.footprint.specs.declared.marks.Use.TheVariants.{Read, Write}
use Rattle.footprint.specs.declared.reach.Reach.{Reach}

abbrev pub further : Reach → Use → (to : ℕ) → Reach
further reach Read to = record { buffer = reach.buffer; read_to = max reach.read_to to; write_to = reach.write_to }
further reach Write to = record { buffer = reach.buffer; read_to = reach.read_to; write_to = max reach.write_to to }

-- with one mark more
abbrev pub reach_with : Reach → Mark → Reach
reach_with reach mark =
    further (if nat_eq reach.buffer mark.buffer then reach else record { buffer = mark.buffer; read_to = 0; write_to = 0 }) mark.how mark.to

abbrev pub meets_use : Reach → Use → (from : ℕ) → Bool
meets_use reach Read from = nat_lt from reach.write_to
meets_use reach Write from = nat_lt from reach.write_to || nat_lt from reach.read_to

-- one of them conflicts with a later mark at its first byte
abbrev pub meets : Reach → Mark → Bool
meets reach mark = nat_eq reach.buffer mark.buffer && meets_use reach mark.how mark.from
