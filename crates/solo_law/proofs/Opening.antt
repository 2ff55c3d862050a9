-- An opening is a start of the laws.
use Rattle.std.specs.Prelude.{refl}
use Rattle.qpu_machine.specs.Opening.{opening, opening_shared}
use Rattle.qpu_machine.proofs.RangeRuns.{opening_in_range}
use Rattle.solo_law.specs.Laws.{OpeningsStart}

pub openings_start : OpeningsStart
unfolding opening opening_shared
openings_start plan contents h c w b = record { owner = refl; loads = refl; stores = refl; broken = refl; range = opening_in_range plan contents h c w b }
