use Rattle.clc_well_typed.proofs.Programs.{well_typed}
use Rattle.clc_well_typed.proofs.laws.law_well_typed.Goals as goal

pub returns : goal.returns
returns c = well_typed
