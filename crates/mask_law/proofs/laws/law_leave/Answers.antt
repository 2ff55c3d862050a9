use Rattle.mask_law.proofs.Leave.{scope_left, loop_left, round_left}
use Rattle.mask_law.proofs.laws.law_leave.Goals as goal

pub returns : goal.returns
returns c = record { scope = scope_left; loop_of = loop_left; round = round_left }
