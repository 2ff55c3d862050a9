use Rattle.qpu_machine.proofs.RangeFill.{fill_in_range}
use Rattle.qpu_machine.proofs.RangeRuns.{opening_in_range, run_in_range}
use Rattle.qpu_machine.proofs.RangeSolo.{solo_in_range}
use Rattle.qpu_machine.proofs.laws.law_range.Goals as goal

pub returns-clause-opening : goal.returns-clause-opening
returns-clause-opening c = λ plan contents h k w b. opening_in_range plan contents h k w b

pub returns-clause-run : goal.returns-clause-run
returns-clause-run c = λ steps s h. run_in_range steps s h

pub returns-clause-solo : goal.returns-clause-solo
returns-clause-solo c = λ qpus x code g start vs w few number n h. solo_in_range qpus x code g start vs w few number n h

pub returns-clause-fill : goal.returns-clause-fill
returns-clause-fill c = λ fill qpus. fill_in_range fill qpus
