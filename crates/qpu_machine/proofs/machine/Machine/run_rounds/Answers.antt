use Rattle.std.proofs.Common.{◌∙◌, ap, length}
use Rattle.qpu_machine.specs.Schedules.{rounds_of}
use Rattle.qpu_machine.proofs.Runs.{runs_keep}
use Rattle.qpu_machine.proofs.machine.Machine.run_rounds.Goals as goal

pub returns-clause-fixed : goal.returns-clause-fixed
returns-clause-fixed c = ap (λ s. s.fixed) c.play_rounds.ensures ∙ (runs_keep (rounds_of c.args.rounds (length c.args.self.now.qpus)) c.args.self.now).0

pub returns-clause-count : goal.returns-clause-count
returns-clause-count c = ap (λ s. length s.qpus) c.play_rounds.ensures ∙ (runs_keep (rounds_of c.args.rounds (length c.args.self.now.qpus)) c.args.self.now).1
