use Rattle.std.proofs.Common.{◌∙◌, ap, length}
use Rattle.qpu_machine.specs.Schedules.{seeded_of}
use Rattle.qpu_machine.proofs.Runs.{runs_keep}
use Rattle.qpu_machine.proofs.machine.Machine.run_seeded.Goals as goal

pub returns-clause-fixed : goal.returns-clause-fixed
returns-clause-fixed c = ap (λ s. s.fixed) c.play_seeded.ensures ∙ (runs_keep (seeded_of c.args.seed c.args.steps (length c.args.self.now.qpus)) c.args.self.now).0

pub returns-clause-count : goal.returns-clause-count
returns-clause-count c = ap (λ s. length s.qpus) c.play_seeded.ensures ∙ (runs_keep (seeded_of c.args.seed c.args.steps (length c.args.self.now.qpus)) c.args.self.now).1
