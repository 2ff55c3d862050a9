use Rattle.qpu_rules.proofs.Early.{early_first, uniform_is_read}
use Rattle.qpu_rules.proofs.laws.law_early.Goals as goal

pub returns-clause-first : goal.returns-clause-first
returns-clause-first c = early_first

pub returns-clause-uniform : goal.returns-clause-uniform
returns-clause-uniform c = uniform_is_read
