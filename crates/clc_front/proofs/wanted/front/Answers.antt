use Rattle.clc_front.proofs.Violations.{only_rule, only_kernel}
use Rattle.clc_front.proofs.wanted.front.Goals as goal

pub returns-clause-violated : goal.returns-clause-violated
returns-clause-violated c = only_rule c.args.source.now c.args.kernel.now c.found.result c.found.ensures.kernel c.found.ensures.refused

pub returns-clause-lawful : goal.returns-clause-lawful
returns-clause-lawful c = only_kernel c.args.source.now c.args.kernel.now c.found.result c.found.ensures.refused
