use Rattle.compile_pipe.proofs.Violations.{only_rule, only_made}
use Rattle.compile_pipe.proofs.compiling.compile.Goals as goal

pub returns-clause-violated : goal.returns-clause-violated
returns-clause-violated c = only_rule c.args.source.now c.args.kernel.now c.module_of.result c.module_of.ensures.profile c.module_of.ensures.refused

pub returns-clause-lawful : goal.returns-clause-lawful
returns-clause-lawful c = only_made c.args.source.now c.args.kernel.now c.module_of.result c.module_of.ensures.refused
