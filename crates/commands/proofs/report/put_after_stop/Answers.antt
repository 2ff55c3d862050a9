use Rattle.q_io.proofs.Steps.{puts_then}
use Rattle.commands.proofs.report.put_after_stop.Goals as goal

pub returns-in-Done-clause-answer : goal.returns-in-Done-clause-answer
returns-in-Done-clause-answer g c = puts_then _ _ _ _ _ c.put_qpus.result c.in-Done.ensures.counts c.in-Done.ensures.answer c.put_qpus.ensures.answer
