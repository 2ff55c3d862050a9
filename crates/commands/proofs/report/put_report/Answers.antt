use Rattle.q_io.proofs.Steps.{puts_then}
use Rattle.commands.specs.Report.{report}
use Rattle.commands.proofs.report.put_report.Goals as goal

pub returns-in-Done-clause-answer : goal.returns-in-Done-clause-answer
unfolding report
returns-in-Done-clause-answer g c = puts_then _ _ _ _ _ c.put_after_stop.result c.in-Done.ensures.counts c.in-Done.ensures.answer c.put_after_stop.ensures.answer
