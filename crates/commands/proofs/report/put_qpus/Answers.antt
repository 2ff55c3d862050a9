use Rattle.std.proofs.Common.{arith}
use Rattle.q_io.specs.declared.Put.TheVariants.{Done, Failed, Memory}
use Rattle.q_io.proofs.Steps.{sink_counts_then}
use Rattle.commands.proofs.ReportLaws.{puts_next, puts_stopped, puts_none, no_lines}
use Rattle.commands.proofs.report.put_qpus.Goals as goal

pub returns-in-Failed-clause-answer : goal.returns-in-Failed-clause-answer
returns-in-Failed-clause-answer g c =
    c.loop-k.invariant.rest _ Failed (puts_stopped _ _ c.args.machine.now.qpus c.loop-k.k c.qpu.result Failed (omega arith) c.qpu.ensures (λ e. cc) c.in-Failed.ensures.answer)

pub returns-in-Memory-clause-answer : goal.returns-in-Memory-clause-answer
returns-in-Memory-clause-answer g c =
    c.loop-k.invariant.rest _ Memory (puts_stopped _ _ c.args.machine.now.qpus c.loop-k.k c.qpu.result Memory (omega arith) c.qpu.ensures (λ e. cc) c.in-Memory.ensures.answer)

pub loop-k-preserved : goal.loop-k-preserved
loop-k-preserved g c = record {
  counts = sink_counts_then _ _ _ c.loop-k.invariant.counts c.in-Done.ensures.counts;
  rest = λ now put h. c.loop-k.invariant.rest now put (puts_next _ _ now c.args.machine.now.qpus c.loop-k.k c.qpu.result put (omega arith) c.qpu.ensures c.in-Done.ensures.counts c.in-Done.ensures.answer h);
}

pub returns-clause-answer : goal.returns-clause-answer
returns-clause-answer g c = c.loop-k.invariant.rest _ Done (puts_none _ _ (no_lines c.args.machine.now.qpus c.loop-k.k (omega arith)))
