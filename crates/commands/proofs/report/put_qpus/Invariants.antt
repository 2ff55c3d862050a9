use Rattle.std.proofs.Common.{drop}
use Rattle.q_io.specs.declared.Put.{Put}
use Rattle.q_io.specs.SinkMeaning.{SinkState, SinkCountsStay, PutsAll}
use Rattle.commands.specs.Report.{all_qpu_lines}
use Rattle.commands.proofs.report.put_qpus.Given as goal

abbrev pub invariant-loop-k : goal.invariant-loop-k
invariant-loop-k g l = record {
  counts : SinkCountsStay (g.S.Sink.state l.initial.out) (g.S.Sink.state l.out);
  rest : (now : SinkState) (put : Put) → PutsAll (g.S.Sink.state l.out) now (all_qpu_lines l.k (drop l.k l.machine.qpus)) put
      → PutsAll (g.S.Sink.state l.initial.out) now (all_qpu_lines 0 l.machine.qpus) put;
}
