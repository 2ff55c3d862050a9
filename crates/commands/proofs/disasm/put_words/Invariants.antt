use Rattle.std.proofs.Common.{drop}
use Rattle.q_io.specs.declared.Put.{Put}
use Rattle.q_io.specs.SinkMeaning.{SinkState, SinkCountsStay, PutsAll}
use Rattle.commands.specs.Disasm.{listing}
use Rattle.commands.proofs.disasm.put_words.Given as goal

abbrev pub invariant-loop-word : goal.invariant-loop-word
invariant-loop-word g l = record {
  counts : SinkCountsStay (g.S.Sink.state l.initial.out) (g.S.Sink.state l.out);
  rest : (now : SinkState) (put : Put) → PutsAll (g.S.Sink.state l.out) now (listing (drop l.word-index l.words)) put
      → PutsAll (g.S.Sink.state l.initial.out) now (listing l.words) put;
}
