use Rattle.std.proofs.Common.{arith}
use Rattle.q_io.specs.declared.Put.TheVariants.{Done, Failed, Memory}
use Rattle.q_io.proofs.Steps.{sink_counts_then}
use Rattle.commands.proofs.ReportLaws.{puts_none}
use Rattle.commands.proofs.ListingLaws.{word_next, word_stopped, listing_end}
use Rattle.commands.proofs.disasm.put_words.Goals as goal

pub returns-in-Failed-clause-answer : goal.returns-in-Failed-clause-answer
returns-in-Failed-clause-answer g c =
    c.loop-word.invariant.rest _ Failed (word_stopped _ _ c.args.words.now c.loop-word.word-index Failed (omega arith) (λ e. cc) c.in-Failed.ensures.answer)

pub returns-in-Memory-clause-answer : goal.returns-in-Memory-clause-answer
returns-in-Memory-clause-answer g c =
    c.loop-word.invariant.rest _ Memory (word_stopped _ _ c.args.words.now c.loop-word.word-index Memory (omega arith) (λ e. cc) c.in-Memory.ensures.answer)

pub loop-word-preserved : goal.loop-word-preserved
loop-word-preserved g c = record {
  counts = sink_counts_then _ _ _ c.loop-word.invariant.counts c.in-Done.ensures.counts;
  rest = λ now put h. c.loop-word.invariant.rest now put (word_next _ _ now c.args.words.now c.loop-word.word-index put (omega arith) c.in-Done.ensures.counts c.in-Done.ensures.answer h);
}

pub returns-clause-answer : goal.returns-clause-answer
returns-clause-answer g c = c.loop-word.invariant.rest _ Done (puts_none _ _ (listing_end c.args.words.now c.loop-word.word-index (omega arith)))
