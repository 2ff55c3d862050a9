use Rattle.vc4q_module.proofs.Numbers.{words_in-more}
use Rattle.vc4q_module.proofs.reading.read_words.Goals as goal

pub loop-i-preserved : goal.loop-i-preserved
loop-i-preserved c =
    let more = words_in-more c.loop-i.i c.args.bytes.now in
    cc (c.in_ok-push.ensures.items, c.loop-i.invariant, c.word_at.ensures)
