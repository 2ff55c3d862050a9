use Rattle.tight_words.proofs.Decide.{NoneFrom}
use Rattle.tight_words.proofs.search.loose_from.Given as goal

abbrev pub invariant-loop-i : goal.invariant-loop-i
invariant-loop-i l = NoneFrom l.words l.start l.i
