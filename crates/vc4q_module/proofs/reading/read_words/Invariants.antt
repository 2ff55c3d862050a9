use Rattle.std.proofs.Common.{◌≡◌}
use Rattle.vc4q_module.specs.ModuleBytes.{words_in}
use Rattle.vc4q_module.proofs.reading.read_words.Given as goal

abbrev pub invariant-loop-i : goal.invariant-loop-i
invariant-loop-i l = l.words.items ≡ words_in l.i l.bytes
