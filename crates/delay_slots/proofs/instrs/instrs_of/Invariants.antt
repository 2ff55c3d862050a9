-- The words of the instructions so far, and those that are left.
use Rattle.std.proofs.Common.{◌≡◌, ◌++◌, drop}
use Rattle.std.specs.Prelude.{map}
use Rattle.qpu_encode.specs.WordFields.{word_of}
use Rattle.delay_slots.proofs.instrs.instrs_of.Given as goal

abbrev pub invariant-loop-word : goal.invariant-loop-word
invariant-loop-word l = map word_of l.instrs.items ++ drop l.word-index l.words ≡ l.words
