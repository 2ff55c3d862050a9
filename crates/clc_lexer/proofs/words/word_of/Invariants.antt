use Rattle.std.proofs.Common.{◌≡◌, drop}
use Rattle.clc_lexer.specs.Tables.{word_spelling, all_words}
use Rattle.clc_lexer.specs.Reading.{spelled}
use Rattle.clc_lexer.proofs.words.word_of.Given as goal

abbrev pub invariant-loop-word : goal.invariant-loop-word
invariant-loop-word l = spelled word_spelling all_words l.text ≡ spelled word_spelling (drop l.word-index l.word-items) l.text
