use Rattle.std.proofs.Common.{sym, ◌∙◌}
use Rattle.clc_lexer.specs.Tables.{word_spelling, all_words}
use Rattle.clc_lexer.proofs.Finding.{spelled_hit, spelled_miss}
use Rattle.clc_lexer.specs.declared.words.Word.TheVariants.{Kernel}
use Rattle.clc_lexer.proofs.words.word_of.Goals as goal

pub returns-then-eq : goal.returns-then-eq
returns-then-eq c =
    spelled_hit word_spelling all_words c.loop-word.word-index Kernel _ _ c.loop-word-test.true c.loop-word.invariant c.spelling.ensures (sym c.eq.ensures ∙ c.if-eq.true)

pub loop-word-preserved : goal.loop-word-preserved
loop-word-preserved c =
    spelled_miss word_spelling all_words c.loop-word.word-index Kernel _ _ c.loop-word-test.true c.loop-word.invariant c.spelling.ensures (sym c.eq.ensures ∙ c.if-eq.false)
