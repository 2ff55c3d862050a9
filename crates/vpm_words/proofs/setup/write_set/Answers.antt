use Rattle.std.proofs.Common.{rules, ◌∙◌, ap}
use Rattle.vpm_words.specs.Words.{row_word, write_setup_of}
use Rattle.vpm_words.proofs.WordLaws.{row_written}
use Rattle.vpm_words.proofs.setup.write_set.Goals as goal

pub returns-clause-again : goal.returns-clause-again
unfolding row_word
returns-clause-again c = ap write_setup_of (search rules) ∙ row_written c.args.row c.requires
