use Rattle.std.proofs.Common.{rules, ◌∙◌, ap}
use Rattle.vpm_words.specs.Words.{rows_word, read_setup_of}
use Rattle.vpm_words.proofs.WordLaws.{rows_read}
use Rattle.vpm_words.proofs.setup.read_set.Goals as goal

pub returns-clause-again : goal.returns-clause-again
unfolding rows_word
returns-clause-again c = ap read_setup_of (search rules) ∙ rows_read c.args.row c.args.rows c.requires
