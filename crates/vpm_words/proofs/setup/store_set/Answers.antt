use Rattle.std.proofs.Common.{rules, ◌∙◌, ap}
use Rattle.vpm_words.specs.Words.{store_word, write_setup_of}
use Rattle.vpm_words.proofs.WordLaws.{store_written}
use Rattle.vpm_words.proofs.setup.store_set.Goals as goal

pub returns-clause-again : goal.returns-clause-again
unfolding store_word
returns-clause-again c = ap write_setup_of (search rules) ∙ store_written c.args.t (rw (← c.t.view_is) c.t.invariant)
