use Rattle.std.proofs.Common.{◌≡◌, ◌≢◌, true, sym, subst}
use Rattle.std.specs.Prelude.{Option, IfSome, IfNone}
use Rattle.vpm_words.specs.declared.setup.ReadSetup.{ReadSetup}
use Rattle.vpm_words.specs.Words.{is_read_setup, read_word, IsReadSetupOf}
use Rattle.vpm_words.proofs.WordLaws.{read_is, read_none}
use Rattle.vpm_words.proofs.setup.parse_read.Goals as goal

pub returns-clause-back : goal.returns-clause-back
returns-clause-back c = subst (λ (o : Option ReadSetup). IfSome o (IsReadSetupOf c.args.word)) (sym c.find_read.ensures) (read_is c.args.word)

pub returns-clause-none : goal.returns-clause-none
returns-clause-none c =
    subst (λ (o : Option ReadSetup). IfNone o ((s : ReadSetup) → is_read_setup s ≡ true → read_word s ≢ c.args.word)) (sym c.find_read.ensures) (read_none c.args.word)
