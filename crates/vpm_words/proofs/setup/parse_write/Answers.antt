use Rattle.std.proofs.Common.{◌≡◌, ◌≢◌, true, sym, subst}
use Rattle.std.specs.Prelude.{Option, IfSome, IfNone}
use Rattle.vpm_words.specs.declared.setup.WriteSetup.{WriteSetup}
use Rattle.vpm_words.specs.Words.{is_write_setup, write_word, IsWriteSetupOf}
use Rattle.vpm_words.proofs.WordLaws.{write_is, write_none}
use Rattle.vpm_words.proofs.setup.parse_write.Goals as goal

pub returns-clause-back : goal.returns-clause-back
returns-clause-back c = subst (λ (o : Option WriteSetup). IfSome o (IsWriteSetupOf c.args.word)) (sym c.find_write.ensures) (write_is c.args.word)

pub returns-clause-none : goal.returns-clause-none
returns-clause-none c =
    subst (λ (o : Option WriteSetup). IfNone o ((s : WriteSetup) → is_write_setup s ≡ true → write_word s ≢ c.args.word)) (sym c.find_write.ensures) (write_none c.args.word)
