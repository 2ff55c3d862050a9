use Rattle.prolog_law.proofs.Ids.{prologs_right}
use Rattle.prolog_law.proofs.law_prolog.Goals as goal

pub returns : goal.returns
returns c = prologs_right
