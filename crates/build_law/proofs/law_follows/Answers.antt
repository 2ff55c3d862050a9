-- The law.
use Rattle.build_law.proofs.Whole.{stmt_follows}
use Rattle.build_law.proofs.law_follows.Goals as goal

pub returns : goal.returns
returns c = stmt_follows
