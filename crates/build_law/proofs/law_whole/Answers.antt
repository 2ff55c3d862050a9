-- The law.
use Rattle.build_law.proofs.Opens.{body_follows}
use Rattle.build_law.proofs.law_whole.Goals as goal

pub returns : goal.returns
returns c = body_follows
