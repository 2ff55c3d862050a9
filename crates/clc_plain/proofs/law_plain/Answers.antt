use Rattle.clc_plain.proofs.Blocks.{program_plain}
use Rattle.clc_plain.proofs.law_plain.Goals as goal

pub returns : goal.returns
returns c = program_plain
