use Rattle.clc_parser.proofs.OneAnswer.{one_answer}
use Rattle.clc_parser.proofs.law_one_answer.Goals as goal

pub returns : goal.returns
returns c = one_answer
