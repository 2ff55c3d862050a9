use Rattle.prolog_law.proofs.Quotients.{words_divide}
use Rattle.prolog_law.proofs.law_words_divide.Goals as goal

pub returns : goal.returns
returns c = words_divide
