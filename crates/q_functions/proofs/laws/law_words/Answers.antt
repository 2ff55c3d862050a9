use Rattle.q_functions.proofs.WordsStay.{number_function-below}
use Rattle.q_functions.proofs.laws.law_words.Goals as goal

pub returns : goal.returns
returns c = number_function-below
