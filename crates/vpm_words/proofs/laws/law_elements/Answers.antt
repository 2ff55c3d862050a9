use Rattle.vpm_words.proofs.MoveLaws.{elements_apart}
use Rattle.vpm_words.proofs.laws.law_elements.Goals as goal

pub returns : goal.returns
returns c = λ address t h. elements_apart address t h
