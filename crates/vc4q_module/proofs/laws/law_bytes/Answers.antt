use Rattle.vc4q_module.proofs.Numbers.{four_back, eight_back, AreBytes-All}
use Rattle.vc4q_module.proofs.laws.law_bytes.Goals as goal

pub returns-clause-four : goal.returns-clause-four
returns-clause-four c = λ bytes long h. four_back bytes long (AreBytes-All bytes h)

pub returns-clause-eight : goal.returns-clause-eight
returns-clause-eight c = λ bytes long h. eight_back bytes long (AreBytes-All bytes h)
