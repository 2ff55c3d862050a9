use Rattle.qpu_encode.proofs.WordBounds.{add_value-below, mul_value-below, unpacked-below, small_word-below}
use Rattle.qpu_encode.proofs.laws.law_words.Goals as goal

pub returns-clause-add : goal.returns-clause-add
returns-clause-add c = add_value-below

pub returns-clause-mul : goal.returns-clause-mul
returns-clause-mul c = mul_value-below

pub returns-clause-unpack : goal.returns-clause-unpack
returns-clause-unpack c = unpacked-below

pub returns-clause-small : goal.returns-clause-small
returns-clause-small c = small_word-below
