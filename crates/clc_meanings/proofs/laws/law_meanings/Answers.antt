use Rattle.clc_meanings.proofs.OneMeaning.{meanings_are_one}
use Rattle.clc_meanings.proofs.laws.law_meanings.Goals as goal

pub returns : goal.returns
returns c = meanings_are_one
