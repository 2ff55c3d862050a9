use Rattle.vc4q_module.proofs.ModuleLaws.{one_spelling, length_of}
use Rattle.vc4q_module.proofs.Faults.{spellings_pass, passing_spells}
use Rattle.vc4q_module.proofs.laws.law_spelling.Goals as goal

pub returns-clause-one : goal.returns-clause-one
returns-clause-one c = one_spelling

pub returns-clause-passes : goal.returns-clause-passes
returns-clause-passes c = spellings_pass

pub returns-clause-spells : goal.returns-clause-spells
returns-clause-spells c = passing_spells

pub returns-clause-length : goal.returns-clause-length
returns-clause-length c = length_of
