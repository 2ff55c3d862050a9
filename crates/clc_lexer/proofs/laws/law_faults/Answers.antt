use Rattle.clc_lexer.proofs.FirstFaults.{one_first, fault_within}
use Rattle.clc_lexer.proofs.laws.law_faults.Goals as goal

pub returns : goal.returns
returns c = record { once = one_first; within = fault_within }
