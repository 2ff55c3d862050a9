use Rattle.clc_front.proofs.Violations.{judged_once}
use Rattle.clc_front.proofs.laws.law_judged_once.Goals as goal

pub returns : goal.returns
returns c = judged_once
