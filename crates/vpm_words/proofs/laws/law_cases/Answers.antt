use Rattle.vpm_words.proofs.CaseLaws.{known_rules, known_stalls, known_effects, known_shares}
use Rattle.vpm_words.proofs.laws.law_cases.Goals as goal

pub returns-clause-rules : goal.returns-clause-rules
returns-clause-rules c = known_rules

pub returns-clause-stalls : goal.returns-clause-stalls
returns-clause-stalls c = known_stalls

pub returns-clause-effects : goal.returns-clause-effects
returns-clause-effects c = known_effects

pub returns-clause-shares : goal.returns-clause-shares
returns-clause-shares c = known_shares
