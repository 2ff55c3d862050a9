use Rattle.vpm_words.proofs.RuleLaws.{split_agrees, stalls_agree, least_is_least}
use Rattle.vpm_words.proofs.laws.law_rules.Goals as goal

pub returns-clause-split : goal.returns-clause-split
returns-clause-split c = λ g p s a value words. split_agrees g p s a value words

pub returns-clause-least : goal.returns-clause-least
returns-clause-least c = λ t. least_is_least t

pub returns-clause-stalls : goal.returns-clause-stalls
returns-clause-stalls c = λ g p s a value words. stalls_agree g p s a value words
