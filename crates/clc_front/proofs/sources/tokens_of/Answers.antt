use Rattle.std.proofs.Common.{sym, ap, subst, Err}
use Rattle.clc_front.specs.Profile.{IsFirstViolation, bytes}
use Rattle.clc_front.proofs.SourceSteps.{told}
use Rattle.clc_front.proofs.sources.tokens_of.Goals as goal

pub returns-in-Err-Rule-clause-err : goal.returns-in-Err-Rule-clause-err
returns-in-Err-Rule-clause-err c = λ kernel rule at e.
    told c.args.source.now kernel _ rule _ at e
    (subst (λ r. IsFirstViolation c.args.source.now kernel r c.in-Err-Rule.at) (sym c.lexical_rule.ensures)
    (bytes c.in-Err-Rule.rule c.in-Err-Rule.at (c.in-Err-Rule.ensures.fault c.in-Err-Rule.rule c.in-Err-Rule.at (ap Err c.in-Err-Rule.field-0-is))))
