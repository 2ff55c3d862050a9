use Rattle.std.proofs.Common.{ap, ◌∙◌}
use Rattle.qpu_rules.proofs.Chain.{is_least, none_of, some_of}
use Rattle.qpu_rules.specs.Restrictions.{least_rule}
use Rattle.qpu_rules.proofs.rules.first_broken.Goals as goal

pub returns-clause-none : goal.returns-clause-none
returns-clause-none c =
    let r = c.args.recent.now in
    let s = c.args.seen.now in
    let same = ap (λ f. least_rule f r s) c.instr.view_is in
    none_of c.args.instr.now r s c.least.result (is_least _ r s _ (c.least.ensures ∙ same) c.law_rules.ensures.least)

pub returns-clause-some : goal.returns-clause-some
returns-clause-some c =
    let r = c.args.recent.now in
    let s = c.args.seen.now in
    let same = ap (λ f. least_rule f r s) c.instr.view_is in
    some_of c.args.instr.now r s c.least.result (is_least _ r s _ (c.least.ensures ∙ same) c.law_rules.ensures.least)
