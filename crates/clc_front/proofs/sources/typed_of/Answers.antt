use Rattle.std.proofs.Common.{sym, subst, ◌<◌, ◌^◌, length, Err}
use Rattle.clc_types.specs.Programs.{program, Judges}
use Rattle.clc_check.specs.Checked.{functions_in}
use Rattle.clc_front.specs.Profile.{typing_rule, IsFirstViolation, typing}
use Rattle.clc_front.proofs.SourceSteps.{few_tokens, few_typed, short_enough, checked_fine, checked_faulty, told}
use Rattle.clc_front.proofs.sources.typed_of.Goals as goal

pub check-requires-clause-proper : goal.check-requires-clause-proper
check-requires-clause-proper c = (c.requires.program.text.0, c.requires.program.text.1)

pub check-requires-clause-fits : goal.check-requires-clause-fits
check-requires-clause-fits c = subst (λ ts. length ts < 2 ^ 32) (sym c.requires.flat) (few_tokens c.args.source.now c.args.tokens.now c.requires.program.spelled)

pub place_of-requires : goal.place_of-requires
place_of-requires c = short_enough c.args.source.now c.requires.program.spelled.lawful

pub returns-in-Ok-clause-ok : goal.returns-in-Ok-clause-ok
returns-in-Ok-clause-ok c = checked_fine (program c.args.tree.now) _ c.in-Ok.ensures

pub returns-in-Ok-clause-few : goal.returns-in-Ok-clause-few
returns-in-Ok-clause-few c =
    few_typed c.args.source.now c.args.tokens.now c.args.tree.now _ c.requires.program.spelled c.requires.flat (checked_fine (program c.args.tree.now) _ c.in-Ok.ensures)

pub returns-in-Err-Rule-clause-err : goal.returns-in-Err-Rule-clause-err
returns-in-Err-Rule-clause-err c = λ kernel rule at e.
    let least = checked_faulty (program c.args.tree.now) c.in-Err-Rule.rule c.in-Err-Rule.token (subst (λ f. Judges (program c.args.tree.now) (functions_in (Err f))) c.in-Err-Rule.field-0-is c.in-Err-Rule.ensures) in
    told c.args.source.now kernel _ rule _ at e
    (subst (λ r. IsFirstViolation c.args.source.now kernel r c.place_of.result) (sym c.typing_rule.ensures)
    (subst (IsFirstViolation c.args.source.now kernel (typing_rule c.in-Err-Rule.rule)) (sym c.place_of.ensures)
    (typing c.args.tokens.now c.args.tree.now least.0 least.1 (record { token = c.in-Err-Rule.token; rule = c.in-Err-Rule.rule }) c.requires.program least.2 least.3)))
