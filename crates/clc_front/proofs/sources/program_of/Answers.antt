use Rattle.std.proofs.Common.{sym, subst}
use Rattle.clc_reading.specs.Reading.{Wrong, Deep}
use Rattle.clc_parser.specs.SourceTree.{IsFirstFault}
use Rattle.promise.specs.declared.refusal.SourceRule.TheVariants.{G1, G2}
use Rattle.clc_front.specs.Profile.{IsFirstViolation, grammar}
use Rattle.clc_front.proofs.SourceSteps.{few_tokens, short_enough, told}
use Rattle.clc_front.proofs.sources.program_of.Goals as goal

pub parse-requires : goal.parse-requires
parse-requires c = few_tokens c.args.source.now c.args.tokens.now c.requires

pub place_of-requires : goal.place_of-requires
place_of-requires c = short_enough c.args.source.now c.requires.lawful

pub place_of-requires-in-Err-G2 : goal.place_of-requires-in-Err-G2
place_of-requires-in-Err-G2 c = short_enough c.args.source.now c.requires.lawful

pub returns-in-Err-G1-clause-err : goal.returns-in-Err-G1-clause-err
returns-in-Err-G1-clause-err c = λ kernel rule at e.
    let fault = subst (λ f. IsFirstFault 65 f c.args.tokens.now) c.in-Err-G1.field-0-is c.in-Err-G1.ensures.fault in
    told c.args.source.now kernel G1 rule _ at e
    (subst (IsFirstViolation c.args.source.now kernel G1) (sym c.place_of.ensures) (grammar c.args.tokens.now Wrong c.in-Err-G1.token c.requires fault))

pub returns-in-Err-G2-clause-err : goal.returns-in-Err-G2-clause-err
returns-in-Err-G2-clause-err c = λ kernel rule at e.
    let fault = subst (λ f. IsFirstFault 65 f c.args.tokens.now) c.in-Err-G2.field-0-is c.in-Err-G2.ensures.fault in
    told c.args.source.now kernel G2 rule _ at e
    (subst (IsFirstViolation c.args.source.now kernel G2) (sym c.place_of-in-Err-G2.ensures) (grammar c.args.tokens.now Deep c.in-Err-G2.token c.requires fault))
