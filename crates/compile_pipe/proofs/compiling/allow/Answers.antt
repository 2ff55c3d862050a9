use Rattle.std.proofs.Common.{sym, ap, ◌∙◌, get_or}
use Rattle.promise.specs.declared.refusal.SourceRule.TheVariants.{N0}
use Rattle.clc_front.proofs.SourceSteps.{there_at}
use Rattle.compile_pipe.specs.Profile.{unbuilt}
use Rattle.compile_pipe.proofs.Violations.{told}
use Rattle.compile_pipe.proofs.compiling.allow.Goals as goal

pub returns-then-not-is_built-clause-err : goal.returns-then-not-is_built-clause-err
returns-then-not-is_built-clause-err c = λ rule at e source kernel is.
    let f = c.index-as_slice-front.result in
    let functions = c.args.front.now.typed.functions in
    let number = c.args.front.now.kernel in
    told source kernel N0 rule _ at e
    (unbuilt functions number f
    (record { has = is; there = there_at source kernel functions number f is (c.index-as_slice-front.is ∙ ap (λ fs. get_or fs number f) c.as_slice.ensures) })
    (sym c.is_built.ensures ∙ c.if-not-is_built.true))

pub returns-clause-ok : goal.returns-clause-ok
returns-clause-ok c = λ source kernel is.
    let f = c.index-as_slice-front.result in
    let functions = c.args.front.now.typed.functions in
    let number = c.args.front.now.kernel in
    record {
      functions = functions;
      number = number;
      function = f;
      wanted = record { has = is; there = there_at source kernel functions number f is (c.index-as_slice-front.is ∙ ap (λ fs. get_or fs number f) c.as_slice.ensures) };
      built = sym c.is_built.ensures ∙ c.if-not-is_built.false;
    }
