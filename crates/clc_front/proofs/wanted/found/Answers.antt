use Rattle.std.proofs.Common.{◌≡◌, ◌<◌, length, sym, ap, ◌∙◌, subst}
use Rattle.std.specs.Prelude.{Some, IfOk}
use Rattle.promise.specs.declared.refusal.SourceRule.TheVariants.{K1}
use Rattle.clc_front.specs.Profile.{HasKernel, IsTooLarge, no_kernel, too_large}
use Rattle.clc_front.proofs.SourceSteps.{kernel_within, kernel_kept, told, handed_on}
use Rattle.clc_front.proofs.wanted.found.Goals as goal

pub limit-requires : goal.limit-requires
limit-requires c = rw c.as_slice.ensures (kernel_within c.in_ok-typed.typed.functions c.args.kernel.now c.in-Some.kernel (sym c.kernel.ensures ∙ c.in-Some.is))

pub returns-in_err-limit-in-Some-clause-refused : goal.returns-in_err-limit-in-Some-clause-refused
returns-in_err-limit-in-Some-clause-refused c = λ rule at e.
    let functions = c.in_ok-typed.typed.functions in
    let number = c.in-Some.kernel in
    let large : IsTooLarge functions number rule at
    = handed_on functions number c.from_residual-in_err-limit-in-Some.result c.in_err-limit-in-Some.field-0.0 c.from_residual-in_err-limit-in-Some.ensures.1
    (λ r p is. subst (λ fs. IsTooLarge fs number r p) c.as_slice.ensures (c.in_err-limit-in-Some.ensures.refused r p is)) rule at e in
    too_large functions number rule at c.in_ok-typed.ensures.ok (sym c.kernel.ensures ∙ c.in-Some.is) large

pub returns-in_ok-limit-in-Some-clause-kernel : goal.returns-in_ok-limit-in-Some-clause-kernel
returns-in_ok-limit-in-Some-clause-kernel c =
    let source = c.args.source.now in
    let kernel = c.args.kernel.now in
    let functions = c.in_ok-typed.typed.functions in
    let number = c.in-Some.kernel in
    let named = sym c.kernel.ensures ∙ c.in-Some.is in
    let has : HasKernel source kernel functions number = record {
      is_typed = c.in_ok-typed.ensures.ok;
      named = named;
      there = kernel_within functions kernel number named;
      within = rw c.as_slice.ensures at c.in_ok-limit-in-Some.ensures.ok;
    } in
    kernel_kept source kernel functions number c.with_kinds.result has c.with_kinds.ensures.same

pub returns-in-None-clause-refused : goal.returns-in-None-clause-refused
returns-in-None-clause-refused c = λ rule at e.
    told c.args.source.now c.args.kernel.now K1 rule 0 at e (no_kernel c.in_ok-typed.typed.functions c.in_ok-typed.ensures.ok (sym c.kernel.ensures ∙ c.in-None.is))
