use Rattle.std.proofs.Common.{◌≡◌, ap, ◌∙◌}
use Rattle.clc_types.specs.declared.typed.TFunction.{TFunction}
use Rattle.promise.specs.declared.refusal.Refusal.TheVariants.{Rule}
use Rattle.clc_front.proofs.SourceSteps.{named_at}
use Rattle.clc_front.proofs.wanted.refused.Goals as goal

pub returns : goal.returns
returns c = λ at other e.
    let function = c.index-functions-kernel.result in
    named_at c.args.functions.now c.args.kernel function c.args.rule other at c.requires c.index-functions-kernel.is (ap (λ (f : TFunction). Rule c.args.rule f.at) c.index-functions-kernel.is ∙ e)
