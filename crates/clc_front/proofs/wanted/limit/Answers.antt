use Rattle.std.proofs.Common.{◌≡◌, ap, ◌∙◌}
use Rattle.std.specs.Prelude.{Err}
use Rattle.clc_counts.specs.declared.limits.LimitFault.{LimitFault}
use Rattle.clc_front.proofs.SourceSteps.{too_many_nodes, too_many_elements}
use Rattle.clc_front.proofs.wanted.limit.Goals as goal

pub returns-in-Err-N1-clause-refused : goal.returns-in-Err-N1-clause-refused
returns-in-Err-N1-clause-refused c = λ rule at e.
    too_many_nodes c.args.functions.now c.args.kernel c.in-Err-N1.field-0-0 rule at c.refused.result c.kernel_tally.result
    (c.in-Err-N1.is ∙ ap (λ (f : LimitFault). Err f) c.in-Err-N1.field-0-is) c.kernel_tally.ensures c.refused.ensures e

pub returns-in-Err-N2-clause-refused : goal.returns-in-Err-N2-clause-refused
returns-in-Err-N2-clause-refused c = λ rule at e.
    too_many_elements c.args.functions.now c.args.kernel c.in-Err-N2.field-0-0 rule at c.refused-in-Err-N2.result c.kernel_tally.result
    (c.in-Err-N2.is ∙ ap (λ (f : LimitFault). Err f) c.in-Err-N2.field-0-is) c.kernel_tally.ensures c.refused-in-Err-N2.ensures e
