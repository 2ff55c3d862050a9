use Rattle.std.proofs.Common.{ap, sym, ◌∙◌, subst, length}
use Rattle.qpu_machine.specs.Planned.{IsPlan}
use Rattle.qpu_machine.proofs.Built.{built, opened_many}
use Rattle.qpu_machine.proofs.machine.Machine.begin.Goals as goal

pub invariant_of-result : goal.invariant_of-result
invariant_of-result c =
    built _ (length c.in_ok-qpus.field-0.qpus.items) (subst IsPlan (sym c.plan.view_is) c.requires)
    (ap length c.in_ok-qpus.ensures.qpus ∙ opened_many c.args.fill c.plan.inside.qpus)
