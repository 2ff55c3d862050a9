use Rattle.std.proofs.Common.{ap, sym, ◌∙◌, subst, length}
use Rattle.qpu_machine.specs.MachineRun.{IsIdle}
use Rattle.qpu_machine.proofs.Steps.{happens_idle, happens_stopped, happens_count, happens_fixed, happens_size}
use Rattle.qpu_machine.proofs.Nothing.{nothing_only, nothing_where}
use Rattle.qpu_machine.proofs.machine.Machine.step.Goals as goal

pub returns : goal.returns
returns c =
    let before = c.args.self.now in
    let step = c.args.step in
    record {
      state = c.take_step.ensures.state;
      effect = c.take_step.ensures.effect;
      idle = λ h. c.take_step.ensures.state ∙ happens_idle before step (subst IsIdle c.take_step.ensures.effect h);
      nothing = (λ e. nothing_only before step (sym c.take_step.ensures.effect ∙ e), λ h. c.take_step.ensures.effect ∙ nothing_where before step h);
      stopped = λ h. c.take_step.ensures.effect ∙ happens_stopped before step h;
      fixed = ap (λ s. s.fixed) c.take_step.ensures.state ∙ happens_fixed before step;
      count = ap (λ s. length s.qpus) c.take_step.ensures.state ∙ happens_count before step;
      size = ap (λ s. length s.memory) c.take_step.ensures.state ∙ happens_size before step;
    }
