use Rattle.std.proofs.Common.{◌∙◌, ◌*◌, ap, arith}
use Rattle.qpu_machine.specs.Opening.{drawn_vpm, numbers_each}
use Rattle.qpu_machine.proofs.Seeds.{drawn_vpm-after}
use Rattle.qpu_machine.proofs.opening.open_seeded.Goals as goal

pub returns-clause-vpm : goal.returns-clause-vpm
returns-clause-vpm c =
    c.draw_vpm-vpm.ensures
    ∙ ap (λ s. drawn_vpm s 0) c.in_ok-qpus.ensures.state
    ∙ drawn_vpm-after c.args.seed (numbers_each * c.args.count) 0 (numbers_each * c.args.count) (omega arith)
