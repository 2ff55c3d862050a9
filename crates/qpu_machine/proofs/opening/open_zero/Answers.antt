use Rattle.std.proofs.Common.{◌≡◌, ◌∙◌, ap, arith, replicate}
use Rattle.qpu_machine.specs.Opening.{opening_qpu, zero_regs}
use Rattle.qpu_machine.proofs.Seeds.{replicate-map}
use Rattle.qpu_machine.proofs.opening.open_zero.Goals as goal

pub returns-clause-qpus : goal.returns-clause-qpus
returns-clause-qpus c =
    let whole : c.loop-index._index ≡ c.args.count = omega arith in
    c.loop-index.invariant ∙ ap (λ n. replicate n (opening_qpu zero_regs)) whole ∙ replicate-map opening_qpu zero_regs c.args.count
