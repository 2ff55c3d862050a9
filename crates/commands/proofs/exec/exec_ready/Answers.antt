use Rattle.std.proofs.Common.{◌≡◌, length, sym, ap, ◌∙◌}
use Rattle.commands.specs.Openings.{opening_for}
use Rattle.commands.proofs.OpeningLaws.{count_qpus, count_regions}
use Rattle.commands.proofs.exec.exec_ready.Goals as goal

pub play-requires-clause-qpus : goal.play-requires-clause-qpus
play-requires-clause-qpus g c =
    let is : c.in-Ok.machine ≡ opening_for c.args.module c.args.launch c.args.buffers.now = c.in-Ok.ensures in
    sym (ap (λ s. length s.qpus) is ∙ count_qpus c.args.module c.args.launch c.args.buffers.now)

pub play-requires-clause-buffers : goal.play-requires-clause-buffers
play-requires-clause-buffers g c =
    let is : c.in-Ok.machine ≡ opening_for c.args.module c.args.launch c.args.buffers.now = c.in-Ok.ensures in
    sym (ap (λ s. length s.fixed.buffers) is ∙ count_regions c.args.module c.args.launch c.args.buffers.now)
