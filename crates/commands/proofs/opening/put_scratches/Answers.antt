use Rattle.std.proofs.Common.{◌+◌, ◌-◌, arith, replicate, sym, ap, ◌∙◌}
use Rattle.promise.specs.Openings.{with_regions}
use Rattle.commands.proofs.OpeningSteps.{same_regions}
use Rattle.commands.proofs.opening.put_scratches.Goals as goal

pub loop-qpu-preserved : goal.loop-qpu-preserved
loop-qpu-preserved c =
    let rest = replicate (c.args.qpus - (c.loop-qpu._qpu + 1)) c.args.scratch.now in
    ap (λ m. with_regions m rest) c.in_ok-put_region.ensures ∙ sym (same_regions c.loop-qpu.memory.items c.args.scratch.now c.args.qpus c.loop-qpu._qpu (omega arith)) ∙ c.loop-qpu.invariant
