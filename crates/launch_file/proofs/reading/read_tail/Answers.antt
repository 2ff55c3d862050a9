use Rattle.std.proofs.Common.{rules, arith, ap, ◌∙◌, length}
use Rattle.launch_file.proofs.TailLaws.{ends_whole, ends_open}
use Rattle.launch_file.proofs.reading.read_tail.Goals as goal

pub loop-left-preserved : goal.loop-left-preserved
loop-left-preserved c =
    record {
      allowed = c.in_ok-left.ensures.allowed;
      number = let a = c.in_ok-left.ensures.count in omega arith;
      shorter = let a = c.in_ok-left.ensures.shorter in omega arith;
      leads = λ qpus global local bytes h. c.in_ok-left.ensures.onward qpus global local bytes (c.loop-left.invariant.leads qpus global local bytes h);
    }

pub returns-in-Some-clause-ends : goal.returns-in-Some-clause-ends
returns-in-Some-clause-ends c = λ qpus global local bytes h.
    let b = c.loop-left.body in
    ends_whole b.buffers.items b.args.items b.schedule c.in-Some.schedule c.loop-left.left.now qpus global local bytes (search rules) (search rules) (c.loop-left.invariant.leads qpus global local bytes h)

pub returns-in-None-clause-err : goal.returns-in-None-clause-err
returns-in-None-clause-err c = λ qpus global local bytes h.
    let b = c.loop-left.body in
    rw c.fault.ensures (ends_open b.buffers.items b.args.items b.schedule c.loop-left.left.now c.loop-left.number qpus global local bytes (search rules) (search rules) c.loop-left.invariant.number (c.loop-left.invariant.leads qpus global local bytes h))
