use Rattle.std.proofs.Common.{List}
use Rattle.launch_meaning.specs.declared.ends.Ended.{Ended}
use Rattle.launch_verdict.specs.Ran.{Ran}
use Rattle.launch_verdict.proofs.run.judge.Given as goal

abbrev pub invariant-loop-item : goal.invariant-loop-item
invariant-loop-item g l = (ended : List Ended) × Ran (g.W.WorkItems.item l.work) l.turns l.fn.buffers l.item ended l.left l.touches l.all
