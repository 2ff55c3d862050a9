use Rattle.launch_meaning.specs.Small.{AreSmall}
use Rattle.pass_answers.proofs.judged.opening.Given as goal

abbrev pub invariant-loop-line : goal.invariant-loop-line
invariant-loop-line l = AreSmall l.buffers.items
