use Rattle.vpm_words.proofs.ElementLaws.{rest_fits}
use Rattle.vpm_words.proofs.queue.Queue.take.Goals as goal

pub invariant_of-self : goal.invariant_of-self
invariant_of-self c = rw c.remove.ensures.items (rest_fits c.self.inside.cells.items c.args.index c.self.invariant)
