use Rattle.batch_law.proofs.Batch.{batches}
use Rattle.batch_law.proofs.law_batch.Goals as goal

pub returns : goal.returns
returns c = batches c.law_items.ensures c.law_prolog.ensures c.law_steps.ensures
