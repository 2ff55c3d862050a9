-- Each operation is over places.
use Rattle.regfile_alloc.proofs.Emitted.{in_places_at}
use Rattle.regfile_alloc.proofs.pops.put_all.Goals as goal

pub put-requires-clause-dst : goal.put-requires-clause-dst
put-requires-clause-dst c = (in_places_at c.args.ops.now c.loop-op.op-index _ c.loop-op-test.true c.requires).0

pub put-requires-clause-a : goal.put-requires-clause-a
put-requires-clause-a c = (in_places_at c.args.ops.now c.loop-op.op-index _ c.loop-op-test.true c.requires).1

pub put-requires-clause-b : goal.put-requires-clause-b
put-requires-clause-b c = (in_places_at c.args.ops.now c.loop-op.op-index _ c.loop-op-test.true c.requires).2
