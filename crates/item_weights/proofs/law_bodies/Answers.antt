use Rattle.item_weights.proofs.Bodies.{bodies_are_within_limit}
use Rattle.item_weights.proofs.law_bodies.Goals as goal

pub returns : goal.returns
returns c = bodies_are_within_limit
