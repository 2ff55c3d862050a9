use Rattle.std.proofs.Common.{◌≡◌, ap, ◌∙◌, false}
use Rattle.q_lane.specs.declared.operations.BinOp.TheVariants as op
use Rattle.builtin_lower.proofs.compare.put_two.Goals as goal

pub returns-in-Less-false : goal.returns-in-Less-false
returns-in-Less-false c =
    let e : c.args.op ≡ op.Less false = c.in-Less-false.is ∙ ap op.Less c.in-Less-false.field-0-test in
    rw e (rw c.less_unsigned_steps.ensures at c.put_defining-in-Less-false.ensures)
