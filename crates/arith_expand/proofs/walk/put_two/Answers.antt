use Rattle.std.proofs.Common.{◌≡◌, ap, ◌∙◌, true, false}
use Rattle.q_lane.specs.declared.operations.BinOp.TheVariants as op
use Rattle.arith_expand.proofs.walk.put_two.Goals as goal

pub returns-in-Div-true : goal.returns-in-Div-true
returns-in-Div-true c =
    let e : c.args.op ≡ op.Div true = c.in-Div-true.is ∙ ap op.Div c.in-Div-true.field-0-test in
    rw e (rw (c.magnitude_steps.ensures, c.signing_steps.ensures) at c.put_division.ensures)

pub returns-in-Div-false : goal.returns-in-Div-false
returns-in-Div-false c =
    let e : c.args.op ≡ op.Div false = c.in-Div-false.is ∙ ap op.Div c.in-Div-false.field-0-test in
    rw e (rw c.unsigned_steps.ensures at c.put_division-in-Div-false.ensures)

pub returns-in-Rem-true : goal.returns-in-Rem-true
returns-in-Rem-true c =
    let e : c.args.op ≡ op.Rem true = c.in-Rem-true.is ∙ ap op.Rem c.in-Rem-true.field-0-test in
    rw e (rw (c.magnitude_steps-in-Rem-true.ensures, c.signing_left_steps.ensures) at c.put_division-in-Rem-true.ensures)

pub returns-in-Rem-false : goal.returns-in-Rem-false
returns-in-Rem-false c =
    let e : c.args.op ≡ op.Rem false = c.in-Rem-false.is ∙ ap op.Rem c.in-Rem-false.field-0-test in
    rw e (rw c.unsigned_steps-in-Rem-false.ensures at c.put_division-in-Rem-false.ensures)
