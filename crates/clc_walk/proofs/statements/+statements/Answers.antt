use Rattle.std.proofs.Common.{sym, subst, Err, Ok}
use Rattle.clc_tree.specs.declared.statements.For.{out-For}
use Rattle.clc_types.specs.InternalSteps.{Stands, view_of, walk_for}
use Rattle.clc_walk.proofs.Listed.{handed}
use Rattle.clc_walk.proofs.ForParts.{test_stops, step_stops, body_stops}
use Rattle.clc_walk.proofs.statements.+statements.Goals as goal

pub for_loop-returns-in_err-cond : goal.for_loop-returns-in_err-cond
for_loop-returns-in_err-cond t c l =
    let x = c.args.x.now in
    let v = view_of c.args.state.now in
    let e = c.in_err-cond.field-0.0 in
    let new = c.maybe_condition.new.state in
    let a = rw (c.pass.ensures, c.in_ok-enter.ensures) at (c.in_ok-init.ensures l) in
    handed (walk_for x l v) c.from_residual-in_err-cond.result e new c.from_residual-in_err-cond.ensures.1
    (test_stops x l v c.in_ok-init.init c.for_start.new.state a e new (c.in_err-cond.ensures l))

pub for_loop-returns-in_err-step : goal.for_loop-returns-in_err-step
for_loop-returns-in_err-step t c l =
    let x = c.args.x.now in
    let v = view_of c.args.state.now in
    let e = c.in_err-step.field-0.0 in
    let new = c.maybe_value.new.state in
    let a = rw (c.pass.ensures, c.in_ok-enter.ensures) at (c.in_ok-init.ensures l) in
    let b = rw (c.pass-2.ensures) at (c.in_err-step.ensures l) in
    handed (walk_for x l v) c.from_residual-in_err-step.result e new c.from_residual-in_err-step.ensures.1
    (step_stops x l v c.in_ok-init.init c.for_start.new.state a c.in_ok-cond.cond c.maybe_condition.new.state e new (c.in_ok-cond.ensures l) b)

pub for_loop-returns-in_err-body : goal.for_loop-returns-in_err-body
for_loop-returns-in_err-body t c l =
    let x = c.args.x.now in
    let v = view_of c.args.state.now in
    let e = c.in_err-body.field-0.0 in
    let new = c.boxed.new.state in
    let a = rw (c.pass.ensures, c.in_ok-enter.ensures) at (c.in_ok-init.ensures l) in
    let b = rw (c.pass-2.ensures) at (c.in_ok-step.ensures l) in
    let d = rw (c.pass-3.ensures, c.get.ensures) at c.in_err-body.ensures in
    handed (walk_for x l v) c.from_residual-in_err-body.result e new c.from_residual-in_err-body.ensures.1
    (body_stops x l v c.in_ok-init.init c.for_start.new.state a c.in_ok-cond.cond c.maybe_condition.new.state c.in_ok-step.step c.maybe_value.new.state e new (c.in_ok-cond.ensures l) b d)
