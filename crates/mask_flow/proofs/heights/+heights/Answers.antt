use Rattle.std.proofs.Common.{◌∙◌}
use Rattle.std.proofs.lemmas.Result.{IfOk-weaker}
use Rattle.mask_flow.proofs.Lists.{height_if, height_loop, height_scope}
use Rattle.mask_flow.proofs.heights.+heights.Goals as goal

pub height-returns-in_ok-no-in-If : goal.height-returns-in_ok-no-in-If
height-returns-in_ok-no-in-If t c =
    let e = height_if c.args.stmt.now c.in-If.cond c.in-If.yes c.in-If.no _ _ _ _ _ c.in-If.is c.as_slice.ensures c.as_slice-in-If.ensures c.in_ok-yes-in-If.ensures c.in_ok-no-in-If.ensures c.max.ensures in
    IfOk-weaker c.higher.result _ _ (λ n h. h ∙ e) c.higher.ensures

pub height-returns-in_ok-step-in-Loop : goal.height-returns-in_ok-step-in-Loop
height-returns-in_ok-step-in-Loop t c =
    let e = height_loop c.args.stmt.now c.in-Loop.cond c.in-Loop.head c.in-Loop.body c.in-Loop.step _ _ _ _ _ _ _ _
    c.in-Loop.is c.as_slice-in-Loop.ensures c.as_slice-in-Loop-2.ensures c.as_slice-in-Loop-3.ensures
    c.in_ok-head-in-Loop.ensures c.in_ok-body-in-Loop.ensures c.in_ok-step-in-Loop.ensures c.max-in-Loop.ensures c.max-in-Loop-2.ensures in
    IfOk-weaker c.higher-in-Loop.result _ _ (λ n h. h ∙ e) c.higher-in-Loop.ensures

pub height-returns-in_ok-height_in-in-Scope : goal.height-returns-in_ok-height_in-in-Scope
height-returns-in_ok-height_in-in-Scope t c =
    let e = height_scope c.args.stmt.now c.in-Scope.body _ _ c.in-Scope.is c.as_slice-in-Scope.ensures c.in_ok-height_in-in-Scope.ensures in
    IfOk-weaker c.higher-in-Scope.result _ _ (λ n h. h ∙ e) c.higher-in-Scope.ensures
