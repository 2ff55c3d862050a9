use Rattle.std.proofs.lemmas.Result.{IfOk-equal}
use Rattle.mask_flow.proofs.Lists.{if_written, loop_written, scope_written}
use Rattle.mask_flow.proofs.writing.+masking.Goals as goal

pub put_stmt-returns-in_ok-put_body-in-If-2 : goal.put_stmt-returns-in_ok-put_body-in-If-2
put_stmt-returns-in_ok-put_body-in-If-2 t c =
    IfOk-equal c.put_settling.result _ _ _ c.put_settling.ensures
    (if_written c.args.ids.now c.args.at _ c.in-If.cond c.args.stmt.now c.in-If.yes c.in-If.no _ _ c.args.out.now.items _ _ _ _
    c.in-If.is c.in_ok-branch-in-If.ensures.place c.as_slice.ensures c.as_slice-in-If.ensures
    c.in_ok-put_choice-in-If.ensures c.in_ok-put_body-in-If.ensures c.in_ok-put_other-in-If.ensures c.in_ok-put_body-in-If-2.ensures)

pub put_stmt-returns-in_ok-put_body-in-Loop-3 : goal.put_stmt-returns-in_ok-put_body-in-Loop-3
put_stmt-returns-in_ok-put_body-in-Loop-3 t c =
    IfOk-equal c.put_loop.result _ _ _ c.put_loop.ensures
    (loop_written c.args.ids.now c.args.at _ _ c.in-Loop.cond c.args.stmt.now c.in-Loop.head c.in-Loop.body c.in-Loop.step _ _ _ c.args.out.now.items _ _ _ _ _ _ _ _ _
    c.in-Loop.is c.in_ok-turning-in-Loop.ensures.place c.in_ok-inside-in-Loop.ensures.place
    c.as_slice-in-Loop.ensures c.as_slice-in-Loop-2.ensures c.as_slice-in-Loop-3.ensures c.in_ok-put_opening-in-Loop.ensures
    c.new-tested.ensures.items c.in_ok-put_body-in-Loop.ensures c.in_ok-put_test-in-Loop.ensures
    c.new-round.ensures.items c.in_ok-put_opening-in-Loop-2.ensures c.in_ok-put_body-in-Loop-2.ensures c.in_ok-put_settling-in-Loop.ensures c.in_ok-put_body-in-Loop-3.ensures)

pub put_stmt-returns-in_ok-put_opening-in-Scope : goal.put_stmt-returns-in_ok-put_opening-in-Scope
put_stmt-returns-in_ok-put_opening-in-Scope t c =
    IfOk-equal c.put_body-in-Scope.result _ _ _ c.put_body-in-Scope.ensures
    (scope_written c.args.ids.now c.args.at _ c.args.stmt.now c.in-Scope.body _ c.args.out.now.items _
    c.in-Scope.is c.in_ok-scope-in-Scope.ensures.place c.as_slice-in-Scope.ensures c.in_ok-put_opening-in-Scope.ensures)
