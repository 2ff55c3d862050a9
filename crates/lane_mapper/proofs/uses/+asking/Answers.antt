use Rattle.std.proofs.Common.{◌≡◌, ap, sym, ◌∙◌}
use Rattle.lane_mapper.specs.Asked.{asked, asked_all}
use Rattle.lane_mapper.proofs.Lists.{asked-If, asked-Loop, asked-Scope}
use Rattle.lane_mapper.proofs.uses.+asking.Goals as goal

pub with_stmt-returns-in-If : goal.with_stmt-returns-in-If
with_stmt-returns-in-If t c = cc (asked-If c.args.uses c.in-If.cond c.in-If.yes c.in-If.no)

pub with_stmt-returns-in-Loop : goal.with_stmt-returns-in-Loop
with_stmt-returns-in-Loop t c = cc (asked-Loop c.args.uses c.in-Loop.head c.in-Loop.cond c.in-Loop.body c.in-Loop.step)

pub with_stmt-returns-in-Scope : goal.with_stmt-returns-in-Scope
with_stmt-returns-in-Scope t c = cc (asked-Scope c.args.uses c.in-Scope.body)
