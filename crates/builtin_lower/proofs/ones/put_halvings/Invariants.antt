use Rattle.std.proofs.Common.{◌≡◌, ◌++◌, ◌-◌}
use Rattle.lane_ir.specs.Recipe.{statements}
use Rattle.builtin_lower.specs.Lower.{halvings}
use Rattle.builtin_lower.proofs.ones.put_halvings.Given as goal

abbrev pub invariant-loop : goal.invariant-loop
invariant-loop l = l.out.items ++ statements l.first l.args (halvings (l.times - l.counter)) ≡ l.initial.out.items ++ statements l.first l.args (halvings l.times)
