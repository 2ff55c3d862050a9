use Rattle.std.proofs.Common.{◌≡◌, ◌++◌, ◌-◌, replicate}
use Rattle.item_meaning.specs.declared.values.Value.TheVariants.{Null}
use Rattle.item_run.proofs.calls.variables.Given as goal

abbrev pub invariant-loop-i : goal.invariant-loop-i
invariant-loop-i l = l.values ≡ l.initial.values ++ replicate (l.i - l.params) Null
