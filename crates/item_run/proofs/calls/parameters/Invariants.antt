use Rattle.std.proofs.Common.{◌≡◌, ◌++◌, drop}
use Rattle.item_meaning.specs.ItemMeaning.{as_params}
use Rattle.item_run.proofs.calls.parameters.Given as goal

abbrev pub invariant-loop-i : goal.invariant-loop-i
invariant-loop-i l = l.values ++ as_params (drop l.i l.params) (drop l.i l.args) ≡ as_params l.params l.args
