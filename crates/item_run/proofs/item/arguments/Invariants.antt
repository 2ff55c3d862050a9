use Rattle.std.proofs.Common.{◌≡◌, take}
use Rattle.std.specs.Prelude.{map}
use Rattle.item_meaning.specs.ItemMeaning.{value_of_arg}
use Rattle.item_run.proofs.item.arguments.Given as goal

abbrev pub invariant-loop-arg : goal.invariant-loop-arg
invariant-loop-arg l = l.values ≡ map value_of_arg (take l.arg-index l.args)
