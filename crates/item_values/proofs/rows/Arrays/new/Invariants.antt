use Rattle.std.proofs.Common.{◌≡◌, [], replicate}
use Rattle.item_values.proofs.rows.Arrays.new.Given as goal

abbrev pub invariant-loop-i : goal.invariant-loop-i
invariant-loop-i l = l.rows.items ≡ replicate l.i []
