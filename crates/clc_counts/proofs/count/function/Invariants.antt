use Rattle.std.proofs.Common.{◌≡◌, drop}
use Rattle.std.specs.Prelude.{map}
use Rattle.clc_counts.specs.Counts.{plus, summed, array_tally}
use Rattle.clc_counts.proofs.count.function.Given as goal

abbrev pub invariant-loop-var : goal.invariant-loop-var
invariant-loop-var l = summed plus l.tally (map array_tally (drop l.var-index l.var-items)) ≡ summed plus l.initial.tally (map array_tally l.var-items)
