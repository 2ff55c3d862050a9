use Rattle.std.proofs.Common.{◌≡◌, [], drop}
use Rattle.clc_counts.specs.Counts.{plus, counted_after}
use Rattle.clc_counts.proofs.count.count.Given as goal

abbrev pub invariant-loop-called : goal.invariant-loop-called
invariant-loop-called l = counted_after plus l.tallies.items (drop l.called-index l.functions) ≡ counted_after plus [] l.functions
