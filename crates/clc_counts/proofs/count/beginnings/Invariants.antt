use Rattle.std.proofs.Common.{◌≡◌, drop}
use Rattle.std.specs.Prelude.{map}
use Rattle.clc_counts.specs.Counts.{plus, begins_summed, stmt_counts}
use Rattle.clc_counts.proofs.count.beginnings.Given as goal

abbrev pub invariant-loop-s : goal.invariant-loop-s
invariant-loop-s l = begins_summed plus l.tally (map (stmt_counts plus l.tallies) (drop l.s-index l.all)) ≡ begins_summed plus l.initial.tally (map (stmt_counts plus l.tallies) l.all)
