use Rattle.std.proofs.Common.{◌≡◌, drop}
use Rattle.std.specs.Prelude.{map}
use Rattle.clc_counts.specs.Counts.{plus, wholes_summed, stmt_counts}
use Rattle.clc_counts.proofs.count.+statements.Given as goal

abbrev pub invariant-statements-loop-s : goal.invariant-statements-loop-s
invariant-statements-loop-s l = wholes_summed plus l.tally (map (stmt_counts plus l.tallies) (drop l.s-index l.all)) ≡ wholes_summed plus l.initial.tally (map (stmt_counts plus l.tallies) l.all)
