use Rattle.std.proofs.Common.{◌+◌, ◌-◌, length}
use Rattle.footprint.proofs.SweepLaws.{Swept}
use Rattle.footprint.proofs.conflicts.first_of.Given as goal

abbrev pub invariant-loop-i : goal.invariant-loop-i
invariant-loop-i l = Swept l.a l.b l.i l.j l.in_a l.in_b

abbrev pub decreases-loop-i : goal.decreases-loop-i
decreases-loop-i l = length l.a - l.i + (length l.b - l.j)
