use Rattle.std.proofs.Common.{◌≡◌, ◌++◌, ◌+◌, ◌-◌}
use Rattle.clc_inline.specs.Inlining.{numbers}
use Rattle.clc_inline.proofs.number.numbers.Given as goal

abbrev pub invariant-loop-i : goal.invariant-loop-i
invariant-loop-i l = l.list ++ numbers (l.from + l.i) (l.count - l.i) ≡ numbers l.from l.count
