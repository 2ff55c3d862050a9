use Rattle.std.proofs.Common.{◌≡◌, drop}
use Rattle.clc_lexer.specs.Scanning.{close_of, more_by}
use Rattle.clc_lexer.proofs.scanning.close_at.Given as goal

abbrev pub invariant-loop-i : goal.invariant-loop-i
invariant-loop-i l = close_of l.bytes ≡ more_by l.i (close_of (drop l.i l.bytes))
