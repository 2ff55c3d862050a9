use Rattle.std.proofs.Common.{◌≡◌, ◌+◌, length, drop}
use Rattle.clc_lexer.specs.Scanning.{run_of}
use Rattle.clc_lexer.proofs.scanning.run_len.Given as goal

abbrev pub invariant-loop-i : goal.invariant-loop-i
invariant-loop-i l = length (run_of l.bytes) ≡ l.i + length (run_of (drop l.i l.bytes))
