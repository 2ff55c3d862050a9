use Rattle.std.proofs.Common.{◌≡◌, ◌+◌, length, drop}
use Rattle.clc_lexer.specs.Scanning.{line_of}
use Rattle.clc_lexer.proofs.scanning.line_len.Given as goal

abbrev pub invariant-loop-i : goal.invariant-loop-i
invariant-loop-i l = length (line_of l.bytes) ≡ l.i + length (line_of (drop l.i l.bytes))
