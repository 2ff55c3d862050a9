use Rattle.std.proofs.Common.{◌≡◌, ◌+◌, length, drop}
use Rattle.clc_lexer.specs.Reading.{digits_of}
use Rattle.clc_lexer.proofs.numbers.digit_count.Given as goal

abbrev pub invariant-loop-i : goal.invariant-loop-i
invariant-loop-i l = length (digits_of l.radix l.bytes) ≡ l.i + length (digits_of l.radix (drop l.i l.bytes))
