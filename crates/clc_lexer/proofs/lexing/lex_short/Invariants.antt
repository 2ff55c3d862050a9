use Rattle.std.proofs.Common.{length, ◌-◌}
use Rattle.clc_lexer.specs.Walking.{IsWalked}
use Rattle.clc_lexer.proofs.lexing.lex_short.Given as goal

abbrev pub invariant-pieces : goal.invariant-pieces
invariant-pieces l = IsWalked l.source l.at l.tokens.items

abbrev pub decreases-pieces : goal.decreases-pieces
decreases-pieces l = length l.source - l.at
