use Rattle.std.proofs.Common.{◌≡◌, drop, map}
use Rattle.clc_lexer.specs.Tables.{among}
use Rattle.clc_lexer.proofs.words.is_among.Given as goal

abbrev pub invariant-loop-spelling : goal.invariant-loop-spelling
invariant-loop-spelling l =
    among (map (λ spelling. spelling.now) l.table) l.text ≡ among (map (λ spelling. spelling.now) (drop l.spelling-index l.table)) l.text
