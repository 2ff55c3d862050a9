use Rattle.std.proofs.Common.{sym, subst}
use Rattle.clc_lexer.specs.Scanning.{IsFound}
use Rattle.clc_lexer.proofs.Found.{found_right, found_within}
use Rattle.clc_lexer.proofs.scanning.find.Goals as goal

pub returns : goal.returns
returns c =
    let bytes = c.args.bytes.now in
    let right : IsFound bytes c.found_at_front.result = subst (IsFound bytes) (sym c.found_at_front.ensures) (found_right bytes c.requires.some) in
    record { found = right; within = found_within bytes c.found_at_front.result right }
