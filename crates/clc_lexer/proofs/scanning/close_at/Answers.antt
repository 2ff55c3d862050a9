use Rattle.std.proofs.Common.{◌≡◌, ◌-◌, ◌∷◌, [], length, drop, take, ap, sym, ◌∙◌, arith}
use Rattle.std.proofs.lemmas.Grind.{common_steps}
use Rattle.clc_lexer.specs.Scanning.{starts_with}
use Rattle.clc_lexer.proofs.Closing.{close_step}
use Rattle.clc_lexer.proofs.scanning.close_at.Goals as goal

pub loop-i-preserved : goal.loop-i-preserved
loop-i-preserved c =
    let bytes = c.args.bytes.now in
    let i = c.loop-i.i in
    let all : take (length bytes - i) (drop i bytes) ≡ drop i bytes = grind (arith, common_steps) in
    close_step bytes i _ c.loop-i-test.true c.loop-i.invariant (ap (starts_with (42 ∷ 47 ∷ [])) (sym all) ∙ sym c.if-closes_comment.ensures)
