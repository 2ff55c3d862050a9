use Rattle.std.proofs.Common.{◌∙◌, ap, ◌<◌, ◌^◌, arith}
use Rattle.q_functions.specs.NumberFunctions.{turned}
use Rattle.q_functions.proofs.Turns.{turned-is}
use Rattle.q_functions.proofs.numbers.rotate.Goals as goal

pub returns : goal.returns
returns c =
    let e = c.from-bits.ensures in
    let r = c.ranges.bits.fits in
    let h : c.from-bits.result < 2 ^ 32 = omega (arith, e, r) in
    turned-is c.from-bits.result c.args.width c.args.places h c.requires.bits c.requires.turn ∙ ap (λ b. turned c.args.width b c.args.places) e
