use Rattle.std.proofs.Common.{ap, arith}
use Rattle.std.specs.Int.Count.{count_leading_zeros}
use Rattle.q_lane.specs.Numbers.{width as width_of}
use Rattle.q_functions.proofs.Turns.{leading-narrow, width-few}
use Rattle.q_functions.proofs.numbers.leading_zeros.Goals as goal

pub overflow_sub-result-2 : goal.overflow_sub-result-2
overflow_sub-result-2 c =
    let e = c.width.ensures in
    let l = leading-narrow (width_of c.args.scalar) c.low_bits.result (width-few c.args.scalar) c.low_bits.ensures.small in
    omega (arith, e, l)

pub returns : goal.returns
returns c =
    let e = c.width.ensures in
    let l = leading-narrow (width_of c.args.scalar) c.low_bits.result (width-few c.args.scalar) c.low_bits.ensures.small in
    let m = ap (count_leading_zeros (width_of c.args.scalar)) c.low_bits.ensures.value in
    omega (arith, e, l, m)
