use Rattle.std.proofs.Common.{◌+◌, ◌-◌, ◌++◌, ap, ◌∙◌, arith}
use Rattle.clc_inline.specs.Inlining.{numbers}
use Rattle.clc_inline.proofs.Numbers.{numbers_more}
use Rattle.clc_inline.proofs.number.numbers.Goals as goal

pub loop-i-preserved : goal.loop-i-preserved
loop-i-preserved c =
    ap (λ z. z ++ numbers (c.args.from + (c.loop-i.i + 1)) (c.args.count - (c.loop-i.i + 1))) c.in_ok-push.ensures.ok
    ∙ numbers_more c.loop-i.list c.args.from c.loop-i.i c.args.count c.in_ok-number.field-0 (omega (arith, c.loop-i-test.true)) c.in_ok-number.ensures c.loop-i.invariant
