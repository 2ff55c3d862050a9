use Rattle.std.proofs.Common.{sym, subst}
use Rattle.std.specs.Str.Parse.{AllDigits}
use Rattle.clc_lexer.specs.Numerals.{radix}
use Rattle.clc_lexer.specs.Reading.{digits_of}
use Rattle.clc_lexer.proofs.Digits.{digits_all}
use Rattle.clc_lexer.proofs.numbers.number_of.Goals as goal

pub read_digits-requires : goal.read_digits-requires
read_digits-requires c =
    let r = radix c.split_base-base.result.0 in
    subst (AllDigits r) (sym c.split_digits.ensures.digits) (subst (λ k. AllDigits r (digits_of k c.split_base-base.result.1.now)) (sym c.radix.ensures.value) (digits_all r c.split_base-base.result.1.now))
