use Rattle.std.proofs.Common.{take, ap, ◌∙◌}
use Rattle.clc_lexer.proofs.Digits.{digits_taken}
use Rattle.clc_lexer.proofs.numbers.split_digits.Goals as goal

pub returns-clause-digits : goal.returns-clause-digits
returns-clause-digits c =
    let bytes = c.args.bytes.now in
    c.split_at.ensures.front ∙ ap (λ n. take n bytes) c.digit_count.ensures.value ∙ digits_taken c.args.radix bytes
