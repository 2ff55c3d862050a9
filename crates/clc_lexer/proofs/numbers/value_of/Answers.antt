use Rattle.std.proofs.Common.{◌≡◌, ◌<◌, ◌≤◌, ◌+◌, ◌*◌, ◌^◌, MatchOption, sym, ap, ◌∙◌, subst, arith, get_or, take}
use Rattle.std.specs.Str.Parse.{digits_value}
use Rattle.std.specs.Char.{digit_value}
use Rattle.std.proofs.lemmas.Int.Digits.{digits_value_more}
use Rattle.clc_lexer.proofs.Digits.{digit_at, too_large}
use Rattle.clc_lexer.proofs.numbers.value_of.Goals as goal

pub returns-in_err-digit : goal.returns-in_err-digit
returns-in_err-digit c =
    absurd (c.in_err-digit.ensures.value (digit_at c.args.radix c.args.digits.now c.loop-byte.byte-index c.requires.digits c.loop-byte-test.true))

pub returns-in_err-checked_mul : goal.returns-in_err-checked_mul
returns-in_err-checked_mul c =
    let digit = digit_value (get_or c.args.digits.now c.loop-byte.byte-index 0) in
    let large : c.loop-byte.value * c.args.radix < 2 ^ 32 → ⊥ = c.in_err-checked_mul.ensures in
    let enough : 2 ^ 32 ≤ c.loop-byte.value * c.args.radix + digit = omega (arith, large) in
    subst (λ o. MatchOption o (2 ^ 32 ≤ digits_value c.args.radix c.args.digits.now) (λ value. value ≡ digits_value c.args.radix c.args.digits.now))
    (sym c.from_residual-in_err-checked_mul.ensures)
    (too_large c.args.radix c.args.digits.now c.loop-byte.byte-index c.loop-byte.value c.requires.low c.loop-byte-test.true c.loop-byte.invariant enough)

pub returns-in_err-value : goal.returns-in_err-value
returns-in_err-value c =
    let digit = digit_value (get_or c.args.digits.now c.loop-byte.byte-index 0) in
    let product : c.in_ok-checked_mul.field-0 ≡ c.loop-byte.value * c.args.radix = c.in_ok-checked_mul.ensures.1 in
    let last : c.in_ok-digit.digit ≡ digit = c.in_ok-digit.ensures.value.1 in
    let large : c.in_ok-checked_mul.field-0 + c.in_ok-digit.digit < 2 ^ 32 → ⊥ = c.in_err-value.ensures in
    let enough : 2 ^ 32 ≤ c.loop-byte.value * c.args.radix + digit = omega (arith, product, last, large) in
    subst (λ o. MatchOption o (2 ^ 32 ≤ digits_value c.args.radix c.args.digits.now) (λ value. value ≡ digits_value c.args.radix c.args.digits.now))
    (sym c.from_residual-in_err-value.ensures)
    (too_large c.args.radix c.args.digits.now c.loop-byte.byte-index c.loop-byte.value c.requires.low c.loop-byte-test.true c.loop-byte.invariant enough)

pub loop-byte-preserved : goal.loop-byte-preserved
loop-byte-preserved c =
    let digit = digit_value (get_or c.args.digits.now c.loop-byte.byte-index 0) in
    let i = c.loop-byte.byte-index in
    let ds = c.args.digits.now in
    let r = c.args.radix in
    c.in_ok-value.ensures.1
    ∙ ap (λ z. z + c.in_ok-digit.digit) (c.in_ok-checked_mul.ensures.1 ∙ ap (λ z. z * r) c.loop-byte.invariant)
    ∙ ap (λ z. digits_value r (take i ds) * r + z) c.in_ok-digit.ensures.value.1
    ∙ sym (digits_value_more r ds i c.loop-byte-test.true)
