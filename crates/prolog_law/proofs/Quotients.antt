-- Quotients and remainders of words.
use Rattle.std.proofs.Common.{◌≡◌, ℕ, ◌/◌, ◌%◌, ◌<◌, false, ap, arith}
use Rattle.std.specs.Prelude.{if◌then◌else◌}
use Rattle.std.proofs.lemmas.Bool.{ne_eqb}
use Rattle.q_lane.specs.declared.operations.BinOp.TheVariants as op
use Rattle.q_lane.specs.Numbers.{applied, quotient, remainder}
use Rattle.prolog_law.specs.Numbers.{WordsDivide}

pub rem-is : (a b : ℕ) → 0 < b → applied (op.Rem false) a b ≡ a % b
unfolding applied remainder
rem-is a b h = ap (λ t. if t then a else a % b) (ne_eqb b 0 (λ e. omega (arith, e, h)))

pub div-is : (a b : ℕ) → 0 < b → applied (op.Div false) a b ≡ a / b
unfolding applied quotient
div-is a b h = ap (λ t. if t then 0 else a / b) (ne_eqb b 0 (λ e. omega (arith, e, h)))

pub words_divide : WordsDivide
words_divide a b h = (rem-is a b h, div-is a b h)
