-- The weight of a text is a sum.
use Rattle.std.proofs.Common.{◌≡◌, ℕ, ◌+◌, [], ◌∷◌, ap, ◌∙◌, arith}
use Rattle.ir_weights.specs.Weights.{Weight, weightless, sum, weight_of_stmt, weight_of_text, TextsAreSummed}

from_zero : (n : ℕ) → n ≡ 0 + n
from_zero n = omega arith

none_first : (w : Weight) → w ≡ sum weightless w
none_first w = λ x. record { words = from_zero w.words x; rows = from_zero w.rows x; steps = from_zero w.steps x; numbers = from_zero w.numbers x }

moved : (a b c : ℕ) → a + (b + c) ≡ (a + b) + c
moved a b c = omega arith

sums : (a b c : Weight) → sum a (sum b c) ≡ sum (sum a b) c
sums a b c = λ x. record { words = moved a.words b.words c.words x; rows = moved a.rows b.rows c.rows x; steps = moved a.steps b.steps c.steps x; numbers = moved a.numbers b.numbers c.numbers x }

pub joined : TextsAreSummed
joined [] b = none_first (weight_of_text b)
joined (x ∷ a) b = ap (sum (weight_of_stmt x)) (joined a b) ∙ sums (weight_of_stmt x) (weight_of_text a) (weight_of_text b)
