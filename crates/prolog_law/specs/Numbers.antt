-- Words divide as numbers do.
use Rattle.std.specs.Prelude.{◌≡◌, ℕ, ◌/◌, ◌%◌, ◌<◌, false}
use Rattle.q_lane.specs.declared.operations.BinOp.TheVariants as op
use Rattle.q_lane.specs.Numbers.{applied}

-- a word's remainder and quotient are the numbers'
abbrev pub WordsDivide : Type 0
WordsDivide = (a b : ℕ) → 0 < b → (applied (op.Rem false) a b ≡ a % b) × (applied (op.Div false) a b ≡ a / b)
