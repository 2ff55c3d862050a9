-- The least of the places, each a buffer and a byte of it, of which something holds.
use Rattle.std.specs.Prelude.{ℕ, Option, MatchOption}
use Rattle.footprint.specs.Marks.{IsBefore}

-- it holds of this place and of none before it, or of none at all
abbrev pub IsLeast : (ℕ → ℕ → Type 0) → Option (ℕ × ℕ) → Type 0
IsLeast P found =
    MatchOption found
    ((buffer byte : ℕ) → ¬ P buffer byte)
    (λ place. P place.0 place.1 × ((buffer byte : ℕ) → IsBefore buffer byte place → ¬ P buffer byte))
