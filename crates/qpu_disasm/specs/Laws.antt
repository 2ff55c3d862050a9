-- A law of listings, over all words.
use Rattle.std.specs.Prelude.{◌≡◌, ℕ, ◌^◌, ◌<◌}
use Rattle.qpu_disasm.specs.Listing.{text}

-- no two words have the same text
abbrev pub TextsDiffer : Type 0
TextsDiffer = (w v : ℕ) → w < 2 ^ 64 → v < 2 ^ 64 → text w ≡ text v → w ≡ v
