-- Buffers whose bytes can be counted by a word.
use Rattle.std.specs.Prelude.{ℕ, ◌<◌, ◌^◌, List, [], length, slice_index_or}

pub record AreSmall (buffers : List (List ℕ)) : Type 0 where
  pub each : (k : ℕ) → length (slice_index_or buffers k []) < 2 ^ 32
