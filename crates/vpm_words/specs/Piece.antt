-- A transfer of a DMA engine: a row of elements in the VPM.
use Rattle.std.specs.Prelude.{◌≡◌, ℕ, ◌+◌, Bool, true, nat_le, nat_lt, ◌==◌, ◌&&◌, ◌||◌}

-- len elements from this row and column on. Mode 0 is whole words, 2 and 3 are halves of words, 4 to 7 bytes of words
pub record Piece : Type 0 where
  pub mode : ℕ
  pub len : ℕ
  pub row : ℕ
  pub col : ℕ

-- 0, or 2 to 7
abbrev pub is_mode : ℕ → Bool
is_mode mode = (mode == 0) || (nat_le 2 mode && nat_le mode 7)

-- a mode that there is, 1 to 16 elements, one of 64 rows, and no element past column 15
abbrev pub is_transfer : ℕ → ℕ → ℕ → ℕ → Bool
is_transfer mode len row col = is_mode mode && (nat_le 1 len && (nat_lt row 64 && nat_le (col + len) 16))

abbrev pub IsTransfer : Piece → Type 0
IsTransfer t = is_transfer t.mode t.len t.row t.col ≡ true
