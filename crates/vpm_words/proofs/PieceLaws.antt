-- What the range of a transfer says.
use Rattle.std.proofs.lemmas.Bool.Decides.{nat_tests}
use Rattle.std.proofs.Common.{arith, ◌≡◌, ℕ, ◌+◌, ◌<◌, ◌≤◌, true}
use Rattle.vpm_words.specs.Piece.{Piece, is_transfer}

pub record Bounds (t : Piece) : Type 0 where
  pub mode : t.mode < 8
  pub some : 1 ≤ t.len
  pub len : t.len ≤ 16
  pub row : t.row < 64
  pub col : t.col < 16
  pub fits : t.col + t.len ≤ 16

below_8 : (mode len row col : ℕ) → is_transfer mode len row col ≡ true → mode < 8
below_8 mode len row col h = grind (arith, nat_tests)

at_least_1 : (mode len row col : ℕ) → is_transfer mode len row col ≡ true → 1 ≤ len
at_least_1 mode len row col h = grind (arith, nat_tests)

below_64 : (mode len row col : ℕ) → is_transfer mode len row col ≡ true → row < 64
below_64 mode len row col h = grind (arith, nat_tests)

in_row : (mode len row col : ℕ) → is_transfer mode len row col ≡ true → col + len ≤ 16
in_row mode len row col h = grind (arith, nat_tests)

pub bounds : (t : Piece) → is_transfer t.mode t.len t.row t.col ≡ true → Bounds t
bounds t h =
    let some : 1 ≤ t.len = at_least_1 t.mode t.len t.row t.col h in
    let fits : t.col + t.len ≤ 16 = in_row t.mode t.len t.row t.col h in record {
      mode = below_8 t.mode t.len t.row t.col h;
      some = some;
      len = omega (arith, some, fits);
      row = below_64 t.mode t.len t.row t.col h;
      col = omega (arith, some, fits);
      fits = fits;
    }
