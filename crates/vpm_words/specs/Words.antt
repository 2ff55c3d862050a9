-- The setup words. What is set up is that of Broadcom's VideoCore IV 3D Architecture Reference Guide, chapter on the VPM and VCD (QPU
-- registers for VPM read and write setup and for the DMA setups); the places and values of all fields here are this project's own.
use Rattle.std.specs.Prelude.{◌≡◌, ℕ, ◌+◌, ◌*◌, ◌/◌, ◌%◌, ◌^◌, Bool, true, if◌then◌else◌, nat_le, nat_lt, ◌==◌, ◌&&◌}
use Rattle.std.specs.declared.option.Option.{Option}
use Rattle.std.specs.declared.option.Option.TheVariants.{Some, None}
use Rattle.vpm_words.specs.Piece.{Piece, is_transfer}
use Rattle.vpm_words.specs.declared.setup.ReadSetup.{ReadSetup}
use Rattle.vpm_words.specs.declared.setup.ReadSetup.TheVariants.{Rows, Load}
use Rattle.vpm_words.specs.declared.setup.WriteSetup.{WriteSetup}
use Rattle.vpm_words.specs.declared.setup.WriteSetup.TheVariants.{Row, Store}

-- ---- the word of a setup: a base, here in decimal, and the fields at their places

-- 1A00; NUM from bit 20 on, which is 0 for 16 rows; the row from bit 0 on
unfoldable pub rows_word : ℕ → ℕ → ℕ
rows_word row rows = 6656 + (rows % 16) * 2 ^ 20 + row

-- 80011000; MODEW from bit 28 on; ROWLEN from bit 20 on, which is 0 for 16 elements; the row from bit 4 on, the column from bit 0 on
unfoldable pub load_word : Piece → ℕ
load_word t = 2147553280 + t.mode * 2 ^ 28 + (t.len % 16) * 2 ^ 20 + t.row * 2 ^ 4 + t.col

-- 1A00; the row from bit 0 on
unfoldable pub row_word : ℕ → ℕ
row_word row = 6656 + row

-- 80804000; DEPTH from bit 16 on; the row from bit 7 on, the column from bit 3 on; MODEW from bit 0 on
unfoldable pub store_word : Piece → ℕ
store_word t = 2155888640 + t.len * 2 ^ 16 + t.row * 2 ^ 7 + t.col * 2 ^ 3 + t.mode

abbrev pub read_word : ReadSetup → ℕ
read_word (Rows row rows) = rows_word row rows
read_word (Load t) = load_word t

abbrev pub write_word : WriteSetup → ℕ
write_word (Row row) = row_word row
write_word (Store t) = store_word t

-- ---- the setups in range

-- one of 64 rows, and 1 to 16 rows to be read from it on
abbrev pub is_rows : ℕ → ℕ → Bool
is_rows row rows = nat_lt row 64 && (nat_le 1 rows && nat_le rows 16)

abbrev pub is_read_setup : ReadSetup → Bool
is_read_setup (Rows row rows) = is_rows row rows
is_read_setup (Load t) = is_transfer t.mode t.len t.row t.col

abbrev pub is_write_setup : WriteSetup → Bool
is_write_setup (Row row) = nat_lt row 64
is_write_setup (Store t) = is_transfer t.mode t.len t.row t.col

-- ---- the setup of a word: the one in range that has this word

-- a number of four bits, where 0 means 16
abbrev pub up_to_16 : ℕ → ℕ
up_to_16 n = if n == 0 then 16 else n

-- what stands in a word at the places of the fields
abbrev pub load_fields : ℕ → Piece
load_fields w = record { mode = w / 2 ^ 28 % 8; len = up_to_16 (w / 2 ^ 20 % 16); row = w / 2 ^ 4 % 64; col = w % 16 }

abbrev pub store_fields : ℕ → Piece
store_fields w = record { mode = w % 8; len = w / 2 ^ 16 % 32; row = w / 2 ^ 7 % 64; col = w / 2 ^ 3 % 16 }

-- the setup, if it is in range and has this word
abbrev pub read_if : ReadSetup → ℕ → Option ReadSetup → Option ReadSetup
read_if s w other = if is_read_setup s && (read_word s == w) then Some s else other

abbrev pub write_if : WriteSetup → ℕ → Option WriteSetup → Option WriteSetup
write_if s w other = if is_write_setup s && (write_word s == w) then Some s else other

unfoldable pub read_setup_of : ℕ → Option ReadSetup
read_setup_of w = read_if (Rows (w % 64) (up_to_16 (w / 2 ^ 20 % 16))) w (read_if (Load (load_fields w)) w None)

unfoldable pub write_setup_of : ℕ → Option WriteSetup
write_setup_of w = write_if (Row (w % 64)) w (write_if (Store (store_fields w)) w None)

abbrev pub IsReadSetupOf : ℕ → ReadSetup → Type 0
IsReadSetupOf w s = (is_read_setup s ≡ true) × (read_word s ≡ w)

abbrev pub IsWriteSetupOf : ℕ → WriteSetup → Type 0
IsWriteSetupOf w s = (is_write_setup s ≡ true) × (write_word s ≡ w)
