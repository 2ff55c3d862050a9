-- Setups and their words undo each other.
use Rattle.std.proofs.Common.{arith, ◌≡◌, ◌≢◌, ℕ, ◌+◌, ◌*◌, ◌/◌, ◌%◌, ◌^◌, ◌<◌, ◌≤◌, true, false, Bool, refl, ap, ◌∙◌, eq-eqb}
use Rattle.std.proofs.lemmas.Bool.{eqb-true}
use Rattle.std.proofs.lemmas.Bool.Decides.{nat_tests}
use Rattle.std.specs.Prelude.{Option, Some, None, IfSome, IfNone, ◌==◌, ◌&&◌, if◌then◌else◌}
use Rattle.vpm_words.specs.Piece.{Piece, IsTransfer, is_transfer}
use Rattle.vpm_words.specs.declared.setup.ReadSetup.{ReadSetup}
use Rattle.vpm_words.specs.declared.setup.ReadSetup.TheVariants.{Rows, Load}
use Rattle.vpm_words.specs.declared.setup.WriteSetup.{WriteSetup}
use Rattle.vpm_words.specs.declared.setup.WriteSetup.TheVariants.{Row, Store}
use Rattle.vpm_words.specs.Words.{load_word, store_word, rows_word, row_word, read_word, write_word, is_rows, is_read_setup, is_write_setup, load_fields, store_fields, up_to_16, read_if, write_if, read_setup_of, write_setup_of, IsReadSetupOf, IsWriteSetupOf}
use Rattle.vpm_words.proofs.PieceLaws.{Bounds, bounds}

-- ---- each field of a word is what was put there

load_places : (m l r c : ℕ) → m < 8 → l < 16 → r < 64 → c < 16 →
    ((2147553280 + m * 2 ^ 28 + l * 2 ^ 20 + r * 2 ^ 4 + c) / 2 ^ 28 % 8 ≡ m)
    × ((2147553280 + m * 2 ^ 28 + l * 2 ^ 20 + r * 2 ^ 4 + c) / 2 ^ 20 % 16 ≡ l)
    × ((2147553280 + m * 2 ^ 28 + l * 2 ^ 20 + r * 2 ^ 4 + c) / 2 ^ 4 % 64 ≡ r)
    × ((2147553280 + m * 2 ^ 28 + l * 2 ^ 20 + r * 2 ^ 4 + c) % 16 ≡ c)
load_places m l r c hm hl hr hc = (omega arith, omega arith, omega arith, omega arith)

store_places : (m l r c : ℕ) → m < 8 → l < 32 → r < 64 → c < 16 →
    ((2155888640 + l * 2 ^ 16 + r * 2 ^ 7 + c * 2 ^ 3 + m) % 8 ≡ m)
    × ((2155888640 + l * 2 ^ 16 + r * 2 ^ 7 + c * 2 ^ 3 + m) / 2 ^ 16 % 32 ≡ l)
    × ((2155888640 + l * 2 ^ 16 + r * 2 ^ 7 + c * 2 ^ 3 + m) / 2 ^ 7 % 64 ≡ r)
    × ((2155888640 + l * 2 ^ 16 + r * 2 ^ 7 + c * 2 ^ 3 + m) / 2 ^ 3 % 16 ≡ c)
store_places m l r c hm hl hr hc = (omega arith, omega arith, omega arith, omega arith)

rows_places : (r n : ℕ) → r < 64 → n < 16 →
    ((6656 + n * 2 ^ 20 + r) % 64 ≡ r) × ((6656 + n * 2 ^ 20 + r) / 2 ^ 20 % 16 ≡ n)
rows_places r n hr hn = (omega arith, omega arith)

-- 16 stands in four bits as 0
sixteen : (n k : ℕ) → k ≡ n % 16 → 1 ≤ n → n ≤ 16 → up_to_16 k ≡ n
sixteen n k e a b = grind (arith, nat_tests)

pub load_again : (t : Piece) → IsTransfer t → load_fields (load_word t) ≡ t
unfolding load_word
load_again t h =
    let b : Bounds t = bounds t h in
    let p = load_places t.mode (t.len % 16) t.row t.col b.mode (omega arith) b.row b.col in
    rw (p.0, p.1, p.2, p.3, sixteen t.len (t.len % 16) refl b.some b.len) refl

pub store_again : (t : Piece) → IsTransfer t → store_fields (store_word t) ≡ t
unfolding store_word
store_again t h =
    let b : Bounds t = bounds t h in
    let p = store_places t.mode t.len t.row t.col b.mode (let l = b.len in omega (arith, l)) b.row b.col in
    rw (p.0, p.1, p.2, p.3) refl

-- ---- a setup whose test fails is passed over, and one that is in range and has the word is found

read_other : (s : ReadSetup) (w : ℕ) (other : Option ReadSetup) → (read_word s == w) ≡ false → read_if s w other ≡ other
read_other s w other h = rw h (drop (is_read_setup s))
  where
    drop : (b : Bool) → (if b && false then Some s else other) ≡ other
    drop true = refl
    drop false = refl

write_other : (s : WriteSetup) (w : ℕ) (other : Option WriteSetup) → (write_word s == w) ≡ false → write_if s w other ≡ other
write_other s w other h = rw h (drop (is_write_setup s))
  where
    drop : (b : Bool) → (if b && false then Some s else other) ≡ other
    drop true = refl
    drop false = refl

read_found : (s : ReadSetup) (other : Option ReadSetup) → is_read_setup s ≡ true → read_if s (read_word s) other ≡ Some s
read_found s other h = rw (h, eq-eqb (read_word s) (read_word s) refl) refl

write_found : (s : WriteSetup) (other : Option WriteSetup) → is_write_setup s ≡ true → write_if s (write_word s) other ≡ Some s
write_found s other h = rw (h, eq-eqb (write_word s) (write_word s) refl) refl

-- no word is of both kinds
rows_or_load : (row rows : ℕ) (t : Piece) → row < 64 → (rows_word row rows == load_word t) ≡ false
unfolding rows_word load_word
rows_or_load row rows t h = grind (arith, nat_tests)

row_or_store : (row : ℕ) (t : Piece) → row < 64 → (row_word row == store_word t) ≡ false
unfolding row_word store_word
row_or_store row t h = grind (arith, nat_tests)

-- ---- the setup of a setup's word is that setup

pub load_read : (t : Piece) → IsTransfer t → read_setup_of (load_word t) ≡ Some (Load t)
unfolding read_setup_of
load_read t h =
    read_other (Rows (load_word t % 64) (up_to_16 (load_word t / 2 ^ 20 % 16))) (load_word t) (read_if (Load (load_fields (load_word t))) (load_word t) None)
    (rows_or_load (load_word t % 64) (up_to_16 (load_word t / 2 ^ 20 % 16)) t (omega arith))
    ∙ ap (λ p. read_if (Load p) (load_word t) None) (load_again t h)
    ∙ read_found (Load t) None h

pub store_written : (t : Piece) → IsTransfer t → write_setup_of (store_word t) ≡ Some (Store t)
unfolding write_setup_of
store_written t h =
    write_other (Row (store_word t % 64)) (store_word t) (write_if (Store (store_fields (store_word t))) (store_word t) None)
    (row_or_store (store_word t % 64) t (omega arith))
    ∙ ap (λ p. write_if (Store p) (store_word t) None) (store_again t h)
    ∙ write_found (Store t) None h

rows_row : (row rows : ℕ) → is_rows row rows ≡ true → row < 64
rows_row row rows h = grind (arith, nat_tests)

rows_some : (row rows : ℕ) → is_rows row rows ≡ true → 1 ≤ rows
rows_some row rows h = grind (arith, nat_tests)

rows_most : (row rows : ℕ) → is_rows row rows ≡ true → rows ≤ 16
rows_most row rows h = grind (arith, nat_tests)

rows_again : (row rows : ℕ) → is_rows row rows ≡ true → Rows (rows_word row rows % 64) (up_to_16 (rows_word row rows / 2 ^ 20 % 16)) ≡ Rows row rows
unfolding rows_word
rows_again row rows h =
    let p = rows_places row (rows % 16) (rows_row row rows h) (omega arith) in
    rw (p.0, p.1, sixteen rows (rows % 16) refl (rows_some row rows h) (rows_most row rows h)) refl

pub rows_read : (row rows : ℕ) → is_rows row rows ≡ true → read_setup_of (rows_word row rows) ≡ Some (Rows row rows)
unfolding read_setup_of
rows_read row rows h =
    ap (λ s. read_if s (rows_word row rows) (read_if (Load (load_fields (rows_word row rows))) (rows_word row rows) None)) (rows_again row rows h)
    ∙ read_found (Rows row rows) (read_if (Load (load_fields (rows_word row rows))) (rows_word row rows) None) h

row_again : (row : ℕ) → row < 64 → row_word row % 64 ≡ row
unfolding row_word
row_again row h = omega arith

pub row_written : (row : ℕ) → row < 64 → write_setup_of (row_word row) ≡ Some (Row row)
unfolding write_setup_of
row_written row h =
    ap (λ r. write_if (Row r) (row_word row) (write_if (Store (store_fields (row_word row))) (row_word row) None)) (row_again row h)
    ∙ write_found (Row row) (write_if (Store (store_fields (row_word row))) (row_word row) None) (grind (arith, nat_tests))

pub read_again : (s : ReadSetup) → is_read_setup s ≡ true → read_setup_of (read_word s) ≡ Some s
read_again (Rows row rows) h = rows_read row rows h
read_again (Load t) h = load_read t h

pub write_again : (s : WriteSetup) → is_write_setup s ≡ true → write_setup_of (write_word s) ≡ Some s
write_again (Row row) h = row_written row (grind (arith, nat_tests))
write_again (Store t) h = store_written t h

-- ---- what is found is in range and has the word

read_back : (w : ℕ) (s : ReadSetup) (other : Option ReadSetup) → IfSome other (IsReadSetupOf w) → IfSome (read_if s w other) (IsReadSetupOf w)
read_back w s other o = go (is_read_setup s) (read_word s == w) refl refl
  where
    go : (a b : Bool) → is_read_setup s ≡ a → (read_word s == w) ≡ b → IfSome (if a && b then Some s else other) (IsReadSetupOf w)
    go true true p q = (p, eqb-true (read_word s) w q)
    go true false p q = o
    go false b p q = o

write_back : (w : ℕ) (s : WriteSetup) (other : Option WriteSetup) → IfSome other (IsWriteSetupOf w) → IfSome (write_if s w other) (IsWriteSetupOf w)
write_back w s other o = go (is_write_setup s) (write_word s == w) refl refl
  where
    go : (a b : Bool) → is_write_setup s ≡ a → (write_word s == w) ≡ b → IfSome (if a && b then Some s else other) (IsWriteSetupOf w)
    go true true p q = (p, eqb-true (write_word s) w q)
    go true false p q = o
    go false b p q = o

pub read_is : (w : ℕ) → IfSome (read_setup_of w) (IsReadSetupOf w)
unfolding read_setup_of
read_is w =
    read_back w (Rows (w % 64) (up_to_16 (w / 2 ^ 20 % 16))) (read_if (Load (load_fields w)) w None) (read_back w (Load (load_fields w)) None tt)

pub write_is : (w : ℕ) → IfSome (write_setup_of w) (IsWriteSetupOf w)
unfolding write_setup_of
write_is w = write_back w (Row (w % 64)) (write_if (Store (store_fields w)) w None) (write_back w (Store (store_fields w)) None tt)

-- ---- and where nothing is found, nothing in range has the word

pub read_none : (w : ℕ) → IfNone (read_setup_of w) ((s : ReadSetup) → is_read_setup s ≡ true → read_word s ≢ w)
read_none w = go (read_setup_of w) refl
  where
    go : (o : Option ReadSetup) → read_setup_of w ≡ o → IfNone o ((s : ReadSetup) → is_read_setup s ≡ true → read_word s ≢ w)
    go None e = λ s h q. let again : read_setup_of (read_word s) ≡ Some s = read_again s h in let same : read_setup_of (read_word s) ≡ None = ap read_setup_of q ∙ e in cc
    go (Some x) e = tt

pub write_none : (w : ℕ) → IfNone (write_setup_of w) ((s : WriteSetup) → is_write_setup s ≡ true → write_word s ≢ w)
write_none w = go (write_setup_of w) refl
  where
    go : (o : Option WriteSetup) → write_setup_of w ≡ o → IfNone o ((s : WriteSetup) → is_write_setup s ≡ true → write_word s ≢ w)
    go None e = λ s h q. let again : write_setup_of (write_word s) ≡ Some s = write_again s h in let same : write_setup_of (write_word s) ≡ None = ap write_setup_of q ∙ e in cc
    go (Some x) e = tt

-- ---- of numbers read out of the code

pub load_bounds : (mode len row col : ℕ) → is_transfer mode len row col ≡ true → (mode < 8) × (len ≤ 16) × (row < 64) × (col < 16)
load_bounds mode len row col h = let t : Piece = record { mode = mode; len = len; row = row; col = col } in let b : Bounds t = bounds t h in (b.mode, b.len, b.row, b.col)
