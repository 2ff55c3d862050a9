-- Elements of a transfer, and moving one.
use Rattle.std.proofs.Common.{arith, ◌≡◌, ◌≢◌, ℕ, zero, suc, ◌+◌, ◌*◌, ◌/◌, ◌%◌, ◌^◌, ◌<◌, ◌≤◌, true, List, [], ◌∷◌, length, refl, ap, ◌∙◌, sym, subst, inl, inr}
use Rattle.std.proofs.lemmas.Bool.{and_parts, cases_eq, cases_lt}
use Rattle.std.proofs.lemmas.Bool.Decides.{nat_tests}
use Rattle.std.proofs.lemmas.Nat.{mod-pow-add, pow_pos, pow-add, mod_below}
use Rattle.std.proofs.lemmas.List.{length-set, get_or-set_same, get_or-set_other, get_or_past, set-get_or, set_past}
use Rattle.std.proofs.lemmas.List.FromFn.{length-map-range_with_len, get_or-map-range_with_len}
use Rattle.std.specs.Prelude.{nat_le, nat_lt, ◌&&◌, Option, Some, None, get_or, slice_set}
use Rattle.vpm_words.specs.Piece.{Piece, IsTransfer, is_mode}
use Rattle.vpm_words.specs.Elements.{size_of, low_of, element_at, elements_of}
use Rattle.vpm_words.specs.Moves.{part_of, with_part, number_at, bytes_of, put_bytes, cell, with_cell, load_element, store_element, bytes_out}
use Rattle.vpm_words.specs.Access.{put_row}
use Rattle.vpm_words.specs.Laws.{IsBefore, LiesIn, IsReplaced, IsVpm, OthersStay, no_element}
use Rattle.vpm_words.specs.declared.state.Element.{Element}
use Rattle.vpm_words.proofs.PieceLaws.{Bounds, bounds}

-- a fact of the modes, case by case
pub of_modes : (P : ℕ → Type 0) → P 0 → P 2 → P 3 → P 4 → P 5 → P 6 → P 7 → (mode : ℕ) → is_mode mode ≡ true → P mode
of_modes P a c d e f g h zero m = a
of_modes P a c d e f g h (suc zero) m = absurd cc
of_modes P a c d e f g h (suc (suc zero)) m = c
of_modes P a c d e f g h (suc (suc (suc zero))) m = d
of_modes P a c d e f g h (suc (suc (suc (suc zero)))) m = e
of_modes P a c d e f g h (suc (suc (suc (suc (suc zero))))) m = f
of_modes P a c d e f g h (suc (suc (suc (suc (suc (suc zero)))))) m = g
of_modes P a c d e f g h (suc (suc (suc (suc (suc (suc (suc zero))))))) m = h
of_modes P a c d e f g h (suc (suc (suc (suc (suc (suc (suc (suc q)))))))) m = absurd (past q m)
  where
    past : (q : ℕ) → is_mode (suc (suc (suc (suc (suc (suc (suc (suc q)))))))) ≡ true → ⊥
    past q m = grind (arith, nat_tests)

-- ---- parts of words

abbrev Replaces : ℕ → Type 0
Replaces mode =
    (word part : ℕ) → word < 2 ^ 32 → part < 2 ^ (8 * size_of mode) → IsReplaced (low_of mode) (size_of mode) word part (with_part (low_of mode) (size_of mode) word part)

pub part_replaced : (mode word part : ℕ) → is_mode mode ≡ true → word < 2 ^ 32 → part < 2 ^ (8 * size_of mode) → IsReplaced (low_of mode) (size_of mode) word part (with_part (low_of mode) (size_of mode) word part)
part_replaced mode word part m =
    of_modes Replaces (λ word part h k. record { part = omega arith; below = omega arith; above = omega arith; fits = omega arith })
    (λ word part h k. record { part = omega arith; below = omega arith; above = omega arith; fits = omega arith })
    (λ word part h k. record { part = omega arith; below = omega arith; above = omega arith; fits = omega arith })
    (λ word part h k. record { part = omega arith; below = omega arith; above = omega arith; fits = omega arith })
    (λ word part h k. record { part = omega arith; below = omega arith; above = omega arith; fits = omega arith })
    (λ word part h k. record { part = omega arith; below = omega arith; above = omega arith; fits = omega arith })
    (λ word part h k. record { part = omega arith; below = omega arith; above = omega arith; fits = omega arith }) mode m word part

abbrev IsThere : ℕ → Type 0
IsThere mode = (word part : ℕ) → part < 2 ^ (8 * size_of mode) → part_of (low_of mode) (size_of mode) (with_part (low_of mode) (size_of mode) word part) ≡ part

-- the part is there whatever the old word was
pub part_there : (mode : ℕ) → is_mode mode ≡ true → (word part : ℕ) → part < 2 ^ (8 * size_of mode) → part_of (low_of mode) (size_of mode) (with_part (low_of mode) (size_of mode) word part) ≡ part
part_there =
    of_modes IsThere (λ word part k. omega arith) (λ word part k. omega arith) (λ word part k. omega arith) (λ word part k. omega arith) (λ word part k. omega arith)
    (λ word part k. omega arith) (λ word part k. omega arith)

-- ---- bytes of the memory

pub length-put_bytes : (bs memory : List ℕ) (at : ℕ) → length (put_bytes memory at bs) ≡ length memory
length-put_bytes [] memory at = refl
length-put_bytes (b ∷ bs) memory at = length-put_bytes bs (slice_set memory at b) (at + 1) ∙ length-set memory at b

pub put_bytes-before : (bs memory : List ℕ) (at k : ℕ) → k < at → get_or (put_bytes memory at bs) k 0 ≡ get_or memory k 0
put_bytes-before [] memory at k h = refl
put_bytes-before (b ∷ bs) memory at k h =
    put_bytes-before bs (slice_set memory at b) (at + 1) k (omega arith) ∙ get_or-set_other memory at k b 0 (λ e. omega arith)

pub put_bytes-after : (bs memory : List ℕ) (at k : ℕ) → at + length bs ≤ k → get_or (put_bytes memory at bs) k 0 ≡ get_or memory k 0
put_bytes-after [] memory at k h = refl
put_bytes-after (b ∷ bs) memory at k h =
    put_bytes-after bs (slice_set memory at b) (at + 1) k (omega arith) ∙ get_or-set_other memory at k b 0 (λ e. omega arith)

pub length-bytes_of : (n x : ℕ) → length (bytes_of n x) ≡ n
length-bytes_of zero x = refl
length-bytes_of (suc n) x = ap suc (length-bytes_of n (x / 2 ^ 8))

pub bytes_again : (n x at : ℕ) (memory : List ℕ) → at + n ≤ length memory → number_at n (put_bytes memory at (bytes_of n x)) at ≡ x % 2 ^ (8 * n)
bytes_again zero x at memory h = omega arith
bytes_again (suc n) x at memory h =
    let first : get_or (put_bytes (slice_set memory at (x % 2 ^ 8)) (at + 1) (bytes_of n (x / 2 ^ 8))) at 0 ≡ x % 2 ^ 8 =
    put_bytes-before (bytes_of n (x / 2 ^ 8)) (slice_set memory at (x % 2 ^ 8)) (at + 1) at (omega arith) ∙ get_or-set_same memory at (x % 2 ^ 8) 0 (omega arith) in
    let rest = bytes_again n (x / 2 ^ 8) (at + 1) (slice_set memory at (x % 2 ^ 8)) (let l = length-set memory at (x % 2 ^ 8) in omega (arith, l)) in
    let whole = mod-pow-add x (8 * n) 8 in
    let bits : 8 * suc n ≡ 8 * n + 8 = omega arith in
    rw (bits) (omega (arith, first, rest, whole))

pub bytes_put : (memory : List ℕ) (at n x : ℕ) → at + n ≤ length memory
    → (number_at n (put_bytes memory at (bytes_of n x)) at ≡ x % 2 ^ (8 * n))
    × (length (put_bytes memory at (bytes_of n x)) ≡ length memory)
    × ((k : ℕ) → k < at → get_or (put_bytes memory at (bytes_of n x)) k 0 ≡ get_or memory k 0)
    × ((k : ℕ) → at + n ≤ k → get_or (put_bytes memory at (bytes_of n x)) k 0 ≡ get_or memory k 0)
bytes_put memory at n x h = (
  bytes_again n x at memory h,
  length-put_bytes (bytes_of n x) memory at,
  put_bytes-before (bytes_of n x) memory at,
  λ k l. put_bytes-after (bytes_of n x) memory at k (let e = length-bytes_of n x in omega (arith, e, l)),
)

-- ---- out and in again

cell-with_cell : (vpm : List (List ℕ)) (row col word : ℕ) → row < length vpm → col < length (get_or vpm row []) → cell (with_cell vpm row col word) row col ≡ word
cell-with_cell vpm row col word r c =
    ap (λ xs. get_or xs col 0) (get_or-set_same vpm row (slice_set (get_or vpm row []) col word) [] r) ∙ get_or-set_same (get_or vpm row []) col word 0 c

twice : (x k : ℕ) → x % 2 ^ k % 2 ^ k ≡ x % 2 ^ k
twice x k = let p = pow_pos k in grind (arith, mod_below)

there_at : (mode low size word part : ℕ) → is_mode mode ≡ true → size ≡ size_of mode → low ≡ low_of mode → part < 2 ^ (8 * size) → part_of low size (with_part low size word part) ≡ part
there_at mode low size word part m s l h = rw (l, s) (part_there mode m word part (rw (← s) h))

pub moved_again : (mode : ℕ) (e : Element) (vpm other : List (List ℕ)) (memory : List ℕ) → is_mode mode ≡ true → e.size ≡ size_of mode → e.low ≡ low_of mode
    → e.address + e.size ≤ length memory → e.row < length other → e.col < length (get_or other e.row [])
    → part_of e.low e.size (cell (load_element e (store_element e vpm memory) other) e.row e.col) ≡ part_of e.low e.size (cell vpm e.row e.col)
unfolding load_element store_element bytes_out
moved_again mode e vpm other memory m s l a r c =
    let old : ℕ = cell other e.row e.col in
    let part : ℕ = part_of e.low e.size (cell vpm e.row e.col) in
    let read : number_at e.size (put_bytes memory e.address (bytes_of e.size part)) e.address ≡ part =
    bytes_again e.size part e.address memory a ∙ twice (cell vpm e.row e.col / 2 ^ e.low) (8 * e.size) in
    let small : part < 2 ^ (8 * e.size) = mod_below (cell vpm e.row e.col / 2 ^ e.low) (2 ^ (8 * e.size)) (pow_pos (8 * e.size)) in
    let there : part_of e.low e.size (with_part e.low e.size old part) ≡ part = there_at mode e.low e.size old part m s l small in
    ap (λ w. part_of e.low e.size w) (cell-with_cell other e.row e.col (with_part e.low e.size old (number_at e.size (put_bytes memory e.address (bytes_of e.size part)) e.address)) r c)
    ∙ ap (λ p. part_of e.low e.size (with_part e.low e.size old p)) read
    ∙ there

-- ---- the elements of a transfer

abbrev Follows : ℕ → Type 0
Follows mode = (a i j : ℕ) → i < j → a + size_of mode * i + size_of mode ≤ a + size_of mode * j

follows : (mode : ℕ) → is_mode mode ≡ true → Follows mode
follows =
    of_modes Follows (λ a i j h. omega arith) (λ a i j h. omega arith) (λ a i j h. omega arith) (λ a i j h. omega arith) (λ a i j h. omega arith) (λ a i j h. omega arith)
    (λ a i j h. omega arith)

in_word : (mode : ℕ) → is_mode mode ≡ true → low_of mode + 8 * size_of mode ≤ 32
in_word = of_modes (λ mode. low_of mode + 8 * size_of mode ≤ 32) (omega arith) (omega arith) (omega arith) (omega arith) (omega arith) (omega arith) (omega arith)

pub element_is : (address : ℕ) (t : Piece) (i : ℕ) → i < t.len → get_or (elements_of address t) i no_element ≡ element_at address t i
unfolding elements_of
element_is address t i h = get_or-map-range_with_len (element_at address t) 0 t.len i i no_element h (omega arith)

pub length-elements_of : (address : ℕ) (t : Piece) → length (elements_of address t) ≡ t.len
unfolding elements_of
length-elements_of address t = length-map-range_with_len (element_at address t) 0 t.len

mode_of : (t : Piece) → IsTransfer t → is_mode t.mode ≡ true
mode_of t h = (and_parts (is_mode t.mode) (nat_le 1 t.len && (nat_lt t.row 64 && nat_le (t.col + t.len) 16)) h).0

pub lies : (address : ℕ) (t : Piece) → IsTransfer t → (i : ℕ) → i < t.len → LiesIn address t (element_at address t i)
lies address t h i l =
    let b : Bounds t = bounds t h in
    let fits : t.col + t.len ≤ 16 = b.fits in record {
      row = b.row;
      col = omega (arith, fits, l);
      start = omega arith;
      end = follows t.mode (mode_of t h) address i t.len l;
      part = in_word t.mode (mode_of t h);
    }

before : (address : ℕ) (t : Piece) → IsTransfer t → (i j : ℕ) → i < j → IsBefore (element_at address t i) (element_at address t j)
before address t h i j l = record { memory = follows t.mode (mode_of t h) address i j l; row = refl; col = omega (arith, l) }

pub elements_apart : (address : ℕ) (t : Piece) → IsTransfer t
    → (length (elements_of address t) ≡ t.len)
    × ((i : ℕ) → i < t.len → LiesIn address t (get_or (elements_of address t) i no_element))
    × ((i j : ℕ) → i < j → j < t.len → IsBefore (get_or (elements_of address t) i no_element) (get_or (elements_of address t) j no_element))
elements_apart address t h = (
  length-elements_of address t,
  λ i l. rw (element_is address t i l) (lies address t h i l),
  λ i j l m. rw (element_is address t i (omega (arith, l, m)), element_is address t j m) (before address t h i j l),
)

-- ---- past the end of a row or of the VPM nothing is read and nothing changes

pub cell-past : (vpm : List (List ℕ)) (row col : ℕ) → (row < length vpm → length (get_or vpm row []) ≤ col) → cell vpm row col ≡ 0
cell-past vpm row col h = elim (cases_lt row (length vpm)) [
  | inl l ↦ get_or_past (get_or vpm row []) col 0 (h l)
  | inr g ↦ ap (λ xs. get_or xs col 0) (get_or_past vpm row [] g)
]

pub with_cell-past : (vpm : List (List ℕ)) (row col word : ℕ) → (row < length vpm → length (get_or vpm row []) ≤ col) → with_cell vpm row col word ≡ vpm
with_cell-past vpm row col word h = elim (cases_lt row (length vpm)) [
  | inl l ↦ ap (λ xs. slice_set vpm row xs) (set_past (get_or vpm row []) col word (h l)) ∙ set-get_or vpm row []
  | inr g ↦ set_past vpm row (slice_set (get_or vpm row []) col word) g
]

-- ---- a VPM stays one

-- the sixteen words of a new row
new_row : (vpm : List (List ℕ)) (row : ℕ) (words : List ℕ) → IsVpm vpm → length words ≡ 16 → ((i : ℕ) → get_or words i 0 < 2 ^ 32) → IsVpm (slice_set vpm row words)
new_row vpm row words h n b = record { rows = length-set vpm row words ∙ h.rows; row = at; word = word }
  where
    at : (y : ℕ) → y < 64 → length (get_or (slice_set vpm row words) y []) ≡ 16
    at y l = elim (cases_eq y row) [
      | inl e ↦ (let rows = h.rows in ap length (ap (λ i. get_or (slice_set vpm row words) i []) e ∙ get_or-set_same vpm row words [] (omega (arith, e, l, rows))) ∙ n)
      | inr d ↦ ap length (get_or-set_other vpm row y words [] d) ∙ h.row y l
    ]

    word : (y x : ℕ) → cell (slice_set vpm row words) y x < 2 ^ 32
    word y x = elim (cases_eq y row) [
      | inl e ↦ elim (cases_lt row (length vpm)) [
        | inl l ↦ subst (λ r. get_or r x 0 < 2 ^ 32) (sym (ap (λ i. get_or (slice_set vpm row words) i []) e ∙ get_or-set_same vpm row words [] l)) (b x)
        | inr g ↦ subst (λ v. cell v y x < 2 ^ 32) (sym (set_past vpm row words g)) (h.word y x)
      ]
      | inr d ↦ subst (λ r. get_or r x 0 < 2 ^ 32) (sym (get_or-set_other vpm row y words [] d)) (h.word y x)
    ]

new_word : (xs : List ℕ) (col w : ℕ) → w < 2 ^ 32 → ((i : ℕ) → get_or xs i 0 < 2 ^ 32) → (i : ℕ) → get_or (slice_set xs col w) i 0 < 2 ^ 32
new_word xs col w small b i = elim (cases_eq i col) [
  | inl e ↦ elim (cases_lt col (length xs)) [
    | inl l ↦ subst (λ n. n < 2 ^ 32) (sym (ap (λ k. get_or (slice_set xs col w) k 0) e ∙ get_or-set_same xs col w 0 l)) small
    | inr g ↦ subst (λ (ys : List ℕ). get_or ys i 0 < 2 ^ 32) (sym (set_past xs col w g)) (b i)
  ]
  | inr d ↦ subst (λ n. n < 2 ^ 32) (sym (get_or-set_other xs col i w 0 d)) (b i)
]

number_small : (n : ℕ) (memory : List ℕ) (at : ℕ) → ((k : ℕ) → get_or memory k 0 < 256) → number_at n memory at < 2 ^ (8 * n)
number_small zero memory at b = omega arith
number_small (suc n) memory at b =
    let r = number_small n memory (at + 1) b in
    let f = b at in
    let p = pow-add 2 (8 * n) 8 in
    let bits : 8 * suc n ≡ 8 * n + 8 = omega arith in
    rw bits (omega (arith, r, f, p))

new_cell : (vpm : List (List ℕ)) (row col w : ℕ) → IsVpm vpm → w < 2 ^ 32 → IsVpm (with_cell vpm row col w)
new_cell vpm row col w h small = elim (cases_lt row 64) [
  | inl l ↦ new_row vpm row (slice_set (get_or vpm row []) col w) h (length-set (get_or vpm row []) col w ∙ h.row row l) (new_word (get_or vpm row []) col w small (h.word row))
  | inr g ↦ subst IsVpm (sym (set_past vpm row (slice_set (get_or vpm row []) col w) (let rows = h.rows in omega (arith, g, rows)))) h
]

new_load : (vpm : List (List ℕ)) (mode : ℕ) (e : Element) (memory : List ℕ) → IsVpm vpm → is_mode mode ≡ true → e.size ≡ size_of mode → e.low ≡ low_of mode → ((k : ℕ) → get_or memory k 0 < 256)
    → IsVpm (load_element e memory vpm)
unfolding load_element
new_load vpm mode e memory h m s l b =
    let small = number_small e.size memory e.address b in
    new_cell vpm e.row e.col (with_part e.low e.size (cell vpm e.row e.col) (number_at e.size memory e.address)) h
    (fits_at mode e.low e.size (cell vpm e.row e.col) (number_at e.size memory e.address) m s l (h.word e.row e.col) small)
  where
    fits_at : (mode low size word part : ℕ) → is_mode mode ≡ true → size ≡ size_of mode → low ≡ low_of mode → word < 2 ^ 32 → part < 2 ^ (8 * size) → with_part low size word part < 2 ^ 32
    fits_at mode low size word part m s l h k = rw (l, s) ((part_replaced mode word part m h (rw (← s) k)).fits)

pub vpm_kept : (vpm : List (List ℕ)) → IsVpm vpm
    → ((y : Option ℕ) (words : List ℕ) → length words ≡ 16 → ((i : ℕ) → get_or words i 0 < 2 ^ 32) → IsVpm (put_row y words vpm))
    × ((mode : ℕ) (e : Element) (memory : List ℕ) → is_mode mode ≡ true → e.size ≡ size_of mode → e.low ≡ low_of mode → ((k : ℕ) → get_or memory k 0 < 256) → IsVpm (load_element e memory vpm))
vpm_kept vpm h = (row_kept, λ mode e memory m s l b. new_load vpm mode e memory h m s l b)
  where
    row_kept : (y : Option ℕ) (words : List ℕ) → length words ≡ 16 → ((i : ℕ) → get_or words i 0 < 2 ^ 32) → IsVpm (put_row y words vpm)
    row_kept None words n b = h
    row_kept (Some y) words n b = new_row vpm y words h n b

-- ---- what a move doesn't touch stays

row_other : (vpm : List (List ℕ)) (e : Element) (memory : List ℕ) (y : ℕ) → y ≢ e.row → get_or (load_element e memory vpm) y [] ≡ get_or vpm y []
unfolding load_element
row_other vpm e memory y d = get_or-set_other vpm e.row y _ [] d

cell_same : (vpm : List (List ℕ)) (row col w : ℕ) → row < length vpm → col < length (get_or vpm row []) → cell (with_cell vpm row col w) row col ≡ w
cell_same vpm row col w l m =
    ap (λ r. get_or r col 0) (get_or-set_same vpm row (slice_set (get_or vpm row []) col w) [] l) ∙ get_or-set_same (get_or vpm row []) col w 0 m

cell_other : (vpm : List (List ℕ)) (row col w y x : ℕ) → x ≢ col → cell (with_cell vpm row col w) y x ≡ cell vpm y x
cell_other vpm row col w y x d = elim (cases_eq y row) [
  | inl e ↦ elim (cases_lt row (length vpm)) [
    | inl l ↦
        (ap (λ i. cell (with_cell vpm row col w) i x) e
        ∙ ap (λ r. get_or r x 0) (get_or-set_same vpm row (slice_set (get_or vpm row []) col w) [] l)
        ∙ get_or-set_other (get_or vpm row []) col x w 0 d
        ∙ ap (λ i. cell vpm i x) (sym e))
    | inr g ↦ ap (λ v. cell v y x) (set_past vpm row (slice_set (get_or vpm row []) col w) g)
  ]
  | inr n ↦ ap (λ r. get_or r x 0) (get_or-set_other vpm row y (slice_set (get_or vpm row []) col w) [] n)
]

pub others_stay : OthersStay
unfolding load_element
others_stay vpm = (
  λ row words l. get_or-set_same vpm row words [] l,
  λ row y words d. get_or-set_other vpm row y words [] d,
  λ e memory l m. cell_same vpm e.row e.col _ l m,
  λ e memory y d. row_other vpm e memory y d,
  λ e memory y x d. cell_other vpm e.row e.col _ y x d,
)
