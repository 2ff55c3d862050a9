-- What shows that the definitions fit together.
use Rattle.std.specs.Prelude.{◌≡◌, ◌≢◌, ℕ, ◌+◌, ◌*◌, ◌/◌, ◌%◌, ◌^◌, ◌<◌, ◌≤◌, List, [], Bool, true, false, Option, Some, None, length, get_or}
use Rattle.vpm_words.specs.Piece.{Piece, IsTransfer, is_mode}
use Rattle.vpm_words.specs.Elements.{size_of, low_of, elements_of}
use Rattle.vpm_words.specs.Moves.{part_of, with_part, number_at, bytes_of, put_bytes, cell, load_element, store_element}
use Rattle.vpm_words.specs.Rules.{number, least, least_broken, is_stalled}
use Rattle.vpm_words.specs.Access.{Site, seen, demand, breaks, stalls, put_row}
use Rattle.vpm_words.specs.declared.state.Access.{Access}
use Rattle.vpm_words.specs.declared.state.Element.{Element}
use Rattle.vpm_words.specs.declared.state.Ports.{Ports}
use Rattle.vpm_words.specs.declared.state.Rule.{Rule}
use Rattle.vpm_words.specs.declared.state.Shared.{Shared}

-- the rule that a demand breaks is the least of all rules that the access breaks, each tested by itself
abbrev pub SplitAgrees : Type 0
SplitAgrees =
    (g : Site) (p : Ports) (s : Shared) (a : Access) (value : ℕ) (words : List ℕ)
    → breaks (demand g p (Some a) value words) g.number s ≡ least_broken a p.age (seen g p s (Some a) value)

-- and it stalls where the access does
abbrev pub StallsAgree : Type 0
StallsAgree =
    (g : Site) (p : Ports) (s : Shared) (a : Access) (value : ℕ) (words : List ℕ)
    → stalls (demand g p (Some a) value words) g.number s ≡ is_stalled a (seen g p s (Some a) value)

-- the rule is found by the test, and none before it is
abbrev pub IsLeast : (Rule → Bool) → Option Rule → Type 0
IsLeast t None = (q : Rule) → t q ≡ false
IsLeast t (Some r) = (t r ≡ true) × ((q : Rule) → number q < number r → t q ≡ false)

abbrev pub LeastIsLeast : Type 0
LeastIsLeast = (t : Rule → Bool) → IsLeast t (least t)

-- one element ends before the other begins, in memory and in their row
pub record IsBefore (e f : Element) : Type 0 where
  pub memory : e.address + e.size ≤ f.address
  pub row : e.row ≡ f.row
  pub col : e.col < f.col

-- an element lies in the VPM, and in the bytes of its transfer
pub record LiesIn (address : ℕ) (t : Piece) (e : Element) : Type 0 where
  pub row : e.row < 64
  pub col : e.col < 16
  pub start : address ≤ e.address
  pub end : e.address + e.size ≤ address + size_of t.mode * t.len
  pub part : e.low + 8 * e.size ≤ 32

abbrev pub no_element : Element
no_element = record { address = 0; size = 0; row = 0; col = 0; low = 0 }

-- the elements of a transfer are as many as its length, lie in the VPM and in its bytes, and are pairwise apart
abbrev pub ElementsApart : Type 0
ElementsApart =
    (address : ℕ) (t : Piece) → IsTransfer t
    → (length (elements_of address t) ≡ t.len)
    × ((i : ℕ) → i < t.len → LiesIn address t (get_or (elements_of address t) i no_element))
    × ((i j : ℕ) → i < j → j < t.len → IsBefore (get_or (elements_of address t) i no_element) (get_or (elements_of address t) j no_element))

-- a part that was put into a word is there, and the bits below and above it are as they were
pub record IsReplaced (low size word put new : ℕ) : Type 0 where
  pub part : part_of low size new ≡ put
  pub below : new % 2 ^ low ≡ word % 2 ^ low
  pub above : new / 2 ^ (low + 8 * size) ≡ word / 2 ^ (low + 8 * size)
  pub fits : new < 2 ^ 32

abbrev pub PartReplaced : Type 0
PartReplaced =
    (mode word part : ℕ) → is_mode mode ≡ true → word < 2 ^ 32 → part < 2 ^ (8 * size_of mode)
    → IsReplaced (low_of mode) (size_of mode) word part (with_part (low_of mode) (size_of mode) word part)

-- bytes that were put into memory are there, lowest first, and all others are as they were
abbrev pub BytesPut : Type 0
BytesPut =
    (memory : List ℕ) (at n x : ℕ) → at + n ≤ length memory
    → (number_at n (put_bytes memory at (bytes_of n x)) at ≡ x % 2 ^ (8 * n))
    × (length (put_bytes memory at (bytes_of n x)) ≡ length memory)
    × ((k : ℕ) → k < at → get_or (put_bytes memory at (bytes_of n x)) k 0 ≡ get_or memory k 0)
    × ((k : ℕ) → at + n ≤ k → get_or (put_bytes memory at (bytes_of n x)) k 0 ≡ get_or memory k 0)

-- what a store of an element wrote, a load of it into any VPM brings back
abbrev pub MovedAgain : Type 0
MovedAgain =
    (mode : ℕ) (e : Element) (vpm other : List (List ℕ)) (memory : List ℕ) → is_mode mode ≡ true → e.size ≡ size_of mode → e.low ≡ low_of mode
    → e.address + e.size ≤ length memory → e.row < length other → e.col < length (get_or other e.row [])
    → part_of e.low e.size (cell (load_element e (store_element e vpm memory) other) e.row e.col) ≡ part_of e.low e.size (cell vpm e.row e.col)

-- a VPM: 64 rows of sixteen words
pub record IsVpm (vpm : List (List ℕ)) : Type 0 where
  pub rows : length vpm ≡ 64
  pub row : (y : ℕ) → y < 64 → length (get_or vpm y []) ≡ 16
  pub word : (y x : ℕ) → cell vpm y x < 2 ^ 32

-- a write of a row and a load of an element leave it one
abbrev pub VpmKept : Type 0
VpmKept =
    (vpm : List (List ℕ)) → IsVpm vpm
    → ((y : Option ℕ) (words : List ℕ) → length words ≡ 16 → ((i : ℕ) → get_or words i 0 < 2 ^ 32) → IsVpm (put_row y words vpm))
    × ((mode : ℕ) (e : Element) (memory : List ℕ) → is_mode mode ≡ true → e.size ≡ size_of mode → e.low ≡ low_of mode → ((k : ℕ) → get_or memory k 0 < 256) → IsVpm (load_element e memory vpm))

-- a write of a row changes that row alone, and a load of an element that word alone
abbrev pub OthersStay : Type 0
OthersStay =
    (vpm : List (List ℕ))
    → ((row : ℕ) (words : List ℕ) → row < length vpm → get_or (put_row (Some row) words vpm) row [] ≡ words)
    × ((row y : ℕ) (words : List ℕ) → y ≢ row → get_or (put_row (Some row) words vpm) y [] ≡ get_or vpm y [])
    × ((e : Element) (memory : List ℕ) → e.row < length vpm → e.col < length (get_or vpm e.row [])
    → cell (load_element e memory vpm) e.row e.col ≡ with_part e.low e.size (cell vpm e.row e.col) (number_at e.size memory e.address))
    × ((e : Element) (memory : List ℕ) (y : ℕ) → y ≢ e.row → get_or (load_element e memory vpm) y [] ≡ get_or vpm y [])
    × ((e : Element) (memory : List ℕ) (y x : ℕ) → x ≢ e.col → cell (load_element e memory vpm) y x ≡ cell vpm y x)
