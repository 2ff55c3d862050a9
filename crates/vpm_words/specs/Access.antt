-- ONE semantics of a peripheral access: what it wants of what is shared, which rule it breaks, whether it stalls, what a read gives, the
-- setups after it, and what is shared after it.
--
-- The machine queues the elements of a transfer that is started. One QPU alone (`at_once`) moves them when it starts the transfer.
--
-- VPM, mutex and DMA engines are those of Broadcom's VideoCore IV 3D Architecture Reference Guide, chapters on the QPU and on the VPM and
-- VCD. This project's own are: that each QPU has setups of its own and how long they last, the step of rows from 63 to 0, that element 0 of
-- what is written to a setup or an address counts, and the 0 that a wait and the mutex give.
use Rattle.std.specs.Prelude.{ℕ, suc, ◌+◌, ◌-◌, ◌*◌, ◌%◌, ◌^◌, List, [], ◌∷◌, length, Bool, true, false, not, if◌then◌else◌, nat_le, nat_lt, min, ◌==◌, ◌&&◌, ◌||◌, Option, Some, None, is_some, is_none, get_or, slice_set}
use Rattle.std.specs.List.{list_any}
use Rattle.vpm_words.specs.Piece.{Piece}
use Rattle.vpm_words.specs.Words.{read_setup_of, write_setup_of}
use Rattle.vpm_words.specs.Elements.{size_of, elements_of, is_in_row}
use Rattle.vpm_words.specs.Moves.{load_all, store_all}
use Rattle.vpm_words.specs.Rules.{is_me, is_other, asks_rows, first_of}
use Rattle.vpm_words.specs.declared.setup.ReadSetup.{ReadSetup}
use Rattle.vpm_words.specs.declared.setup.ReadSetup.TheVariants.{Rows, Load}
use Rattle.vpm_words.specs.declared.setup.WriteSetup.{WriteSetup}
use Rattle.vpm_words.specs.declared.setup.WriteSetup.TheVariants.{Row, Store}
use Rattle.vpm_words.specs.declared.state.Access.{Access}
use Rattle.vpm_words.specs.declared.state.Access.TheVariants.{Uniform, ReadVpm, WriteVpm, ReadSet, WriteSet, LoadAddr, StoreAddr, WaitLoad, WaitStore, Lock, Unlock}
use Rattle.vpm_words.specs.declared.state.Element.{Element}
use Rattle.vpm_words.specs.declared.state.Owner.{Owner}
use Rattle.vpm_words.specs.declared.state.Owner.TheVariants.{Nobody, Me, Other}
use Rattle.vpm_words.specs.declared.state.Ports.{Ports}
use Rattle.vpm_words.specs.declared.state.Region.{Region}
use Rattle.vpm_words.specs.declared.state.Rule.{Rule}
use Rattle.vpm_words.specs.declared.state.Rule.TheVariants.{H4, H8, H9, H10, H11, H12, H13, H14, H15, H16}
use Rattle.vpm_words.specs.declared.state.Seen.{Seen}
use Rattle.vpm_words.specs.declared.state.Shared.{Shared}

-- what a run never changes for one QPU: its number, its uniforms, the buffers, and its own scratch
pub record Site : Type 0 where
  pub number : ℕ
  pub uniforms : List ℕ
  pub buffers : List Region
  pub scratch : Region

-- the setups before the first word
abbrev pub no_setups : Ports
no_setups = record { taken = 0; read_row = 0; rows_left = 0; age = 3; write_row = None; load = None; store = None }

-- ---- what a read gives

-- the row of the VPM that the read setup is at
abbrev pub row_of : Ports → List (List ℕ) → List ℕ
row_of p vpm = get_or vpm p.read_row []

-- element i of what the word reads: the uniform in all elements, the row of the VPM, and 0 for a wait and for the mutex
abbrev pub incoming : Site → Ports → List ℕ → Option Access → ℕ → ℕ
incoming g p row (Some Uniform) i = get_or g.uniforms p.taken 0
incoming g p row (Some ReadVpm) i = get_or row i 0
incoming g p row _ i = 0

-- ---- what an access touches

-- n bytes at an address lie in a region
abbrev pub is_inside : ℕ → ℕ → Region → Bool
is_inside at n r = nat_le r.start at && nat_le (at + n) (r.start + r.len)

-- a transfer may be started at an address: it is a multiple of the element's size, and the bytes lie in one buffer or in the scratch
unfoldable pub fits : Site → Piece → ℕ → Bool
fits g t at = (at % size_of t.mode == 0) && (list_any (is_inside at (size_of t.mode * t.len)) g.buffers || is_inside at (size_of t.mode * t.len) g.scratch)

abbrev pub fits_if_set : Site → Option Piece → ℕ → Bool
fits_if_set g None at = true
fits_if_set g (Some t) at = fits g t at

-- the elements of the transfer that is started, none without its setup
abbrev pub started : Option Piece → ℕ → List Element
started None at = []
started (Some t) at = elements_of at t

-- the row that a read of the VPM touches: none where no row is left
abbrev pub row_to_read : ℕ → ℕ → Option ℕ
row_to_read left row = if left == 0 then None else Some row

-- the row that an access touches
abbrev pub touched : Option Access → Ports → Option ℕ
touched (Some ReadVpm) p = row_to_read p.rows_left p.read_row
touched (Some WriteVpm) p = p.write_row
touched _ p = None

-- the setup of the transfer that an access starts
abbrev pub started_by : Option Access → Ports → Option Piece
started_by (Some LoadAddr) p = p.load
started_by (Some StoreAddr) p = p.store
started_by _ p = None

-- ---- what is shared, as one QPU sees it

abbrev pub owner_seen : Option ℕ → ℕ → Owner
owner_seen None k = Nobody
owner_seen (Some j) k = if j == k then Me else Other

abbrev pub is_busy : List Element → Bool
is_busy [] = false
is_busy (e ∷ es) = true

-- an element of either engine is left in this row
abbrev pub is_row_busy : Option ℕ → List Element → List Element → Bool
is_row_busy None loads stores = false
is_row_busy (Some row) loads stores = list_any (is_in_row row) loads || list_any (is_in_row row) stores

-- the value that an access writes to a setup or an address, else 0
abbrev pub value_seen : Option Access → ℕ → ℕ
value_seen (Some ReadSet) value = value
value_seen (Some WriteSet) value = value
value_seen (Some LoadAddr) value = value
value_seen (Some StoreAddr) value = value
value_seen _ value = 0

-- what the restrictions look at; value is element 0 of what the word writes to a peripheral
unfoldable pub seen : Site → Ports → Shared → Option Access → ℕ → Seen
seen g p s a value =
    record {
      uniforms = length g.uniforms - p.taken;
      owner = owner_seen s.owner g.number;
      read_rows = p.rows_left;
      write_set = is_some p.write_row;
      load_set = is_some p.load;
      store_set = is_some p.store;
      load_busy = is_busy s.loads;
      store_busy = is_busy s.stores;
      row_busy = is_row_busy (touched a p) s.loads s.stores;
      value = value_seen a value;
      fits = fits_if_set g (started_by a p) value;
    }

-- ---- the split: a demand by the QPU's own state, then rules, stall and effect by what is shared

-- what a word wants of what is shared. `late` is the rule on the QPU's own state that is tested after those on what is shared
pub data Demand : Type 0 where
  Private : Option Rule → Demand
  Setup : Option Rule → Demand
  Take : Demand
  Give : Demand
  ReadRow : Option ℕ → Option Rule → Demand
  WriteRow : Option ℕ → List ℕ → Option Rule → Demand
  StartLoad : List Element → Option Rule → Demand
  StartStore : List Element → Option Rule → Demand
  AwaitLoad : Demand
  AwaitStore : Demand

-- value is element 0 of what the word writes to the peripheral, and words all sixteen
abbrev pub demand : Site → Ports → Option Access → ℕ → List ℕ → Demand
demand g p None value words = Private None
demand g p (Some Uniform) value words = Private (first_of (length g.uniforms - p.taken == 0) H4 None)
demand g p (Some ReadVpm) value words = ReadRow (row_to_read p.rows_left p.read_row) (first_of ((p.rows_left == 0) || nat_lt p.age 3) H13 None)
demand g p (Some WriteVpm) value words = WriteRow p.write_row words (first_of (not (is_some p.write_row)) H15 None)
demand g p (Some ReadSet) value words =
    Setup (first_of (is_none (read_setup_of value)) H14 (first_of (asks_rows (read_setup_of value) && nat_lt 0 p.rows_left) H16 None))
demand g p (Some WriteSet) value words = Setup (first_of (is_none (write_setup_of value)) H14 None)
demand g p (Some LoadAddr) value words =
    StartLoad (started p.load value) (first_of (not (fits_if_set g p.load value)) H12 (first_of (not (is_some p.load)) H15 None))
demand g p (Some StoreAddr) value words =
    StartStore (started p.store value) (first_of (not (fits_if_set g p.store value)) H12 (first_of (not (is_some p.store)) H15 None))
demand g p (Some WaitLoad) value words = AwaitLoad
demand g p (Some WaitStore) value words = AwaitStore
demand g p (Some Lock) value words = Take
demand g p (Some Unlock) value words = Give

abbrev pub if_mine : Option ℕ → ℕ → Rule → Option Rule → Option Rule
if_mine owner k rule others = first_of (not (is_me (owner_seen owner k))) rule others

-- the least broken rule
abbrev pub breaks : Demand → ℕ → Shared → Option Rule
breaks (Private late) k s = late
breaks (Setup late) k s = if_mine s.owner k H9 late
breaks Take k s = first_of (is_me (owner_seen s.owner k)) H8 None
breaks Give k s = if_mine s.owner k H8 (first_of (is_busy s.loads || is_busy s.stores) H11 None)
breaks (ReadRow row late) k s = if_mine s.owner k H9 (first_of (is_row_busy row s.loads s.stores) H10 late)
breaks (WriteRow row words late) k s = if_mine s.owner k H9 (first_of (is_row_busy row s.loads s.stores) H10 late)
breaks (StartLoad es late) k s = if_mine s.owner k H9 (first_of (is_busy s.loads) H11 late)
breaks (StartStore es late) k s = if_mine s.owner k H9 (first_of (is_busy s.stores) H11 late)
breaks AwaitLoad k s = if_mine s.owner k H9 None
breaks AwaitStore k s = if_mine s.owner k H9 None

-- where no rule is broken: it waits for the mutex, or for an engine that has elements left
abbrev pub stalls : Demand → ℕ → Shared → Bool
stalls Take k s = is_other (owner_seen s.owner k)
stalls AwaitLoad k s = is_busy s.loads
stalls AwaitStore k s = is_busy s.stores
stalls _ k s = false

abbrev pub put_row : Option ℕ → List ℕ → List (List ℕ) → List (List ℕ)
put_row None words vpm = vpm
put_row (Some row) words vpm = slice_set vpm row words

-- what is shared after it; the elements of a started transfer are left
abbrev pub share : Demand → ℕ → Shared → Shared
share Take k s = record s { owner = Some k }
share Give k s = record s { owner = None }
share (WriteRow row words late) k s = record s { vpm = put_row row words s.vpm }
share (StartLoad es late) k s = record s { loads = es }
share (StartStore es late) k s = record s { stores = es }
share _ k s = s

-- ---- the QPU's own setups after a word that is done

-- one more word was done since the last read setup of rows
abbrev pub older : Ports → Ports
older p = record p { age = min (p.age + 1) 3 }

abbrev pub set_read : Ports → Option ReadSetup → Ports
set_read p None = p
set_read p (Some (Rows row rows)) = record p { read_row = row; rows_left = rows; age = 0 }
set_read p (Some (Load t)) = record p { load = Some t }

abbrev pub set_write : Ports → Option WriteSetup → Ports
set_write p None = p
set_write p (Some (Row row)) = record p { write_row = Some row }
set_write p (Some (Store t)) = record p { store = Some t }

abbrev pub next_row : Option ℕ → Option ℕ
next_row None = None
next_row (Some row) = Some ((row + 1) % 64)

-- the count of uniforms stays at its last value. A QPU has no more of them than that, and one past its last breaks H4
abbrev pub accessed : Option Access → Ports → ℕ → Ports
accessed (Some Uniform) p value = record p { taken = min (p.taken + 1) (2 ^ 32 - 1) }
accessed (Some ReadVpm) p value = record p { read_row = (p.read_row + 1) % 64; rows_left = p.rows_left - 1 }
accessed (Some WriteVpm) p value = record p { write_row = next_row p.write_row }
accessed (Some ReadSet) p value = set_read p (read_setup_of value)
accessed (Some WriteSet) p value = set_write p (write_setup_of value)
accessed _ p value = p

unfoldable pub ports_after : Option Access → Ports → ℕ → Ports
ports_after a p value = accessed a (older p) value

-- ---- one QPU alone

-- what is shared, and the memory
pub record Alone : Type 0 where
  pub shared : Shared
  pub memory : List ℕ

-- what an acquire finds: the VPM as another QPU left it, and a memory of which the bytes that QPUs share count
pub record Given : Type 0 where
  pub vpm : List (List ℕ)
  pub memory : List ℕ

-- the bytes at the addresses in the set from the first list, and the others from the second; the address is that of the first byte.
-- The result is as long as the second list
abbrev pub overlaid : (ℕ → Bool) → ℕ → List ℕ → List ℕ → List ℕ
overlaid x at given [] = []
overlaid x at [] (b ∷ bs) = b ∷ bs
overlaid x at (m ∷ ms) (b ∷ bs) = (if x at then m else b) ∷ overlaid x (suc at) ms bs

-- after `share`: a started transfer is moved whole, and an acquire finds what it is given. x is the set of the bytes that QPUs share
abbrev pub at_once : (ℕ → Bool) → Demand → Given → Shared → List ℕ → Alone
at_once x (StartLoad es late) v s memory = record { shared = record s { vpm = load_all s.loads memory s.vpm; loads = [] }; memory = memory }
at_once x (StartStore es late) v s memory = record { shared = record s { stores = [] }; memory = store_all s.stores s.vpm memory }
at_once x Take v s memory = record { shared = record s { vpm = v.vpm }; memory = overlaid x 0 v.memory memory }
at_once x _ v s memory = record { shared = s; memory = memory }
