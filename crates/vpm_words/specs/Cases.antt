-- Cases of the rules and of what an access does, to be read beside their definitions.
use Rattle.std.specs.Prelude.{◌≡◌, ℕ, ◌==◌, List, [], ◌∷◌, Bool, true, false, Option, Some, None}
use Rattle.vpm_words.specs.Piece.{Piece}
use Rattle.vpm_words.specs.Words.{load_word, store_word, rows_word, row_word}
use Rattle.vpm_words.specs.Elements.{element_at, elements_of}
use Rattle.vpm_words.specs.Moves.{with_part, number_at, bytes_of}
use Rattle.vpm_words.specs.Access.{Site, no_setups, row_of, incoming, StartLoad, StartStore, Take, Give, Given, demand, breaks, stalls, share, ports_after, at_once}
use Rattle.vpm_words.specs.declared.state.Access.{Access}
use Rattle.vpm_words.specs.declared.state.Access.TheVariants.{Uniform, ReadVpm, WriteVpm, ReadSet, WriteSet, LoadAddr, StoreAddr, WaitLoad, WaitStore, Lock, Unlock}
use Rattle.vpm_words.specs.declared.state.Element.{Element}
use Rattle.vpm_words.specs.declared.state.Ports.{Ports}
use Rattle.vpm_words.specs.declared.state.Rule.{Rule}
use Rattle.vpm_words.specs.declared.state.Rule.TheVariants.{H4, H8, H9, H10, H11, H12, H13, H14, H15, H16}
use Rattle.vpm_words.specs.declared.state.Shared.{Shared}

-- QPU 2 with one uniform, two buffers of 64 bytes that touch, and a scratch
abbrev pub here : Site
here =
    record {
      number = 2;
      uniforms = 7 ∷ [];
      buffers = record { start = 256; len = 64 } ∷ record { start = 320; len = 64 } ∷ [];
      scratch = record { start = 512; len = 64 };
    }

-- all of its setups are made: rows 5 and 6 are to be read, row 63 is to be written, and transfers are of two words
abbrev pub two_words : Piece
two_words = record { mode = 0; len = 2; row = 9; col = 0 }

abbrev pub set_up : Ports
set_up = record { taken = 0; read_row = 5; rows_left = 2; age = 3; write_row = Some 63; load = Some two_words; store = Some two_words }

abbrev pub owned_by : Option ℕ → Shared
owned_by owner = record { vpm = []; owner = owner; loads = []; stores = [] }

abbrev pub in_row : ℕ → List Element
in_row y = record { address = 256; size = 4; row = y; col = 0; low = 0 } ∷ []

-- the rule that an access with this value breaks
abbrev pub broken : Ports → Shared → Access → ℕ → Option Rule
broken p s a value = breaks (demand here p (Some a) value []) 2 s

abbrev pub mine : Shared
mine = owned_by (Some 2)

pub record KnownRules : Type 0 where
  pub uniform : broken set_up mine Uniform 0 ≡ None
  pub no_uniform : broken (record set_up { taken = 1 }) mine Uniform 0 ≡ Some H4
  pub uniform_of_nobody : broken set_up (owned_by None) Uniform 0 ≡ None
  pub lock_free : broken set_up (owned_by None) Lock 0 ≡ None
  pub lock_other : broken set_up (owned_by (Some 3)) Lock 0 ≡ None
  pub lock_twice : broken set_up mine Lock 0 ≡ Some H8
  pub unlock : broken set_up mine Unlock 0 ≡ None
  pub unlock_free : broken set_up (owned_by None) Unlock 0 ≡ Some H8
  pub unlock_other : broken set_up (owned_by (Some 3)) Unlock 0 ≡ Some H8
  pub read_without : broken set_up (owned_by None) ReadVpm 0 ≡ Some H9
  pub write_without : broken set_up (owned_by (Some 3)) WriteVpm 0 ≡ Some H9
  pub set_without : broken no_setups (owned_by None) ReadSet 0 ≡ Some H9
  pub start_without : broken no_setups (owned_by (Some 3)) StoreAddr 1 ≡ Some H9
  pub wait_without : broken set_up (owned_by (Some 3)) WaitLoad 0 ≡ Some H9
  pub read : broken set_up mine ReadVpm 0 ≡ None
  pub read_busy : broken set_up (record mine { loads = in_row 5 }) ReadVpm 0 ≡ Some H10
  pub read_busy_store : broken set_up (record mine { stores = in_row 5 }) ReadVpm 0 ≡ Some H10
  pub read_other_row : broken set_up (record mine { loads = in_row 6 }) ReadVpm 0 ≡ None
  pub read_none_left : broken (record set_up { rows_left = 0 }) (record mine { loads = in_row 5 }) ReadVpm 0 ≡ Some H13
  pub read_early : broken (record set_up { age = 2 }) mine ReadVpm 0 ≡ Some H13
  pub read_busy_early : broken (record set_up { age = 2 }) (record mine { loads = in_row 5 }) ReadVpm 0 ≡ Some H10
  pub read_last : broken (record set_up { rows_left = 1 }) mine ReadVpm 0 ≡ None
  pub write : broken set_up mine WriteVpm 0 ≡ None
  pub write_busy : broken set_up (record mine { stores = in_row 63 }) WriteVpm 0 ≡ Some H10
  pub write_unset : broken no_setups (record mine { stores = in_row 0 }) WriteVpm 0 ≡ Some H15
  pub unlock_busy : broken set_up (record mine { stores = in_row 1 }) Unlock 0 ≡ Some H11
  pub unlock_loading : broken set_up (record mine { loads = in_row 1 }) Unlock 0 ≡ Some H11
  pub start_busy : broken set_up (record mine { loads = in_row 1 }) LoadAddr 1 ≡ Some H11
  pub start_beside : broken set_up (record mine { loads = in_row 1 }) StoreAddr 256 ≡ None
  pub start : broken set_up mine LoadAddr 312 ≡ None
  pub start_in_scratch : broken set_up mine LoadAddr 568 ≡ None
  pub start_odd : broken set_up mine LoadAddr 258 ≡ Some H12
  pub start_before : broken set_up mine LoadAddr 252 ≡ Some H12
  pub start_past : broken set_up mine StoreAddr 380 ≡ Some H12
  pub start_in_two : broken set_up mine StoreAddr 316 ≡ Some H12
  pub start_unset : broken no_setups mine LoadAddr 1 ≡ Some H15
  pub store_unset : broken no_setups mine StoreAddr 1 ≡ Some H15
  pub rows_before_last : broken (record set_up { rows_left = 1 }) mine ReadSet (rows_word 0 1) ≡ Some H16
  pub rows_again : broken set_up mine ReadSet (rows_word 0 1) ≡ Some H16
  pub rows : broken (record set_up { rows_left = 0 }) mine ReadSet (rows_word 0 1) ≡ None
  pub load_while_rows : broken set_up mine ReadSet (load_word two_words) ≡ None
  pub no_read_setup : broken set_up mine ReadSet (store_word two_words) ≡ Some H14
  pub no_write_setup : broken set_up mine WriteSet (load_word two_words) ≡ Some H14
  pub write_rows : broken set_up mine WriteSet (row_word 63) ≡ None

-- whether it waits
abbrev pub waits : Shared → Access → Bool
waits s a = stalls (demand here set_up (Some a) 0 []) 2 s

pub record KnownStalls : Type 0 where
  pub lock_other : waits (owned_by (Some 3)) Lock ≡ true
  pub lock_free : waits (owned_by None) Lock ≡ false
  pub load_busy : waits (record mine { loads = in_row 5 }) WaitLoad ≡ true
  pub load_idle : waits (record mine { stores = in_row 5 }) WaitLoad ≡ false
  pub store_busy : waits (record mine { stores = in_row 5 }) WaitStore ≡ true
  pub store_idle : waits (record mine { loads = in_row 5 }) WaitStore ≡ false

pub record KnownEffects : Type 0 where
  pub uniform : incoming here set_up [] (Some Uniform) 11 ≡ 7
  pub row : incoming here set_up (3 ∷ 4 ∷ []) (Some ReadVpm) 1 ≡ 4
  pub next_row : row_of (record set_up { read_row = 1 }) ((1 ∷ []) ∷ (3 ∷ 4 ∷ []) ∷ []) ≡ 3 ∷ 4 ∷ []
  pub wait : incoming here set_up (9 ∷ []) (Some WaitStore) 0 ≡ 0
  pub mutex : incoming here set_up (9 ∷ []) (Some Lock) 0 ≡ 0
  pub setup_of_rows : ports_after (Some ReadSet) (record set_up { rows_left = 0 }) (rows_word 8 16) ≡ record set_up { read_row = 8; rows_left = 16; age = 0 }
  pub setup_of_load : ports_after (Some ReadSet) (record set_up { age = 1 }) (load_word two_words) ≡ record set_up { age = 2 }
  pub no_access : ports_after None (record set_up { age = 2 }) 0 ≡ set_up
  pub old : ports_after None set_up 0 ≡ set_up
  pub uniform_taken : ports_after (Some Uniform) set_up 0 ≡ record set_up { taken = 1 }
  pub uniforms_end : ports_after (Some Uniform) (record set_up { taken = 4294967295 }) 0 ≡ record set_up { taken = 4294967295 }
  pub row_read : ports_after (Some ReadVpm) (record set_up { read_row = 63; rows_left = 1 }) 0 ≡ record set_up { read_row = 0; rows_left = 0 }
  pub row_written : ports_after (Some WriteVpm) set_up 0 ≡ record set_up { write_row = Some 0 }
  pub halves :
      elements_of 256 (record { mode = 3; len = 2; row = 4; col = 14 })
      ≡ record { address = 256; size = 2; row = 4; col = 14; low = 16 } ∷ record { address = 258; size = 2; row = 4; col = 15; low = 16 } ∷ []
  pub byte : element_at 7 (record { mode = 6; len = 3; row = 4; col = 0 }) 2 ≡ record { address = 9; size = 1; row = 4; col = 2; low = 16 }
  pub put_high_half : with_part 16 2 287454020 43981 ≡ 2882351940
  pub put_byte : with_part 8 1 287454020 171 ≡ 287484740
  pub little_end : number_at 4 (1 ∷ 2 ∷ 3 ∷ 4 ∷ []) 0 ≡ 67305985
  pub little_end_out : bytes_of 2 513 ≡ 1 ∷ 2 ∷ []

-- what QPU 2 leaves shared after an access with this value
abbrev pub shared_after : Ports → Shared → Access → ℕ → Shared
shared_after p s a value = share (demand here p (Some a) value (7 ∷ 8 ∷ [])) 2 s

abbrev pub first_word : Element
first_word = record { address = 256; size = 4; row = 9; col = 0; low = 0 }

abbrev pub second_word : Element
second_word = record { address = 260; size = 4; row = 9; col = 1; low = 0 }

-- the high half of the word in column 1 of row 0, at address 1
abbrev pub half : Element
half = record { address = 1; size = 2; row = 0; col = 1; low = 16 }

abbrev pub one_row : List ℕ → Shared
one_row words = record mine { vpm = words ∷ [] }

-- the QPUs share the byte at address 1
abbrev pub is_shared : ℕ → Bool
is_shared at = at == 1

abbrev pub given : Given
given = record { vpm = (3 ∷ []) ∷ []; memory = 7 ∷ 8 ∷ 9 ∷ [] }

-- what is shared after an access, after a transfer that is moved whole, and after an acquire
pub record KnownShares : Type 0 where
  pub lock : shared_after set_up (owned_by None) Lock 0 ≡ mine
  pub unlock : shared_after set_up mine Unlock 0 ≡ owned_by None
  pub start_load : shared_after set_up mine LoadAddr 256 ≡ record mine { loads = first_word ∷ second_word ∷ [] }
  pub start_store : shared_after set_up mine StoreAddr 256 ≡ record mine { stores = first_word ∷ second_word ∷ [] }
  pub write :
      shared_after (record set_up { write_row = Some 1 }) (record mine { vpm = [] ∷ [] ∷ [] ∷ [] }) WriteVpm 7
      ≡ record mine { vpm = [] ∷ (7 ∷ 8 ∷ []) ∷ [] ∷ [] }
  pub read : shared_after set_up mine ReadVpm 0 ≡ mine
  pub uniform : shared_after set_up mine Uniform 0 ≡ mine
  pub set : shared_after set_up mine WriteSet (row_word 63) ≡ mine
  pub wait : shared_after set_up mine WaitStore 0 ≡ mine
  pub load_whole :
      at_once is_shared (StartLoad [] None) given (record (one_row (4 ∷ 5 ∷ 6 ∷ [])) { loads = half ∷ [] }) (9 ∷ 1 ∷ 2 ∷ 9 ∷ [])
      ≡ record { shared = one_row (4 ∷ 33619973 ∷ 6 ∷ []); memory = 9 ∷ 1 ∷ 2 ∷ 9 ∷ [] }
  pub store_whole :
      at_once is_shared (StartStore [] None) given (record (one_row (4 ∷ 33619973 ∷ 6 ∷ [])) { stores = half ∷ [] }) (9 ∷ 8 ∷ 7 ∷ 9 ∷ [])
      ≡ record { shared = one_row (4 ∷ 33619973 ∷ 6 ∷ []); memory = 9 ∷ 1 ∷ 2 ∷ 9 ∷ [] }
  pub acquired : at_once is_shared Take given (one_row (4 ∷ [])) (4 ∷ 5 ∷ 6 ∷ []) ≡ record { shared = one_row (3 ∷ []); memory = 4 ∷ 8 ∷ 6 ∷ [] }
  pub acquired_less : at_once is_shared Take (record given { memory = [] }) (one_row (4 ∷ [])) (4 ∷ 5 ∷ []) ≡ record { shared = one_row (3 ∷ []); memory = 4 ∷ 5 ∷ [] }
  pub released : at_once is_shared Give given (one_row (4 ∷ [])) (4 ∷ 5 ∷ []) ≡ record { shared = one_row (4 ∷ []); memory = 4 ∷ 5 ∷ [] }
