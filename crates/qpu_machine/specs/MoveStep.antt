-- One move: an engine moves one of the elements that it has left, in any order. It is one atomic step, and it never touches a QPU. That an
-- engine moves element by element, in any order, is this project's own.
use Rattle.std.specs.Prelude.{ℕ, ◌%◌, List, length, if◌then◌else◌, slice_get}
use Rattle.std.specs.List.{remove}
use Rattle.std.specs.declared.option.Option.{Option}
use Rattle.std.specs.declared.option.Option.TheVariants.{Some, None}
use Rattle.vpm_words.specs.Access.{is_busy}
use Rattle.vpm_words.specs.Moves.{load_element, store_element}
use Rattle.vpm_words.specs.declared.state.Element.{Element}
use Rattle.vpm_words.specs.declared.state.Shared.{Shared}
use Rattle.qpu_machine.specs.declared.state.Effect.{Effect}
use Rattle.qpu_machine.specs.declared.state.Effect.TheVariants as effect
use Rattle.qpu_machine.specs.declared.state.Counts.{Counts}
use Rattle.qpu_machine.specs.IssueStep.{one_more}

-- what a move leaves of what is shared, of the counts and of the memory, and what it did
pub record Moved : Type 0 where
  pub shared : Shared
  pub counts : Counts
  pub memory : List ℕ
  pub effect : Effect

abbrev pub unmoved : Shared → Counts → List ℕ → Moved
unmoved s c memory = record { shared = s; counts = c; memory = memory; effect = effect.Nothing }

abbrev pub one_moved : Counts → Counts
one_moved c = record c { moved = one_more c.moved }

-- element j of those that are left is loaded and taken out of them
abbrev pub loaded : Shared → Counts → List ℕ → ℕ → Option Element → Moved
loaded s c memory j None = unmoved s c memory
loaded s c memory j (Some e) =
    record { shared = record s { vpm = load_element e memory s.vpm; loads = remove s.loads j }; counts = one_moved c; memory = memory; effect = effect.Moved }

-- a load by number i: of m elements left, it is element i mod m
unfoldable pub load_move : Shared → Counts → List ℕ → ℕ → Moved
load_move s c memory i =
    if is_busy s.loads then loaded s c memory (i % length s.loads) (slice_get s.loads (i % length s.loads)) else unmoved s c memory

-- the same for a store
abbrev pub stored : Shared → Counts → List ℕ → ℕ → Option Element → Moved
stored s c memory j None = unmoved s c memory
stored s c memory j (Some e) =
    record { shared = record s { stores = remove s.stores j }; counts = one_moved c; memory = store_element e s.vpm memory; effect = effect.Moved }

unfoldable pub store_move : Shared → Counts → List ℕ → ℕ → Moved
store_move s c memory i =
    if is_busy s.stores then stored s c memory (i % length s.stores) (slice_get s.stores (i % length s.stores)) else unmoved s c memory
