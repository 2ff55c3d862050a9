-- The places where a statement's own statements stand are those of the lists of masks that are open there.
use Rattle.std.specs.Prelude.{◌≡◌, ℕ, ◌+◌, true, List}
use Rattle.item_ir.specs.declared.form.Val.{Val}
use Rattle.item_ir.specs.declared.form.Stmt.{Stmt}
use Rattle.lane_ir.specs.LaneMeaning.{World, State, run_all}
use Rattle.mask_flow.specs.declared.place.Place.{Place}
use Rattle.mask_flow.specs.Masked.{masked_all, branch as branch_place, scope as scope_place, turning, in_round as round_place}
use Rattle.mask_law.specs.Stacks.{Entry, In_scope, place, branch, in_scope, in_loop, in_round}
use Rattle.mask_law.specs.Masks.{has}

-- the code of both places runs alike
abbrev pub SameCode : Place → Place → Type 0
SameCode p q = (w : World) (n i : ℕ) (ids : List Val) (body : List Stmt) (t : State) → run_all w n i (masked_all ids p body) t ≡ run_all w n i (masked_all ids q body) t

pub record Within (k v : ℕ) (st : List Entry) : Type 0 where
  pub branches : SameCode (branch_place (place k v st)) (place (k + 5) (v + 1) (branch v st))
  pub scopes : SameCode (scope_place (place k v st)) (place k (v + 1) (in_scope v st))
  pub turns : SameCode (turning (place k v st)) (place k (v + 2) (in_loop v st))
  pub goes_round : SameCode (round_place (place k v st)) (place k (v + 2) (in_round v st))

-- a scope is always open
abbrev pub PlacesWithin : Type 0
PlacesWithin = (k v : ℕ) (st : List Entry) → has In_scope st ≡ true → Within k v st
