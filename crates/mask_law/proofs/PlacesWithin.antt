-- The places of the statements within a statement.
use Rattle.std.proofs.Common.{◌≡◌, ℕ, ◌+◌, Bool, true, false, List, [], ◌∷◌, refl, ap}
use Rattle.std.specs.Prelude.{if◌then◌else◌, not, ◌&&◌, ◌||◌}
use Rattle.mask_flow.specs.declared.place.Place.{Place}
use Rattle.mask_flow.specs.Masked.{masked_all, branch as branch_place, turning, in_round as round_place}
use Rattle.mask_law.specs.Stacks.{Kind, In_scope, same, Entry, top, at_kind, place, branch, in_loop, in_round}
use Rattle.mask_law.specs.Masks.{has}
use Rattle.mask_law.specs.Places.{PlacesWithin}
use Rattle.lane_ir.specs.LaneMeaning.{run_all}

-- an open mask is found whatever stands for none
any_none : (k : Kind) (a b : ℕ) (st : List Entry) → has k st ≡ true → at_kind k a st ≡ at_kind k b st
any_none k a b [] h = cc
any_none k a b (e ∷ st) h = by (same k e.kind) (same In_scope e.kind) h (any_none k a b st)
  where
    by : (x y : Bool) → (x || (not y && has k st)) ≡ true → (has k st ≡ true → at_kind k a st ≡ at_kind k b st)
        → (if x then e.var else (if y then a else at_kind k a st)) ≡ (if x then e.var else (if y then b else at_kind k b st))
    by true y q more = refl
    by false true q more = cc
    by false false q more = more q

pub branch_at : (k v : ℕ) (st : List Entry) → has In_scope st ≡ true → branch_place (place k v st) ≡ place (k + 5) (v + 1) (branch v st)
branch_at k v st h = ap (λ (u : ℕ). record (branch_place (place k v st)) { in_scope = u }) (any_none In_scope (top st) v st h)

pub turning_at : (k v : ℕ) (st : List Entry) → has In_scope st ≡ true → turning (place k v st) ≡ place k (v + 2) (in_loop v st)
turning_at k v st h = ap (λ (u : ℕ). record (turning (place k v st)) { in_scope = u }) (any_none In_scope (top st) v st h)

pub round_within : (k v : ℕ) (st : List Entry) → has In_scope st ≡ true → round_place (place k v st) ≡ place k (v + 2) (in_round v st)
round_within k v st h = ap (λ (u : ℕ). record (round_place (place k v st)) { in_scope = u }) (any_none In_scope (top st) (v + 1) st h)

pub places_within : PlacesWithin
places_within k v st h = record {
  branches = λ w n i ids body t. ap (λ (p : Place). run_all w n i (masked_all ids p body) t) (branch_at k v st h);
  scopes = λ w n i ids body t. refl;
  turns = λ w n i ids body t. ap (λ (p : Place). run_all w n i (masked_all ids p body) t) (turning_at k v st h);
  goes_round = λ w n i ids body t. ap (λ (p : Place). run_all w n i (masked_all ids p body) t) (round_within k v st h);
}
