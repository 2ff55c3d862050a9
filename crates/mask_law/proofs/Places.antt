-- The masks of a place are those of its list.
use Rattle.std.proofs.Common.{◌≡◌, ℕ, ◌+◌, Bool, true, false, List, [], ◌∷◌, refl, ap, ◌∙◌}
use Rattle.std.specs.Prelude.{if◌then◌else◌, Some, None}
use Rattle.item_ir.specs.declared.form.Def.TheVariants as d
use Rattle.lane_ir.specs.declared.form.LaneStmt.{LaneStmt}
use Rattle.lane_ir.specs.declared.form.LaneStmt.TheVariants.{Let, Put}
use Rattle.mask_flow.specs.Masked.{or_top, round_of, loop_of, settles}
use Rattle.mask_law.specs.Stacks.{Kind, Round, In_loop, In_scope, same, Entry, top, at_kind, var_at, found, place, val}

pub found_at : (k : Kind) (none : ℕ) (st : List Entry) → or_top (found k st) none ≡ at_kind k none st
found_at k none [] = refl
found_at k none (e ∷ st) = by (same k e.kind) (same In_scope e.kind) (found_at k none st)
  where
    by : (x y : Bool) → or_top (found k st) none ≡ at_kind k none st → or_top (if x then Some e.var else (if y then None else found k st)) none ≡ (if x then e.var else (if y then none else at_kind k none st))
    by true y h = refl
    by false true h = refl
    by false false h = h

pub round_at : (k v : ℕ) (st : List Entry) → round_of (place k v st) ≡ var_at Round st
round_at k v st = found_at Round (top st) st

pub loop_at : (k v : ℕ) (st : List Entry) → loop_of (place k v st) ≡ var_at In_loop st
loop_at k v st = found_at In_loop (top st) st

-- the text of settling, by the masks' variables
abbrev pub settling : (k r l s m : ℕ) → List LaneStmt
settling k r l s m =
    Let (val k) (d.Get r) ∷ Let (val (k + 1)) (d.Get l) ∷ Let (val (k + 2)) (d.Get s)
    ∷ Let (val (k + 3)) (d.Choose (val k) (val (k + 1)) (val k)) ∷ Let (val (k + 4)) (d.Choose (val (k + 3)) (val (k + 2)) (val (k + 3)))
    ∷ Let (val (k + 5)) (d.Get m) ∷ Put m (val (k + 4)) (val (k + 5)) ∷ []

pub settles_so : (k v : ℕ) (st : List Entry) → settles (place k v st) ≡ settling k (var_at Round st) (var_at In_loop st) (var_at In_scope st) (top st)
unfolding settles
settles_so k v st =
    ap (λ (r : ℕ). settling k r (loop_of (place k v st)) (var_at In_scope st) (top st)) (round_at k v st)
    ∙ ap (λ (l : ℕ). settling k (var_at Round st) l (var_at In_scope st) (top st)) (loop_at k v st)
