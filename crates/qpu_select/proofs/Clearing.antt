-- What is cleared, and what a batch's statements add with it, naming by naming and statement by statement.
use Rattle.std.proofs.Common.{◌≡◌, ℕ, ◌+◌, ◌<◌, List, [], ◌∷◌, ◌++◌, refl, sym, ap, ◌∙◌, map, length, take, drop, get_or, append_assoc}
use Rattle.std.proofs.lemmas.List.{append-nil, map-append, drop_more, take_more}
use Rattle.vop_ir.specs.declared.form.Vop.{Vop}
use Rattle.vop_ir.specs.Runs.{block_from}
use Rattle.qpu_select.specs.declared.emitted.Emitted.{Emitted}
use Rattle.qpu_select.specs.Code.{adds}
use Rattle.qpu_select.specs.Clears.{Naming, clear, cleared_by, cleared, seen_after}
use Rattle.qpu_select.specs.Emitting.{start_of, Adds}

-- one naming more
seen_more : (seen : List ℕ) (ws : List Naming) (w : Naming) → seen_after seen (ws ++ w ∷ []) ≡ w.reg ∷ seen_after seen ws
seen_more seen [] w = refl
seen_more seen (v ∷ ws) w = seen_more (v.reg ∷ seen) ws w

pub seen_next : (seen : List ℕ) (ws : List Naming) (i : ℕ) (d : Naming) → i < length ws → seen_after seen (take (i + 1) ws) ≡ (get_or ws i d).reg ∷ seen_after seen (take i ws)
seen_next seen ws i d h = ap (seen_after seen) (take_more ws i d h) ∙ seen_more seen (take i ws) (get_or ws i d)

-- the clears for one naming more
pub clears_next : (seen : List ℕ) (ws : List Naming) (i : ℕ) (d : Naming) (ops new all : List Vop) → i < length ws
    → new ≡ ops ++ map clear (cleared_by (seen_after seen (take i ws)) (get_or ws i d))
    → ops ++ map clear (cleared (seen_after seen (take i ws)) (drop i ws)) ≡ all
    → new ++ map clear (cleared (seen_after seen (take (i + 1) ws)) (drop (i + 1) ws)) ≡ all
clears_next seen ws i d ops new all h one rest =
    let before = seen_after seen (take i ws) in
    let w = get_or ws i d in
    let left = drop (i + 1) ws in
    (λ j. one j ++ map clear (cleared (seen_next seen ws i d h j) left))
    ∙ append_assoc ops (map clear (cleared_by before w)) (map clear (cleared (w.reg ∷ before) left))
    ∙ ap (λ more. ops ++ more) (sym (map-append clear (cleared_by before w) (cleared (w.reg ∷ before) left)))
    ∙ ap (λ vs. ops ++ map clear (cleared before vs)) (sym (drop_more ws i d h))
    ∙ rest

-- operations are added
pub ops_add : (old new : Emitted) (more : List Vop) → new.closed.items ≡ old.closed.items → new.ops.items ≡ old.ops.items ++ more → new.next ≡ old.next
    → Adds (adds (start_of old) more) old new
ops_add old new more closed ops next =
    record {
      closed = ap (map block_from) closed ∙ sym (append-nil (map block_from old.closed.items));
      ops = ops;
      next = next;
    }
