-- A mask that comes to the top again is settled rightly.
use Rattle.std.proofs.Common.{◌≡◌, ℕ, Bool, true, false, List, [], ◌∷◌, refl, sym, ap, ◌∙◌}
use Rattle.std.specs.Prelude.{if◌then◌else◌, not, ◌&&◌, ◌||◌}
use Rattle.item_ir.specs.IrMeaning.{Flow, Next, Broke, Again, Gone}
use Rattle.lane_ir.specs.LaneMeaning.{is_on}
use Rattle.mask_law.specs.Stacks.{Kind, Branch, Round, In_loop, In_scope, same, Entry}
use Rattle.mask_law.specs.Masks.{Mask, column, top_on, on_at, all_on, settle, clear_top, clear_end, after, has, flow_has}
use Rattle.mask_law.specs.Joins.{tail, mask, Joins, MasksJoin}

false_and : (a b : Bool) → a ≡ false → (a && b) ≡ false
false_and true b h = cc
false_and false b h = refl

true_and : (a b : Bool) → a ≡ true → b ≡ true → (a && b) ≡ true
true_and true true h g = refl
true_and true false h g = cc
true_and false b h g = cc

and_false : (a : Bool) → (a && false) ≡ false
and_false true = refl
and_false false = refl

both_false : (a b : Bool) → (a && (b && false)) ≡ false
both_false true true = refl
both_false true false = refl
both_false false b = refl

all_three : (a b c : Bool) → (a && (b && c)) ≡ true → (a ≡ true) × (b ≡ true) × (c ≡ true)
all_three true true true h = (refl, refl, refl)
all_three true true false h = cc
all_three true false c h = cc
all_three false b c h = cc

pub settle_off : (ms : List Mask) → top_on ms ≡ false → settle ms ≡ ms
settle_off [] h = refl
settle_off (m ∷ ms) h = ap (λ (c : Bool). record m { on = c } ∷ ms) (false_and m.on (all_on (m ∷ ms)) h ∙ sym h)

pub settle_on : (ms : List Mask) → top_on ms ≡ true → all_on ms ≡ true → settle ms ≡ ms
settle_on [] h g = refl
settle_on (m ∷ ms) h g = ap (λ (c : Bool). record m { on = c } ∷ ms) (true_and m.on (all_on (m ∷ ms)) h g ∙ sym h)

pub falls : (ms : List Mask) → all_on ms ≡ false → settle ms ≡ clear_top ms
falls [] h = refl
falls (m ∷ ms) h = ap (λ (t : Bool). record m { on = m.on && t } ∷ ms) h ∙ ap (λ (t : Bool). record m { on = t } ∷ ms) (and_false m.on)

-- where a way to leave has ended, its mask is off
pub end_off : (k : Kind) (st : List Entry) (words : ℕ → ℕ) → has k st ≡ true → on_at k (clear_end k (column st words)) ≡ false
end_off k [] words h = cc
end_off k (e ∷ st) words h = by (same k e.kind) refl (same In_scope e.kind) refl h (λ q. end_off k st words q)
  where
    by : (x : Bool) → same k e.kind ≡ x → (y : Bool) → same In_scope e.kind ≡ y → (x || (not y && has k st)) ≡ true
        → (has k st ≡ true → on_at k (clear_end k (column st words)) ≡ false)
        → on_at k (if x then mask e.kind false ∷ column st words else (if y then mask e.kind (is_on (words e.var)) ∷ column st words else mask e.kind (is_on (words e.var)) ∷ clear_end k (column st words))) ≡ false
    by true ex y ey h more = ap (λ (t : Bool). if t then false else (if same In_scope e.kind then true else on_at k (column st words))) ex
    by false ex true ey h more = cc
    by false ex false ey h more =
        ap (λ (t : Bool). if t then is_on (words e.var) else (if same In_scope e.kind then true else on_at k (clear_end k (column st words)))) ex
        ∙ ap (λ (t : Bool). if t then true else on_at k (clear_end k (column st words))) ey
        ∙ more h

loop_off : (ms : List Mask) → on_at In_loop ms ≡ false → all_on ms ≡ false
loop_off ms h = ap (λ (t : Bool). on_at Round ms && (t && on_at In_scope ms)) h ∙ and_false (on_at Round ms)

round_off : (ms : List Mask) → on_at Round ms ≡ false → all_on ms ≡ false
round_off ms h = ap (λ (t : Bool). t && (on_at In_loop ms && on_at In_scope ms)) h

scope_off : (ms : List Mask) → on_at In_scope ms ≡ false → all_on ms ≡ false
scope_off ms h = ap (λ (t : Bool). on_at Round ms && (on_at In_loop ms && t)) h ∙ both_false (on_at Round ms) (on_at In_loop ms)

module _ (st : List Entry) (words : ℕ → ℕ) (h : top_on (column st words) ≡ true) (g : all_on (column st words) ≡ true) where
  abbrev here : List Mask
  here = column st words

  branch_joins : (f : Flow) (b : Bool) → flow_has f st ≡ true → settle (tail (after f (mask Branch b ∷ here))) ≡ after f here
  branch_joins Next b q = settle_on here h g
  branch_joins Broke b q = falls (clear_end In_loop here) (loop_off (clear_end In_loop here) (end_off In_loop st words q))
  branch_joins Again b q = falls (clear_end Round here) (round_off (clear_end Round here) (end_off Round st words q))
  branch_joins Gone b q = falls (clear_end In_scope here) (scope_off (clear_end In_scope here) (end_off In_scope st words q))

  scope_joins : (f : Flow) (b : Bool) → tail (after f (mask In_scope b ∷ here)) ≡ here
  scope_joins Next b = refl
  scope_joins Broke b = refl
  scope_joins Again b = refl
  scope_joins Gone b = refl

  looped : settle (mask In_loop true ∷ here) ≡ mask In_loop true ∷ here
  looped =
      let p = all_three (on_at Round here) (on_at In_loop here) (on_at In_scope here) g in
      settle_on (mask In_loop true ∷ here) refl (true_and (on_at Round here) (on_at In_scope here) p.0 p.2)

  left_loop : flow_has Gone st ≡ true → settle (mask In_loop true ∷ clear_end In_scope here) ≡ mask In_loop false ∷ clear_end In_scope here
  left_loop q =
      let below : List Mask = clear_end In_scope here in
      falls (mask In_loop true ∷ below) (scope_off (mask In_loop true ∷ below) (end_off In_scope st words q))

  pub joins : Joins st words
  joins = record {
    branch = branch_joins;
    scope = scope_joins;
    round = looped;
    again = looped;
    broke = settle_off (mask In_loop false ∷ here) refl;
    gone = left_loop;
    loop = settle_on here h g;
    left = λ q. falls (clear_end In_scope here) (scope_off (clear_end In_scope here) (end_off In_scope st words q));
  }

pub masks_join : MasksJoin
masks_join st words h g = joins st words h g
