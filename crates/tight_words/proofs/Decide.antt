-- The tests of a place say what the definitions say.
use Rattle.std.specs.Prelude.{◌≡◌, ◌⊎◌, ℕ, ◌+◌, ◌<◌, ◌≤◌, List, length, slice_get, nat_le, Bool, true, false, not, ◌&&◌, ◌||◌, refl}
use Rattle.std.specs.declared.option.Option.{Option}
use Rattle.std.specs.declared.option.Option.TheVariants.{Some, None}
use Rattle.std.proofs.lemmas.Bool.{cases_eq}
use Rattle.std.proofs.lemmas.Bool.Decides.{nat_tests}
use Rattle.std.proofs.lemmas.Option.{slice_get_past}
use Rattle.std.proofs.Common.{arith, sym, subst, ◌∙◌, inl, inr}
use Rattle.qpu_encode.specs.declared.form.Form.{Form}
use Rattle.tight_words.specs.Registers.{is_idle, is_half, writes_setup, clash}
use Rattle.tight_words.specs.Code.{form_at, back, has, is_slot, setup_near, is_target, clash_of_jumps}
use Rattle.tight_words.specs.Joint.{fit_forms}
use Rattle.tight_words.specs.Tight.{IsJoinable, IsRemovable, IsLoose, joins, is_joinable, is_removable, is_loose}
use Rattle.tight_words.proofs.Same.{parts}
use Rattle.tight_words.proofs.Find.{either, back_clear, jumps_clear, clear_of, target_none, none_target, forms_sound, forms_complete}

both_true : (a b : Bool) → a ≡ true → b ≡ true → (a && b) ≡ true
both_true a b h i = rw (h, i) refl

or_left : (a b : Bool) → a ≡ true → (a || b) ≡ true
or_left a b h = rw h refl

or_right : (a b : Bool) → b ≡ true → (a || b) ≡ true
or_right true b h = refl
or_right false b h = h

or_cases : (a b : Bool) → (a || b) ≡ true → (a ≡ true) ⊎ (b ≡ true)
or_cases true b h = inl refl
or_cases false b h = inr h

not_false : (a : Bool) → a ≡ false → not a ≡ true
not_false a h = rw h refl

false_of_not : (a : Bool) → not a ≡ true → a ≡ false
false_of_not true h = absurd (cc)
false_of_not false h = refl

joins_sound : (code : List ℕ) (i : ℕ) (o p : Option Form) → form_at code i ≡ o → form_at code (i + 1) ≡ p → joins code i o p ≡ true → IsJoinable code i
joins_sound code i None p a b h = absurd (cc)
joins_sound code i (Some u) None a b h = absurd (cc)
joins_sound code i (Some u) (Some v) a b h =
    let p = parts ((is_half u && is_half v) && (not (is_slot code i || is_slot code (i + 1)) && not (setup_near code i || writes_setup u)))
    (fit_forms code i u v && not (is_target code (i + 1))) h in
    let q = parts (is_half u && is_half v) (not (is_slot code i || is_slot code (i + 1)) && not (setup_near code i || writes_setup u)) p.0 in
    let r = parts (not (is_slot code i || is_slot code (i + 1))) (not (setup_near code i || writes_setup u)) q.1 in
    let s = parts (fit_forms code i u v) (not (is_target code (i + 1))) p.1 in
    let t = forms_sound code i u v s.0 in
    record {
      u = u;
      v = v;
      first = a;
      second = b;
      halves = q.0;
      no_slots = false_of_not _ r.0;
      no_setup = false_of_not _ r.1;
      no_target = none_target code (i + 1) (false_of_not _ s.1);
      x = t.x;
      y = t.y;
      first_form = t.first_form;
      second_form = t.second_form;
      free = t.together.free;
      j = t.together.j;
      joint = t.together.joint;
      clear = t.together.clear;
      next = t.together.next;
    }

joinable_sound : (code : List ℕ) (i : ℕ) → is_joinable code i ≡ true → IsJoinable code i
unfolding is_joinable
joinable_sound code i h = joins_sound code i (form_at code i) (form_at code (i + 1)) refl refl h

joinable_complete : (code : List ℕ) (i : ℕ) → IsJoinable code i → is_joinable code i ≡ true
unfolding is_joinable
joinable_complete code i l =
    rw (l.first, l.second)
    (both_true _ _ (both_true _ _ l.halves (both_true _ _ (not_false _ l.no_slots) (not_false _ l.no_setup)))
    (both_true _ _ (forms_complete code i l.u l.v (record {
      x = l.x;
      y = l.y;
      first_form = l.first_form;
      second_form = l.second_form;
      together = record { free = l.free; j = l.j; joint = l.joint; clear = l.clear; next = l.next };
    })) (not_false _ (target_none code (i + 1) l.no_target))))

removable_sound : (code : List ℕ) (i : ℕ) → is_removable code i ≡ true → IsRemovable code i
unfolding is_removable
removable_sound code i h =
    let p = parts (has is_idle (form_at code i) && (not (is_slot code i) && not (setup_near code i)))
    (not (clash (back code i 1) (form_at code (i + 1))) && not (clash_of_jumps code i (form_at code (i + 1)))) h in
    let q = parts (has is_idle (form_at code i)) (not (is_slot code i) && not (setup_near code i)) p.0 in
    let r = parts (not (is_slot code i)) (not (setup_near code i)) q.1 in
    let s = parts (not (clash (back code i 1) (form_at code (i + 1)))) (not (clash_of_jumps code i (form_at code (i + 1)))) p.1 in
    record { idle = q.0; no_slot = false_of_not _ r.0; no_setup = false_of_not _ r.1; clear = clear_of code i (form_at code (i + 1)) (false_of_not _ s.0) (false_of_not _ s.1) }

removable_complete : (code : List ℕ) (i : ℕ) → IsRemovable code i → is_removable code i ≡ true
unfolding is_removable
removable_complete code i r =
    both_true _ _ (both_true _ _ r.idle (both_true _ _ (not_false _ r.no_slot) (not_false _ r.no_setup)))
    (both_true _ _ (not_false _ (back_clear code i (form_at code (i + 1)) r.clear)) (not_false _ (jumps_clear code i (form_at code (i + 1)) r.clear)))

pub loose_sound : (code : List ℕ) (i : ℕ) → is_loose code i ≡ true → IsLoose code i
loose_sound code i h =
    elim (or_cases (is_joinable code i) (is_removable code i) h) [ inl j ↦ inl (joinable_sound code i j) | inr r ↦ inr (removable_sound code i r) ]

pub loose_complete : (code : List ℕ) (i : ℕ) → IsLoose code i → is_loose code i ≡ true
loose_complete code i (inl j) = or_left _ _ (joinable_complete code i j)
loose_complete code i (inr r) = or_right _ _ (removable_complete code i r)

pub not_loose : (code : List ℕ) (i : ℕ) → is_loose code i ≡ false → ¬ (IsLoose code i)
not_loose code i h l = let no : true ≡ false = sym (loose_complete code i l) ∙ h in absurd (cc)

-- ---- the search for the least place

abbrev pub NoneFrom : List ℕ → ℕ → ℕ → Type 0
NoneFrom code start n = (k : ℕ) → start ≤ k → k < n → ¬ (IsLoose code k)

pub none_more : (code : List ℕ) (start n : ℕ) → NoneFrom code start n → is_loose code n ≡ false → NoneFrom code start (n + 1)
none_more code start n h e k s l =
    elim (cases_eq k n) [
      | inl same ↦ subst (λ (k : ℕ). ¬ (IsLoose code k)) (sym same) (not_loose code n e)
      | inr other ↦ h k s (omega arith)
    ]

outside : (code : List ℕ) (k : ℕ) → length code ≤ k → is_loose code k ≡ false
unfolding is_joinable is_removable form_at
outside code k h = let n : slice_get code k ≡ None = slice_get_past code k h in rw n refl

either_side : (k n : ℕ) → (k < n) ⊎ (n ≤ k)
either_side k n = elim (either (nat_le n k)) [ inl e ↦ inr (let m : n ≤ k = grind (arith, nat_tests) in m) | inr e ↦ inl (let m : k < n = grind (arith, nat_tests) in m) ]

pub none_beyond : (code : List ℕ) (start n : ℕ) → NoneFrom code start n → length code ≤ n → (k : ℕ) → start ≤ k → ¬ (IsLoose code k)
none_beyond code start n h l k s =
    elim (either_side k n) [
      | inl less ↦ h k s less
      | inr more ↦ not_loose code k (outside code k (let m : length code ≤ k = omega arith in m))
    ]
