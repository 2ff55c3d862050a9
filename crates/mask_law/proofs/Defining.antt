-- The law of masking for values that no access gives.
use Rattle.std.proofs.Common.{◌≡◌, ℕ, suc, ◌+◌, ◌*◌, ◌<◌, ◌≤◌, ◌⊎◌, inl, inr, Bool, true, false, List, ◌∷◌, refl, sym, ap, ◌∙◌, subst, arith}
use Rattle.std.specs.Prelude.{if◌then◌else◌, nat_lt, ◌==◌, not, ◌||◌}
use Rattle.std.proofs.lemmas.Bool.{eqb-true}
use Rattle.item_ir.specs.Valid.{Counts, Known, with_known}
use Rattle.item_ir.specs.IrMeaning.{World as ItemWorld, State as Item, Ends as Done, Flow, Next, with_val}
use Rattle.item_ir.specs.declared.form.Def.{Def}
use Rattle.item_ir.specs.declared.form.Val.{Val}
use Rattle.lane_ir.specs.Weights.{done}
use Rattle.lane_ir.specs.LaneMeaning.{World, State, value, defines}
use Rattle.lane_ir.proofs.Steps.{bool_cases, with_at-same, with_at-other}
use Rattle.mask_law.specs.Worlds.{Ids}
use Rattle.mask_law.specs.Stacks.{Entry}
use Rattle.mask_law.specs.Masks.{column, after}
use Rattle.mask_law.specs.Lanes.{Bytes, LaneRel, total, Before, Items, After, row_of}
use Rattle.mask_law.proofs.Emitted.{in_lane}
use Rattle.mask_law.proofs.Setting.{total_left}

next_is : (f : Flow) (x y : Item) → Done Next x ≡ Done f y → (f ≡ Next) × (y ≡ x)
next_is f x y e = (cc, cc)

clash : (b : Bool) → not b ≡ true → b ≡ true → ⊥
clash true h g = cc
clash false h g = cc

or_true : (a b : Bool) → (a || b) ≡ true → (a ≡ true) ⊎ (b ≡ true)
or_true true b h = inl refl
or_true false b h = inr h

-- what a definition gives in a lane is W of its item
pub defined : (x : Val) (e : Def) (W : ℕ → Item → ℕ) (w : World) (xs : ℕ → ItemWorld) (ids : Ids) (n tests : ℕ) (c : Counts) (b : Bytes n) (act : ℕ → Bool) (known : Known) (knowns : ℕ → Known)
    (k v : ℕ) (e' : Entry) (st : List Entry) (t : State) (s s' : ℕ → Item) (f : ℕ → Flow)
    → x.0 < c.vals → not (known x.0) ≡ true
    → ((l : ℕ) → l < n → act l ≡ true → value w t l e ≡ W l (s l))
    → Before n c.vars c.vals tests b ids xs act (λ l j. knowns l j ≡ true) (λ j. known j ≡ true) k v (e' ∷ st) t s
    → Items n b act (λ l y. Done Next (with_val x.0 (W l y) y)) s f s'
    → After n c.vars c.vals (done e) b act (λ l j. knowns l j ≡ true) (λ j. with_known x.0 known j ≡ true) k v (e' ∷ st) t (defines w n x.0 e t) s s' f
defined x e W w xs ids n tests c b act known knowns k v e' st t s s' f low new means before items =
    let A : ℕ → ℕ = λ l. if nat_lt l n then value w t l e else 0 in
    let t' : State = defines w n x.0 e t in
    let here : (l : ℕ) → l < n → act l ≡ true → t'.vals x.0 l ≡ W l (s l) = λ l lt a. ap (λ g. g l) (with_at-same t.vals x.0 A) ∙ in_lane l n (value w t l e) lt ∙ means l lt a in
    let other : (j l : ℕ) → (j ≡ x.0 → ⊥) → t'.vals j l ≡ t.vals j l = λ j l ne. ap (λ g. g l) (with_at-other t.vals x.0 A j ne) in
    let apart : (j : ℕ) → known j ≡ true → j ≡ x.0 → ⊥ = λ j d q. clash (known x.0) new (sym (ap known q) ∙ d) in
    let ran : (l : ℕ) → l < n → act l ≡ true → (f l ≡ Next) × (s' l ≡ with_val x.0 (W l (s l)) (s l)) = λ l lt a. next_is (f l) (with_val x.0 (W l (s l)) (s l)) (s' l) (items.on l lt a) in
    let lefts : (l : ℕ) → l < n → (s' l).left ≡ (s l).left = λ l lt.
    (elim (bool_cases (act l)) [ inl a ↦ ap (λ (y : Item). y.left) (ran l lt a).1 | inr a ↦ ap (λ (y : Item). y.left) (items.off l lt a) ]) in
    let tot : total n s' ≡ total n s = total_left n s s' lefts in
    let old_more : (l : ℕ) → l < n → act l ≡ true → (j : ℕ) → known j ≡ true → t'.vals j l ≡ (s' l).vals j = λ l lt a j d.
    (other j l (apart j d) ∙ (before.rel l lt).vals j (before.all l j lt a d)
    ∙ sym (ap (λ (y : Item). y.vals j) (ran l lt a).1 ∙ with_at-other (s l).vals x.0 (W l (s l)) j (apart j d))) in
    let new_more : (l : ℕ) → l < n → act l ≡ true → (j : ℕ) → j ≡ x.0 → t'.vals j l ≡ (s' l).vals j = λ l lt a j q.
    (ap (λ z. t'.vals z l) q ∙ here l lt a
    ∙ sym (ap (λ z. (s' l).vals z) q ∙ ap (λ (y : Item). y.vals x.0) (ran l lt a).1 ∙ with_at-same (s l).vals x.0 (W l (s l)))) in
    record {
      rel = λ l lt.
          (let old = before.rel l lt in
          elim (bool_cases (act l)) [
            | inl a ↦ subst (LaneRel b c.vars l (λ j. knowns l j ≡ true) t') (sym (ran l lt a).1) (record {
              vals = λ j d. (let q = apart j (before.sub l j d) in other j l q ∙ old.vals j d ∙ sym (with_at-other (s l).vals x.0 (W l (s l)) j q));
              vars = old.vars;
              arrays = old.arrays;
              mem = old.mem;
              log = old.log;
            })
            | inr a ↦ subst (LaneRel b c.vars l (λ j. knowns l j ≡ true) t') (sym (items.off l lt a)) (record {
              vals = λ j d. other j l (apart j (before.sub l j d)) ∙ old.vals j d;
              vars = old.vars;
              arrays = old.arrays;
              mem = old.mem;
              log = old.log;
            })
          ]);
      more = λ l lt a p j d. elim (or_true (j == x.0) (known j) d) [ inl q ↦ new_more l lt a j (eqb-true j x.0 q) | inr q ↦ old_more l lt a j q ];
      temps = λ j l lo hi. other j l (λ q. omega (arith, q, lo, low));
      still = λ l lt a j lo hi. refl;
      masks = λ l lt a. sym (ap (λ z. after z (column (e' ∷ st) (row_of t l))) (ran l lt a).0);
      mem = λ a q. refl;
      falls = let q = tot in omega (arith, q);
      steps = subst (λ z. t.steps + done e + done e * z ≤ t.steps + done e * suc (total n s)) (sym tot) (once t.steps (done e) (total n s));
    }
  where
    once : (a m z : ℕ) → a + m + m * z ≤ a + m * suc z
    once a m z = omega arith
