-- A scope does what a call does.
use Rattle.std.proofs.Common.{◌≡◌, ℕ, ◌+◌, ◌<◌, ◌≤◌, true, List, Option, length, refl, sym, ◌∙◌, subst, arith}
use Rattle.q_lane.specs.declared.kinds.Scalar.{Scalar}
use Rattle.clc_types.specs.declared.typed.Var.{Var}
use Rattle.clc_types.specs.declared.typed.TFunction.{TFunction}
use Rattle.clc_types.specs.WellTyped.{counts}
use Rattle.clc_inline.specs.Inlining.{numbers}
use Rattle.item_meaning.specs.declared.values.Value.{Value}
use Rattle.item_meaning.specs.declared.values.Flow.{Flow}
use Rattle.item_meaning.specs.declared.values.Flow.TheVariants.{Next, Broke, Again, Returned}
use Rattle.item_meaning.specs.ItemState.{State, Run, Goes, Bounds, Spent, then_do}
use Rattle.item_meaning.specs.NodeMeanings.{Part, call_value}
use Rattle.item_meaning.specs.StatementMeanings.{var_at, call_end}
use Rattle.item_meaning.specs.ItemMeaning.{entered, back_in}
use Rattle.body_meaning.specs.BodyMeaning.{emptied, passed, scope_value}
use Rattle.inline_law.proofs.Frames.{Same, SameFlow, Framed, Kept, Follows, Both}
use Rattle.inline_law.proofs.Parts.{bind_both, node_both, kept_then}
use Rattle.inline_law.proofs.Exprs.{SameMany}
use Rattle.inline_law.proofs.Stmts.{shifted}
use Rattle.inline_law.proofs.Frame.{begun_framed, begun_kept}

end_both : (n base skip whole : ℕ) (r : Option Scalar) (f : Flow) (s u t : State) → Framed n base skip whole s u → Kept n base skip whole t u → Follows n base skip whole Same t (call_end r f s) (call_end r f u)
end_both n base skip whole r Next s u t a k = (refl, a, k)
end_both n base skip whole r Broke s u t a k = tt
end_both n base skip whole r Again s u t a k = tt
end_both n base skip whole r (Returned v) s u t a k = (refl, a, k)

module _ (n base skip : ℕ) (g : TFunction) (total : List Var) (place : ℕ) (D : List ℕ) (le : g.params ≤ length g.vars) (c : counts g.params (length g.vars) D ≡ true)
    (same : (u : ℕ) → u < length g.vars → var_at total (place + u) ≡ var_at g.vars u) (room : place + length g.vars ≤ length total) (behind : base + n ≤ place) where
  abbrev begun : List Value → State → State
  begun xs t = passed total (numbers place g.params) xs (emptied (shifted place D) t)

  back_both : (s t u w : State) → Framed n base skip (length total) s t → Framed (length g.vars) place g.params (length total) u w → Kept (length g.vars) place g.params (length total) t w
      → Framed n base skip (length total) (back_in s u) w × Kept n base skip (length total) t w
  back_both s t u w r i k =
      let rv = r.room in let ra = r.room_arrays in let kv = k.many in let ka = k.many_arrays in (
        record {
          vars = λ j lt. r.vars j lt ∙ sym (k.vars (base + j) (omega (arith, lt, behind)));
          arrays = λ j low lt. r.arrays j low lt ∙ sym (k.arrays (base + j) (omega (arith, lt, behind)));
          own = r.own;
          own_arrays = r.own_arrays;
          room = omega (arith, rv, kv);
          room_arrays = omega (arith, ra, ka);
          all = k.many ∙ r.all;
          all_arrays = k.many_arrays ∙ r.all_arrays;
          buffers = i.buffers;
          marks = i.marks;
          left = i.left;
        },
        record { vars = λ j lt. k.vars j (omega (arith, lt, behind)); arrays = λ j lt. k.arrays j (omega (arith, lt, behind)); many = k.many; many_arrays = k.many_arrays },
      )

  leave : (r : Option Scalar) (s t v : State) (p q : Run Flow) → Framed n base skip (length total) s t → Kept (length g.vars) place g.params (length total) t v → Follows (length g.vars) place g.params (length total) SameFlow v p q
      → Follows n base skip (length total) Same t (then_do p (λ flow u. call_end r flow (back_in s u))) (then_do q (call_end r))
  leave r s t v (Goes f u) (Goes d w) a k h =
      let b = back_both s t u w a h.1 (kept_then (length g.vars) place g.params (length total) t v w k h.2) in
      subst (λ z. Follows n base skip (length total) Same t (call_end r f (back_in s u)) (call_end r z w)) h.0
      (end_both n base skip (length total) r f (back_in s u) w t b.0 b.1)
  leave r s t v (Goes f u) (Bounds q) a k h = absurd h
  leave r s t v (Goes f u) Spent a k h = absurd h
  leave r s t v (Bounds p) (Goes d w) a k h = absurd h
  leave r s t v (Bounds p) (Bounds q) a k h = h
  leave r s t v (Bounds p) Spent a k h = absurd h
  leave r s t v Spent (Goes d w) a k h = absurd h
  leave r s t v Spent (Bounds q) a k h = absurd h
  leave r s t v Spent Spent a k h = tt

  module _ (a b : Part Flow) (h : Both (length g.vars) place g.params (length total) SameFlow a b) where
    abbrev callee : List Value → Part Value
    callee xs s = then_do (a (entered g xs s)) (λ flow u. call_end g.result flow (back_in s u))

    abbrev inside : List Value → Part Value
    inside xs t = then_do (b (begun xs t)) (call_end g.result)

    inside_both : (xs : List Value) → length xs ≡ g.params → Both n base skip (length total) Same (callee xs) (inside xs)
    inside_both xs e s t r =
        leave g.result s t (begun xs t) (a (entered g xs s)) (b (begun xs t)) r (begun_kept g total place D le c same room xs t)
        (h (entered g xs s) (begun xs t) (begun_framed g total place D le c same room xs s t e r.all r.all_arrays r.buffers r.marks r.left))

    pub scope_both : (p q : Part (List Value)) → Both n base skip (length total) (SameMany g.params) p q
        → Both n base skip (length total) Same (call_value p callee) (scope_value total (numbers place g.params) g.result (shifted place D) q b)
    scope_both p q i =
        node_both n base skip (length total) Same (λ t. then_do (p t) callee) (λ t. then_do (q t) inside)
        (λ s t r. bind_both n base skip (length total) (SameMany g.params) Same t (p s) (q t) callee inside (i s t r)
        (λ xs ys e. subst (λ z. Both n base skip (length total) Same (callee xs) (inside z)) e.0 (inside_both xs e.1)))
