-- The law of masking for a variable that is set.
use Rattle.std.proofs.Common.{◌≡◌, ℕ, zero, suc, ◌+◌, ◌<◌, ◌≤◌, inl, inr, Bool, true, false, List, [], ◌∷◌, refl, sym, ap, ◌∙◌, subst, arith}
use Rattle.std.specs.Prelude.{if◌then◌else◌, nat_lt, ◌==◌}
use Rattle.std.proofs.lemmas.Bool.{and_parts, ltb-true}
use Rattle.item_ir.specs.Memory.{with_at}
use Rattle.item_ir.specs.IrMeaning.{State as Item, Ends as Done, Flow, Next, with_var}
use Rattle.item_ir.specs.declared.form.Stmt.TheVariants as i
use Rattle.item_ir.specs.declared.form.Val.{Val}
use Rattle.lane_ir.specs.LaneMeaning.{State, is_on, chosen}
use Rattle.lane_ir.proofs.Steps.{bool_cases, with_at-same, with_at-other}
use Rattle.mask_law.specs.Stacks.{Entry}
use Rattle.mask_law.specs.Masks.{Mask, column, after}
use Rattle.mask_law.specs.Lanes.{Stacked, LaneRel, total, row_of}
use Rattle.mask_law.specs.Leave.{IsMasked}
use Rattle.mask_law.proofs.Emitted.{in_lane, lane_at, on_value, off_value, put_back}

-- masks stand in variables from nu on
pub column_high : (nu v : ℕ) (st : List Entry) (old new : ℕ → ℕ) → Stacked nu st v → ((u : ℕ) → nu ≤ u → new u ≡ old u) → column st new ≡ column st old
column_high nu v [] old new h e = refl
column_high nu v (x ∷ st) old new h e =
    ap (λ (o : Bool). record { kind = x.kind; on = o } ∷ column st new) (ap is_on (e x.var h.0))
    ∙ ap (λ (ms : List Mask). record { kind = x.kind; on = is_on (old x.var) } ∷ ms) (column_high nu x.var st old new h.2 e)

pub total_left : (n : ℕ) (s s' : ℕ → Item) → ((l : ℕ) → l < n → (s' l).left ≡ (s l).left) → total n s' ≡ total n s
total_left zero s s' h = refl
total_left (suc n) s s' h =
    ap (λ x. x + (s' n).left) (total_left n s s' (λ l lt. h l (omega (arith, lt)))) ∙ ap (λ x. total n s + x) (h n (omega arith))

next_is : (f : Flow) (x y : Item) → Done Next x ≡ Done f y → (f ≡ Next) × (y ≡ x)
next_is f x y e = (cc, cc)

pub set_masked : (u : ℕ) (x : Val) → IsMasked (i.Set u x)
set_masked u x w xs ids n tests c r b act known knowns k v e st t s s' f fit asks around same before items =
    let nu : ℕ = c.vars in
    let fits = and_parts (nat_lt u c.vars) (known x.0) fit in
    let low : u < c.vars = ltb-true u c.vars fits.0 in
    let x_low : x.0 < c.vals = before.known_low x.0 fits.1 in
    let high : c.vals ≤ k = before.high in
    let A : ℕ → ℕ = λ l. if nat_lt l n then t.vars e.var l else 0 in
    let V : ℕ → ℕ → ℕ = with_at t.vals k A in
    let P : ℕ → ℕ = λ l. chosen (V k l) (V x.0 l) (t.vars u l) in
    let Y : ℕ → ℕ → ℕ = with_at t.vars u P in
    let t' : State = record t { vals = V; vars = Y; steps = t.steps + 1 + 1 } in
    let vk : (l : ℕ) → l < n → V k l ≡ t.vars e.var l = λ l lt. ap (λ g. g l) (with_at-same t.vals k A) ∙ in_lane l n (t.vars e.var l) lt in
    let v_low : (j l : ℕ) → j < k → V j l ≡ t.vals j l = λ j l lt. ap (λ g. g l) (with_at-other t.vals k A j (λ q. omega (arith, q, lt))) in
    let y_high : (j l : ℕ) → c.vars ≤ j → Y j l ≡ t.vars j l = λ j l le. ap (λ g. g l) (with_at-other t.vars u P j (λ q. omega (arith, q, le, low))) in
    let ran : (l : ℕ) → l < n → act l ≡ true → (f l ≡ Next) × (s' l ≡ with_var u ((s l).vals x.0) (s l)) = λ l lt a. next_is (f l) (with_var u ((s l).vals x.0) (s l)) (s' l) (items.on l lt a) in
    let lefts : (l : ℕ) → l < n → (s' l).left ≡ (s l).left = λ l lt.
    (elim (bool_cases (act l)) [ inl a ↦ ap (λ (y : Item). y.left) (ran l lt a).1 | inr a ↦ ap (λ (y : Item). y.left) (items.off l lt a) ]) in
    let tot : total n s' ≡ total n s = total_left n s s' lefts in
    let vals : (l : ℕ) → l < n → (j : ℕ) → known j ≡ true → V j l ≡ t.vals j l = λ l lt j d.
    (let a = before.known_low j d in v_low j l (omega (arith, a, high))) in
    let on : (l : ℕ) → l < n → act l ≡ true → (j : ℕ) → j < c.vars → Y j l ≡ with_at (s l).vars u ((s l).vals x.0) j = λ l lt a j lo.
    (let m : is_on (V k l) ≡ true = ap is_on (vk l lt) ∙ before.masks l lt ∙ a in
    let p : P l ≡ (s l).vals x.0 = on_value (V k l) (V x.0 l) (t.vars u l) m ∙ vals l lt x.0 fits.1 ∙ (before.rel l lt).vals x.0 (before.all l x.0 lt a fits.1) in
    lane_at t.vars u P j l ∙ ap (λ z. with_at (λ q. t.vars q l) u z j) p ∙ ap (λ z. if j == u then (s l).vals x.0 else z) ((before.rel l lt).vars j lo)) in
    let off : (l : ℕ) → l < n → act l ≡ false → (j : ℕ) → Y j l ≡ t.vars j l = λ l lt a j.
    (let m : is_on (V k l) ≡ false = ap is_on (vk l lt) ∙ before.masks l lt ∙ a in
    lane_at t.vars u P j l ∙ put_back (λ q. t.vars q l) u (P l) j (off_value (V k l) (V x.0 l) (t.vars u l) m)) in
    let rel : (l : ℕ) → l < n → LaneRel b nu l (λ j. knowns l j ≡ true) t' (s' l) = λ l lt.
    (let old = before.rel l lt in
    elim (bool_cases (act l)) [
      | inl a ↦ subst (LaneRel b nu l (λ j. knowns l j ≡ true) t') (sym (ran l lt a).1) (record {
        vals = λ j d. vals l lt j (before.sub l j d) ∙ old.vals j d;
        vars = λ j lo. on l lt a j lo;
        arrays = old.arrays;
        mem = old.mem;
        log = old.log;
      })
      | inr a ↦ subst (LaneRel b nu l (λ j. knowns l j ≡ true) t') (sym (items.off l lt a)) (record {
        vals = λ j d. vals l lt j (before.sub l j d) ∙ old.vals j d;
        vars = λ j lo. off l lt a j ∙ old.vars j lo;
        arrays = old.arrays;
        mem = old.mem;
        log = old.log;
      })
    ]) in (
      t',
      refl,
      record {
        rel = rel;
        more = λ l lt a p j d. vals l lt j d ∙ (before.rel l lt).vals j (before.all l j lt a d) ∙ sym (ap (λ (y : Item). y.vals j) (ran l lt a).1);
        temps = λ j l lo hi. v_low j l hi;
        still = λ l lt a j lo hi. y_high j l lo;
        masks = λ l lt a. column_high c.vars v (e ∷ st) (row_of t l) (row_of t' l) before.stacked (λ j le. y_high j l le)
            ∙ sym (ap (λ x. after x (column (e ∷ st) (row_of t l))) (ran l lt a).0);
        mem = λ a q. refl;
        falls = let q = tot in omega (arith, q);
        steps = let q = tot in omega (arith, q);
      },
    )
