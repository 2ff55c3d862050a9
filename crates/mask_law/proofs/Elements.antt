-- The law of masking for the elements of private arrays.
use Rattle.std.proofs.Common.{◌≡◌, ℕ, ◌*◌, ◌<◌, Bool, true, false, [], refl, sym, ap, ◌∙◌, subst, arith}
use Rattle.std.specs.Prelude.{if◌then◌else◌, nat_lt, ◌==◌, not, ◌&&◌, ◌||◌}
use Rattle.std.proofs.lemmas.Bool.{and_parts, ltb-true, eqb-true, eq-eqb}
use Rattle.item_ir.specs.Memory.{with_at}
use Rattle.item_ir.specs.Valid.{Known, with_known}
use Rattle.item_ir.specs.IrMeaning.{State as Item, Ends as Done, Stops as Halts, Flow, Next, with_val, with_word, cleared}
use Rattle.item_ir.specs.declared.form.Def.TheVariants as d
use Rattle.lane_ir.specs.LaneMeaning.{State, Run, Ends, and_then, if_allowed, count_on, defines, with_lane, takes, sets, clears, run_all}
use Rattle.lane_ir.proofs.Steps.{with_at-same, with_at-other}
use Rattle.mask_law.specs.Leaves.{ElementsMasked, SetElementsMasked, ClearsMasked}
use Rattle.mask_law.proofs.Accessed.{Stepped, accessed}

-- ---- one lane of a changed value

module _ (Y : ℕ → ℕ → ℕ) (Z : ℕ → ℕ) (x l V U : ℕ) where
  -- the lane's value beside its item's
  pub val_own : (j : ℕ) → V ≡ U → ((j ≡ x → ⊥) → Y j l ≡ Z j) → with_at Y x (with_at (Y x) l V) j l ≡ with_at Z x U j
  val_own j e h = by (j == x) refl
    where
      wrong : (j == x) ≡ false → j ≡ x → ⊥
      wrong q g = absurd (clash (j == x) q (eq-eqb j x g))
        where
          clash : (o : Bool) → o ≡ false → o ≡ true → ⊥
          clash true a c = cc
          clash false a c = cc

      by : (o : Bool) → (j == x) ≡ o → (if o then with_at (Y x) l V else Y j) l ≡ (if o then U else Z j)
      by true q = with_at-same (Y x) l V ∙ e
      by false q = h (wrong q)

  pub val_other : (j m : ℕ) → (m ≡ l → ⊥) → with_at Y x (with_at (Y x) l V) j m ≡ Y j m
  val_other j m ne = by (j == x) refl
    where
      by : (o : Bool) → (j == x) ≡ o → (if o then with_at (Y x) l V else Y j) m ≡ Y j m
      by true q = with_at-other (Y x) l V m ne ∙ ap (λ z. Y z m) (sym (eqb-true j x q))
      by false q = refl

  pub val_kept : (j m : ℕ) → (j ≡ x → ⊥) → with_at Y x (with_at (Y x) l V) j m ≡ Y j m
  val_kept j m ne = ap (λ (g : ℕ → ℕ). g m) (with_at-other Y x (with_at (Y x) l V) j ne)

-- the values that are known after one is defined
pub known_more : (x j : ℕ) (known : Known) → with_known x known j ≡ true → (j ≡ x → ⊥) → known j ≡ true
known_more x j known h ne = by (j == x) (known j) (eqb-true j x) h
  where
    by : (a c : Bool) → (a ≡ true → j ≡ x) → (a || c) ≡ true → c ≡ true
    by true c g q = absurd (ne (g refl))
    by false c g q = q

-- ---- one lane of a changed array

module _ (Y : ℕ → ℕ → ℕ → ℕ) (r l : ℕ) where
  cleared_own : (Z : ℕ → ℕ → ℕ) (a e : ℕ) → ((a e : ℕ) → Y a e l ≡ Z a e) → with_at Y r (λ e. with_at (Y r e) l 0) a e l ≡ with_at Z r (λ e. 0) a e
  cleared_own Z a e h = by (a == r)
    where
      by : (o : Bool) → (if o then (λ e. with_at (Y r e) l 0) else Y a) e l ≡ (if o then (λ e. 0) else Z a) e
      by true = with_at-same (Y r e) l 0
      by false = h a e

  cleared_other : (a e m : ℕ) → (m ≡ l → ⊥) → with_at Y r (λ e. with_at (Y r e) l 0) a e m ≡ Y a e m
  cleared_other a e m ne = by (a == r) refl
    where
      by : (o : Bool) → (a == r) ≡ o → (if o then (λ e. with_at (Y r e) l 0) else Y a) e m ≡ Y a e m
      by true q = with_at-other (Y r e) l 0 m ne ∙ ap (λ z. Y z e m) (sym (eqb-true a r q))
      by false q = refl

  set_own : (I X : ℕ) (Z : ℕ → ℕ → ℕ) (a e : ℕ) → ((a e : ℕ) → Y a e l ≡ Z a e)
      → with_at Y r (with_at (Y r) I (with_at (Y r I) l X)) a e l ≡ with_at Z r (with_at (Z r) I X) a e
  set_own I X Z a e h = by (a == r)
    where
      inner : (o : Bool) → (if o then with_at (Y r I) l X else Y r e) l ≡ (if o then X else Z r e)
      inner true = with_at-same (Y r I) l X
      inner false = h r e

      by : (o : Bool) → (if o then with_at (Y r) I (with_at (Y r I) l X) else Y a) e l ≡ (if o then with_at (Z r) I X else Z a) e
      by true = inner (e == I)
      by false = h a e

  set_other : (I X a e m : ℕ) → (m ≡ l → ⊥) → with_at Y r (with_at (Y r) I (with_at (Y r I) l X)) a e m ≡ Y a e m
  set_other I X a e m ne = by (a == r) refl
    where
      inner : (o : Bool) → (e == I) ≡ o → (if o then with_at (Y r I) l X else Y r e) m ≡ Y r e m
      inner true q = with_at-other (Y r I) l X m ne ∙ ap (λ z. Y r z m) (sym (eqb-true e I q))
      inner false q = refl

      by : (o : Bool) → (a == r) ≡ o → (if o then with_at (Y r) I (with_at (Y r I) l X) else Y a) e m ≡ Y a e m
      by true q = inner (e == I) refl ∙ ap (λ z. Y z e m) (sym (eqb-true a r q))
      by false q = refl

-- ---- how an item's access ends

pub next_is : (f : Flow) (x y : Item) → Done Next x ≡ Done f y → (f ≡ Next) × (y ≡ x)
next_is f x y e = (cc, cc)

pub allowed_is : (o : Bool) (f : Flow) (x y : Item) → (if o then Done Next x else Halts) ≡ Done f y → (o ≡ true) × (f ≡ Next) × (y ≡ x)
allowed_is true f x y e = (refl, cc, cc)
allowed_is false f x y e = cc

pub clear_masked : ClearsMasked
clear_masked r w xs ids n tests c around b act known knowns k v e st t s s' f fit asks within same before items =
    let K : ℕ → ℕ → Type 0 = λ l j. knowns l j ≡ true in
    let E : ℕ → Type 0 = λ j. known j ≡ true in
    let ran : (l : ℕ) → l < n → act l ≡ true → (f l ≡ Next) × (s' l ≡ cleared r (s l)) = λ l lt a. next_is (f l) (cleared r (s l)) (s' l) (items.on l lt a) in
    let t1 : State = defines w n k (d.Get e.var) t in
    let z = accessed w n c.vars c.vals tests (count_on n (t1.vals k) * w.lens r) b ids xs act K E E k v e st t s s' f (clears r) before items.off
    (λ l lt a. ((ran l lt a).0, ap (λ (y : Item). y.left) (ran l lt a).1))
    (λ l lt a y p.
    (let y' : State = record y { arrays = with_at y.arrays r (λ e. with_at (y.arrays r e) l 0) } in (
      y',
      refl,
      subst (Stepped b c.vars c.vals l (K l) E y y') (sym (ran l lt a).1) (record {
        own = record { vals = p.vals; vars = p.vars; arrays = λ a e. cleared_own y.arrays r l (s l).arrays a e p.arrays; mem = p.mem; log = p.log };
        more = λ j h. p.vals j (before.all l j lt a h);
        vals = λ j m ne. refl;
        temps = λ j m lo. refl;
        arrays = λ a e m ne. cleared_other y.arrays r l a e m ne;
        vars = refl;
        mem = λ m a lt ne h. refl;
        kept = λ a h. refl;
        log = λ m ne. refl;
        steps = refl;
      }),
    ))) in
    (z.0, ap (λ (o : Run). and_then o (run_all w n tests [])) z.1, z.2)

pub set_element_masked : SetElementsMasked
set_element_masked r j x w xs ids n tests c around b act known knowns k v e st t s s' f fit asks within same before items =
    let K : ℕ → ℕ → Type 0 = λ l i. knowns l i ≡ true in
    let E : ℕ → Type 0 = λ i. known i ≡ true in
    let fits = and_parts (known j.0) (known x.0) (and_parts (nat_lt r c.arrays) (known j.0 && known x.0) fit).1 in
    let ran : (l : ℕ) → l < n → act l ≡ true → (nat_lt ((s l).vals j.0) ((xs l).lens r) ≡ true) × (f l ≡ Next) × (s' l ≡ with_word r ((s l).vals j.0) ((s l).vals x.0) (s l)) = λ l lt a.
    allowed_is (nat_lt ((s l).vals j.0) ((xs l).lens r)) (f l) (with_word r ((s l).vals j.0) ((s l).vals x.0) (s l)) (s' l) (items.on l lt a) in
    let t1 : State = defines w n k (d.Get e.var) t in
    let z = accessed w n c.vars c.vals tests (count_on n (t1.vals k)) b ids xs act K E E k v e st t s s' f (sets w r j.0 x.0) before items.off
    (λ l lt a. ((ran l lt a).1, ap (λ (y : Item). y.left) (ran l lt a).2))
    (λ l lt a y p.
    (let I : ℕ = y.vals j.0 l in
    let X : ℕ = y.vals x.0 l in
    let at_j : I ≡ (s l).vals j.0 = p.vals j.0 (before.all l j.0 lt a fits.0) in
    let at_x : X ≡ (s l).vals x.0 = p.vals x.0 (before.all l x.0 lt a fits.1) in
    let ok : nat_lt I (w.lens r) ≡ true = ap (λ o. nat_lt o (w.lens r)) at_j ∙ ap (nat_lt ((s l).vals j.0)) (sym ((same l lt).lens r)) ∙ (ran l lt a).0 in
    let is : s' l ≡ with_word r I X (s l) = (ran l lt a).2 ∙ ap (λ o. with_word r o ((s l).vals x.0) (s l)) (sym at_j) ∙ ap (λ o. with_word r I o (s l)) (sym at_x) in
    let y' : State = record y { arrays = with_at y.arrays r (with_at (y.arrays r) I (with_at (y.arrays r I) l X)) } in (
      y',
      ap (λ o. if_allowed o (Ends y')) ok,
      subst (Stepped b c.vars c.vals l (K l) E y y') (sym is) (record {
        own = record { vals = p.vals; vars = p.vars; arrays = λ a e. set_own y.arrays r l I X (s l).arrays a e p.arrays; mem = p.mem; log = p.log };
        more = λ j h. p.vals j (before.all l j lt a h);
        vals = λ j m ne. refl;
        temps = λ j m lo. refl;
        arrays = λ a e m ne. set_other y.arrays r l I X a e m ne;
        vars = refl;
        mem = λ m a lt ne h. refl;
        kept = λ a h. refl;
        log = λ m ne. refl;
        steps = refl;
      }),
    ))) in
    (z.0, ap (λ (o : Run). and_then o (run_all w n tests [])) z.1, z.2)

pub element_masked : ElementsMasked
element_masked x r j w xs ids n tests c around b act known knowns k v e st t s s' f fit asks within same before items =
    let K : ℕ → ℕ → Type 0 = λ l i. knowns l i ≡ true in
    let D : ℕ → Type 0 = λ i. known i ≡ true in
    let E : ℕ → Type 0 = λ i. with_known x.0 known i ≡ true in
    let first = and_parts (nat_lt x.0 c.vals) (not (known x.0) && (nat_lt r c.arrays && known j.0)) fit in
    let low : x.0 < c.vals = ltb-true x.0 c.vals first.0 in
    let at : known j.0 ≡ true = (and_parts (nat_lt r c.arrays) (known j.0) (and_parts (not (known x.0)) (nat_lt r c.arrays && known j.0) first.1).1).1 in
    let ran : (l : ℕ) → l < n → act l ≡ true
    → (nat_lt ((s l).vals j.0) ((xs l).lens r) ≡ true) × (f l ≡ Next) × (s' l ≡ with_val x.0 ((s l).arrays r ((s l).vals j.0)) (s l)) = λ l lt a.
    allowed_is (nat_lt ((s l).vals j.0) ((xs l).lens r)) (f l) (with_val x.0 ((s l).arrays r ((s l).vals j.0)) (s l)) (s' l) (items.on l lt a) in
    let t1 : State = defines w n k (d.Get e.var) t in
    let z = accessed w n c.vars c.vals tests (count_on n (t1.vals k)) b ids xs act K D E k v e st t s s' f (takes w r x.0 j.0) before items.off
    (λ l lt a. ((ran l lt a).1, ap (λ (y : Item). y.left) (ran l lt a).2))
    (λ l lt a y p.
    (let I : ℕ = y.vals j.0 l in
    let V : ℕ = y.arrays r I l in
    let U : ℕ = (s l).arrays r ((s l).vals j.0) in
    let at_j : I ≡ (s l).vals j.0 = p.vals j.0 (before.all l j.0 lt a at) in
    let ok : nat_lt I (w.lens r) ≡ true = ap (λ o. nat_lt o (w.lens r)) at_j ∙ ap (nat_lt ((s l).vals j.0)) (sym ((same l lt).lens r)) ∙ (ran l lt a).0 in
    let vu : V ≡ U = p.arrays r I ∙ ap ((s l).arrays r) at_j in
    let y' : State = with_lane x.0 l V y in (
      y',
      ap (λ o. if_allowed o (Ends y')) ok,
      subst (Stepped b c.vars c.vals l (K l) E y y') (sym (ran l lt a).2) (record {
        own = record { vals = λ i h. val_own y.vals (s l).vals x.0 l V U i vu (λ ne. p.vals i h); vars = p.vars; arrays = p.arrays; mem = p.mem; log = p.log };
        more = λ i h. val_own y.vals (s l).vals x.0 l V U i vu (λ ne. p.vals i (before.all l i lt a (known_more x.0 i known h ne)));
        vals = λ i m ne. val_other y.vals (s l).vals x.0 l V U i m ne;
        temps = λ i m lo. val_kept y.vals (s l).vals x.0 l V U i m (λ q. omega (arith, q, lo, low));
        arrays = λ a e m ne. refl;
        vars = refl;
        mem = λ m a lt ne h. refl;
        kept = λ a h. refl;
        log = λ m ne. refl;
        steps = refl;
      }),
    ))) in
    (z.0, ap (λ (o : Run). and_then o (run_all w n tests [])) z.1, z.2)
