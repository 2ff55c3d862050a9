-- Both branches of an `if`, each for the lanes that take it.
use Rattle.std.proofs.Common.{◌≡◌, ℕ, zero, suc, ◌+◌, ◌*◌, ◌<◌, ◌≤◌, inl, inr, Bool, true, false, List, ◌∷◌, refl, sym, ap, ◌∙◌, arith}
use Rattle.std.specs.Prelude.{if◌then◌else◌, ◌&&◌, not}
use Rattle.std.proofs.lemmas.Bool.{and_parts}
use Rattle.item_ir.specs.Memory.{with_at}
use Rattle.item_ir.specs.Valid.{Counts, Known}
use Rattle.item_ir.specs.IrMeaning.{World as ItemWorld, State as Item, Run as Ran, Ends as Done, Flow, at_zero}
use Rattle.lane_ir.specs.LaneMeaning.{World, State, Ends, is_on, chosen, run_all}
use Rattle.lane_ir.specs.declared.form.LaneStmt.{LaneStmt}
use Rattle.lane_ir.proofs.Steps.{bool_cases, run_on, with_at-same, with_at-other}
use Rattle.mask_flow.specs.Masked.{chooses, settles, branches}
use Rattle.mask_law.specs.Worlds.{Ids}
use Rattle.mask_law.specs.Stacks.{Branch, Entry, branch, place, val}
use Rattle.mask_law.specs.Masks.{column, top_on, all_on, settle, after, flow_has}
use Rattle.mask_law.specs.Joins.{tail, mask}
use Rattle.mask_law.specs.Emitted.{Kept, OnlyVar, HasChosen, HasSettled}
use Rattle.mask_law.specs.Lanes.{Bytes, LaneRel, total, Before, Items, After, Stacked, row_of, lane_log}
use Rattle.mask_law.proofs.Emitted.{settle_code}
use Rattle.mask_law.proofs.Joins.{masks_join}
use Rattle.mask_law.proofs.Moves.{ids_kept}
use Rattle.mask_law.proofs.Opened.{choose_code}
use Rattle.mask_law.proofs.Scoped.{rel_kept, steps_behind}
use Rattle.mask_law.proofs.Sequence.{column_same, ids_lane, steps_of_two, Keeps}

-- ---- steps

pub steps_then : (w m a c y z u : ℕ) → u ≡ z + m → c ≤ a → z + w * c ≤ y + w * suc a → u + (w + m) * c ≤ y + (w + m) * suc a
steps_then w m a c y z u e h i = grind (arith, e, h, i)

-- ---- the two masks

pub first_on : (c x : ℕ) → is_on (chosen c x 0) ≡ (is_on x && is_on c)
first_on zero zero = refl
first_on zero (suc x) = refl
first_on (suc c) zero = refl
first_on (suc c) (suc x) = refl

second_on : (c x : ℕ) → is_on (chosen c 0 x) ≡ (is_on x && not (is_on c))
second_on zero zero = refl
second_on zero (suc x) = refl
second_on (suc c) zero = refl
second_on (suc c) (suc x) = refl

takes_first : {A : Type 0} (x : ℕ) (a b : A) → is_on x ≡ true → at_zero x a b ≡ b
takes_first zero a b h = cc
takes_first (suc x) a b h = refl

takes_second : {A : Type 0} (x : ℕ) (a b : A) → is_on x ≡ false → at_zero x a b ≡ a
takes_second zero a b h = refl
takes_second (suc x) a b h = cc

-- a lane's own test
pub both_on : (o p q : Bool) → (o ≡ true → p ≡ q) → (o && p) ≡ (o && q)
both_on true p q h = h refl
both_on false p q h = refl

not_true : (b : Bool) → not b ≡ true → b ≡ false
not_true true h = cc
not_true false h = refl

not_false : (b : Bool) → b ≡ false → not b ≡ true
not_false true h = cc
not_false false h = refl

-- what settles the top mask changes nothing that an item sees
pub rel_settled : {n : ℕ} (b : Bytes n) (m nu k v ops l : ℕ) (K : ℕ → Type 0) (t t' : State) (x : Item) → Kept m nu k v ops t t' → ((j : ℕ) → K j → j < k) → LaneRel b nu l K t x → LaneRel b nu l K t' x
rel_settled b m nu k v ops l K t t' x q low old =
    record {
      vals = λ j d. ap (λ (g : ℕ → ℕ). g l) (q.vals j (low j d)) ∙ old.vals j d;
      vars = λ u c. ap (λ (g : ℕ → ℕ). g l) (q.low u c) ∙ old.vars u c;
      arrays = λ r e. ap (λ (g : ℕ → ℕ → ℕ → ℕ). g r e l) q.arrays ∙ old.arrays r e;
      mem = λ a c. ap (λ (g : ℕ → ℕ). g a) q.mem ∙ old.mem a c;
      log = ap (lane_log l) q.log ∙ old.log;
    }

module _ (w : World) (xs : ℕ → ItemWorld) (ids : Ids) (n tests : ℕ) (c : Counts) (w1 w2 : ℕ) (Z1 Z2 : ℕ → Item → Ran) (known E1 E2 : Known) (x k v : ℕ) (e : Entry) (st : List Entry) (A B : List LaneStmt)
    (at : known x ≡ true)
    (flows1 : (l : ℕ) (y : Item) (f : Flow) (z : Item) → Z1 l y ≡ Done f z → flow_has f (e ∷ st) ≡ true)
    (flows2 : (l : ℕ) (y : Item) (f : Flow) (z : Item) → Z2 l y ≡ Done f z → flow_has f (e ∷ st) ≡ true)
    (first : Keeps w xs ids n tests c w1 Z1 known E1 (k + 5) (v + 1) (branch v (e ∷ st)) A)
    (second : Keeps w xs ids n tests c w2 Z2 known E2 (k + 5) (v + 1) (branch v (e ∷ st)) B) where
  abbrev Z : ℕ → Item → Ran
  Z l y = at_zero (y.vals x) (Z2 l y) (Z1 l y)

  module _ (b : Bytes n) (act : ℕ → Bool) (knowns : ℕ → Known) (t : State) (s s' : ℕ → Item) (f : ℕ → Flow)
      (before : Before n c.vars c.vals tests b ids xs act (λ l j. knowns l j ≡ true) (λ j. known j ≡ true) k v (e ∷ st) t s) (items : Items n b act Z s f s') where
    low_x : x < k
    low_x = let a = before.known_low x at in let h = before.high in omega (arith, a, h)

    low_K : (l j : ℕ) → knowns l j ≡ true → j < k
    low_K l j d = let a = before.known_low j (before.sub l j d) in let h = before.high in omega (arith, a, h)

    nu_v : c.vars ≤ v
    nu_v = let h = before.stacked in let a = h.0 in let d = h.1 in omega (arith, a, d)

    top_high : c.vars ≤ e.var
    top_high = before.stacked.0

    top_low : e.var < v
    top_low = before.stacked.1

    chose : (t1 : State) × (run_all w n tests (chooses (place k v (e ∷ st)) (val x)) t ≡ Ends t1) × HasChosen n k v x (e ∷ st) t t1
    chose = choose_code w n c.vars tests k v x e st t before.stacked low_x

    abbrev t1 : State
    t1 = chose.0

    kept1 : OnlyVar k v 6 t t1
    kept1 = chose.2.kept

    cond : (l : ℕ) → l < n → act l ≡ true → t.vals x l ≡ (s l).vals x
    cond l lt a = (before.rel l lt).vals x (before.all l x lt a at)

    abbrev act1 : ℕ → Bool
    act1 l = act l && is_on ((s l).vals x)

    abbrev act2 : ℕ → Bool
    act2 l = act l && not (is_on ((s l).vals x))

    here1 : (l : ℕ) → l < n → column (branch v (e ∷ st)) (row_of t1 l) ≡ mask Branch (is_on (chosen (t.vals x l) (t.vars e.var l) 0)) ∷ column (e ∷ st) (row_of t l)
    here1 l lt = chose.2.masks Branch l lt

    on1 : (l : ℕ) → l < n → is_on (chosen (t.vals x l) (t.vars e.var l) 0) ≡ act1 l
    on1 l lt = first_on (t.vals x l) (t.vars e.var l) ∙ ap (λ z. z && is_on (t.vals x l)) (before.masks l lt) ∙ both_on (act l) (is_on (t.vals x l)) (is_on ((s l).vals x)) (λ a. ap is_on (cond l lt a))

    before1 : Before n c.vars c.vals tests b ids xs act1 (λ l j. knowns l j ≡ true) (λ j. known j ≡ true) (k + 5) (v + 1) (branch v (e ∷ st)) t1 s
    before1 = record {
      rel = λ l lt. rel_kept b c.vars k v 6 l (λ j. knowns l j ≡ true) t t1 (s l) kept1 nu_v (low_K l) (before.rel l lt);
      masks = λ l lt. ap top_on (here1 l lt) ∙ on1 l lt;
      exact = λ l lt a. ap all_on (here1 l lt) ∙ before.exact l lt (and_parts (act l) (is_on ((s l).vals x)) a).0;
      sub = before.sub;
      all = λ l j lt a d. before.all l j lt (and_parts (act l) (is_on ((s l).vals x)) a).0 d;
      high = let h = before.high in omega (arith, h);
      known_low = before.known_low;
      stacked = (nu_v, omega arith, before.stacked);
      scoped = before.scoped;
      has_ids = λ l lt a. ids_kept ids (xs l) c.vals k l t t1 before.below kept1.vals (before.has_ids l lt (and_parts (act l) (is_on ((s l).vals x)) a).0);
      below = λ j lt. (let q = before.below j lt in let q1 = q.1 in (q.0, omega (arith, q1)));
      rounds = before.rounds;
    }

    abbrev s1 : ℕ → Item
    s1 l = if act1 l then s' l else s l

    s1_on : (l : ℕ) → act1 l ≡ true → s1 l ≡ s' l
    s1_on l a = ap (λ z. if z then s' l else s l) a

    s1_off : (l : ℕ) → act1 l ≡ false → s1 l ≡ s l
    s1_off l a = ap (λ z. if z then s' l else s l) a

    items1 : Items n b act1 Z1 s f s1
    items1 = record {
      on = λ l lt a.
          (let p = and_parts (act l) (is_on ((s l).vals x)) a in
          sym (takes_first ((s l).vals x) (Z2 l (s l)) (Z1 l (s l)) p.1) ∙ items.on l lt p.0 ∙ ap (Done (f l)) (sym (s1_on l a)));
      off = λ l lt a. s1_off l a;
      touched = λ l o lt a h. items.touched l o lt (and_parts (act l) (is_on ((s l).vals x)) a).0 (ap (λ (y : Item). Rattle.mask_law.specs.Lanes.touches y.touches o) (sym (s1_on l a)) ∙ h);
      written = λ l o lt a h. items.written l o lt (and_parts (act l) (is_on ((s l).vals x)) a).0 (ap (λ (y : Item). Rattle.mask_law.specs.Lanes.writes y.touches o) (sym (s1_on l a)) ∙ h);
    }

    ran1 : (t2 : State) × (run_all w n tests A t1 ≡ Ends t2) × After n c.vars c.vals w1 b act1 (λ l j. knowns l j ≡ true) (λ j. E1 j ≡ true) (k + 5) (v + 1) (branch v (e ∷ st)) t1 t2 s s1 f
    ran1 = first b act1 knowns t1 s s1 f before1 items1

    abbrev t2 : State
    t2 = ran1.0

    abbrev t3 : State
    t3 = record t2 { vars = with_at t2.vars v (λ l. chosen (t2.vals (k + 2) l) (t2.vals (k + 4) l) (t2.vars v l)); steps = t2.steps + 1 }

    other3 : (u : ℕ) → (u ≡ v → ⊥) → t3.vars u ≡ t2.vars u
    other3 u ne = with_at-other t2.vars v (λ l. chosen (t2.vals (k + 2) l) (t2.vals (k + 4) l) (t2.vars v l)) u ne

    kept3 : OnlyVar (k + 5) v 1 t2 t3
    kept3 = record { vals = λ j lt. refl; vars = other3; arrays = refl; mem = refl; log = refl; steps = refl }

    -- the second mask
    head3 : (l : ℕ) → l < n → t3.vars v l ≡ chosen (t.vals x l) 0 (t.vars e.var l)
    head3 l lt =
        ap (λ (o : ℕ → ℕ). o l) (with_at-same t2.vars v (λ m. chosen (t2.vals (k + 2) m) (t2.vals (k + 4) m) (t2.vars v m)))
        ∙ ap (λ z. chosen z (t2.vals (k + 4) l) (t2.vars v l)) (ran1.2.temps (k + 2) l (let h = before.high in omega (arith, h)) (omega arith) ∙ chose.2.ones l lt)
        ∙ ran1.2.temps (k + 4) l (let h = before.high in omega (arith, h)) (omega arith) ∙ chose.2.other l lt

    on3 : (l : ℕ) → l < n → is_on (t3.vars v l) ≡ act2 l
    on3 l lt =
        ap is_on (head3 l lt) ∙ second_on (t.vals x l) (t.vars e.var l) ∙ ap (λ z. z && not (is_on (t.vals x l))) (before.masks l lt)
        ∙ both_on (act l) (not (is_on (t.vals x l))) (not (is_on ((s l).vals x))) (λ a. ap (λ z. not (is_on z)) (cond l lt a))

    -- a lane that doesn't take the first branch
    off1 : (l : ℕ) → act2 l ≡ true → act1 l ≡ false
    off1 l a = let p = and_parts (act l) (not (is_on ((s l).vals x))) a in ap (λ z. z && is_on ((s l).vals x)) p.0 ∙ not_true (is_on ((s l).vals x)) p.1

    rest_still : (l : ℕ) → l < n → act1 l ≡ false → (u : ℕ) → c.vars ≤ u → u < v → t3.vars u l ≡ t.vars u l
    rest_still l lt a u lo hi =
        ap (λ (o : ℕ → ℕ). o l) (other3 u (λ q. omega (arith, q, hi))) ∙ ran1.2.still l lt a u lo (omega (arith, hi)) ∙ ap (λ (o : ℕ → ℕ). o l) (kept1.vars u (λ q. omega (arith, q, hi)))

    column3 : (l : ℕ) → column (e ∷ st) (row_of t3 l) ≡ column (e ∷ st) (row_of t2 l)
    column3 l = column_same c.vars v (e ∷ st) (row_of t2 l) (row_of t3 l) before.stacked (λ u lo hi. ap (λ (o : ℕ → ℕ). o l) (other3 u (λ q. omega (arith, q, hi))))

    untaken : (l : ℕ) → l < n → act1 l ≡ false → column (e ∷ st) (row_of t3 l) ≡ column (e ∷ st) (row_of t l)
    untaken l lt a = column_same c.vars v (e ∷ st) (row_of t l) (row_of t3 l) before.stacked (rest_still l lt a)

    before3 : Before n c.vars c.vals tests b ids xs act2 (λ l j. knowns l j ≡ true) (λ j. known j ≡ true) (k + 5) (v + 1) (branch v (e ∷ st)) t3 s1
    before3 = record {
      rel = λ l lt. rel_kept b c.vars (k + 5) v 1 l (λ j. knowns l j ≡ true) t2 t3 (s1 l) kept3 nu_v (λ j d. let q = low_K l j d in omega (arith, q)) (ran1.2.rel l lt);
      masks = λ l lt. on3 l lt;
      exact = λ l lt a. ap all_on (untaken l lt (off1 l a)) ∙ before.exact l lt (and_parts (act l) (not (is_on ((s l).vals x))) a).0;
      sub = before.sub;
      all = λ l j lt a d. before.all l j lt (and_parts (act l) (not (is_on ((s l).vals x))) a).0 d;
      high = let h = before.high in omega (arith, h);
      known_low = before.known_low;
      stacked = (nu_v, omega arith, before.stacked);
      scoped = before.scoped;
      has_ids = λ l lt a.
          ids_lane ids (xs l) c.vals k l t t3 before.below (λ j lo hi. ran1.2.temps j l lo (omega (arith, hi)) ∙ ap (λ (o : ℕ → ℕ). o l) (kept1.vals j hi))
          (before.has_ids l lt (and_parts (act l) (not (is_on ((s l).vals x))) a).0);
      below = λ j lt. (let q = before.below j lt in let q1 = q.1 in (q.0, omega (arith, q1)));
      rounds = let q = before.rounds in let h = ran1.2.falls in omega (arith, q, h);
    }

    items3 : Items n b act2 Z2 s1 f s'
    items3 = record {
      on = λ l lt a.
          (let p = and_parts (act l) (not (is_on ((s l).vals x))) a in
          ap (Z2 l) (s1_off l (off1 l a)) ∙ sym (takes_second ((s l).vals x) (Z2 l (s l)) (Z1 l (s l)) (not_true (is_on ((s l).vals x)) p.1)) ∙ items.on l lt p.0);
      off = λ l lt a.
          elim (bool_cases (act1 l)) [
            | inl q ↦ sym (s1_on l q)
            | inr q ↦ items.off l lt (neither l q a) ∙ sym (s1_off l q)
          ];
      touched = λ l o lt a. items.touched l o lt (and_parts (act l) (not (is_on ((s l).vals x))) a).0;
      written = λ l o lt a. items.written l o lt (and_parts (act l) (not (is_on ((s l).vals x))) a).0;
    }
      where
        by : (o p : Bool) → (o && p) ≡ false → (o && not p) ≡ false → o ≡ false
        by true true q r = q
        by true false q r = r
        by false p q r = refl

        neither : (l : ℕ) → act1 l ≡ false → act2 l ≡ false → act l ≡ false
        neither l q a = by (act l) (is_on ((s l).vals x)) q a

    ran3 : (t4 : State) × (run_all w n tests B t3 ≡ Ends t4) × After n c.vars c.vals w2 b act2 (λ l j. knowns l j ≡ true) (λ j. E2 j ≡ true) (k + 5) (v + 1) (branch v (e ∷ st)) t3 t4 s1 s' f
    ran3 = second b act2 knowns t3 s1 s' f before3 items3

    abbrev t4 : State
    t4 = ran3.0

    settled : (t5 : State) × (run_all w n tests (settles (place k v (e ∷ st))) t4 ≡ Ends t5) × HasSettled n c.vars k v (e ∷ st) t4 t5
    settled = settle_code w n c.vars tests k v e st t4 before.stacked

    -- a lane that is off
    off_still : (l : ℕ) → l < n → act l ≡ false → (u : ℕ) → c.vars ≤ u → u < v → t4.vars u l ≡ t.vars u l
    off_still l lt a u lo hi =
        ran3.2.still l lt (ap (λ z. z && not (is_on ((s l).vals x))) a) u lo (omega (arith, hi)) ∙ rest_still l lt (ap (λ z. z && is_on ((s l).vals x)) a) u lo hi

    -- the masks below the branches' own before they are settled
    column4 : (l : ℕ) → l < n → act l ≡ true → (o : Bool) × (column (e ∷ st) (row_of t4 l) ≡ tail (after (f l) (mask Branch o ∷ column (e ∷ st) (row_of t l))))
    column4 l lt a =
        elim (bool_cases (is_on ((s l).vals x))) [
          | inl q ↦ (
            is_on (chosen (t.vals x l) (t.vars e.var l) 0),
            column_same c.vars v (e ∷ st) (row_of t3 l) (row_of t4 l) before.stacked (λ u lo hi. ran3.2.still l lt (ap (λ z. z && not (is_on ((s l).vals x))) a ∙ ap not q) u lo (omega (arith, hi)))
                ∙ column3 l ∙ ap tail (ran1.2.masks l lt (ap (λ z. z && is_on ((s l).vals x)) a ∙ q) ∙ ap (after (f l)) (here1 l lt)),
          )
          | inr q ↦ (
            is_on (t3.vars v l),
            ap tail (ran3.2.masks l lt (ap (λ z. z && not (is_on ((s l).vals x))) a ∙ ap not q)
                ∙ ap (λ z. after (f l) (mask Branch (is_on (t3.vars v l)) ∷ z)) (untaken l lt (ap (λ z. z && is_on ((s l).vals x)) a ∙ q))),
          )
        ]

    flows : (l : ℕ) → l < n → act l ≡ true → flow_has (f l) (e ∷ st) ≡ true
    flows l lt a =
        elim (bool_cases (is_on ((s l).vals x))) [
          | inl q ↦ flows1 l (s l) (f l) (s' l) (sym (takes_first ((s l).vals x) (Z2 l (s l)) (Z1 l (s l)) q) ∙ items.on l lt a)
          | inr q ↦ flows2 l (s l) (f l) (s' l) (sym (takes_second ((s l).vals x) (Z2 l (s l)) (Z1 l (s l)) q) ∙ items.on l lt a)
        ]

    joined : After n c.vars c.vals (6 + (w1 + (1 + (w2 + 7)))) b act (λ l j. knowns l j ≡ true) (λ j. known j ≡ true) k v (e ∷ st) t settled.0 s s' f
    joined =
        let kept5 = settled.2.kept in
        let rels : (l : ℕ) → l < n → LaneRel b c.vars l (λ j. knowns l j ≡ true) settled.0 (s' l) = λ l lt. rel_settled b n c.vars k v 7 l (λ j. knowns l j ≡ true) t4 settled.0 (s' l) kept5 (low_K l) (ran3.2.rel l lt) in
        record {
          rel = rels;
          more = λ l lt a q j d. (rels l lt).vals j (before.all l j lt a d);
          temps = λ j l lo hi.
              ap (λ (o : ℕ → ℕ). o l) (kept5.vals j hi) ∙ ran3.2.temps j l lo (omega (arith, hi)) ∙ ran1.2.temps j l lo (omega (arith, hi)) ∙ ap (λ (o : ℕ → ℕ). o l) (kept1.vals j hi);
          still = λ l lt a u lo hi.
              settled.2.still l lt (ap is_on (off_still l lt a e.var top_high top_low) ∙ before.masks l lt ∙ a) u ∙ off_still l lt a u lo hi;
          masks = λ l lt a.
              (let p = column4 l lt a in
              settled.2.masks l lt ∙ ap settle p.1 ∙ (masks_join (e ∷ st) (row_of t l) (before.masks l lt ∙ a) (before.exact l lt a)).branch (f l) p.0 (flows l lt a));
          mem = λ a h. ap (λ (o : ℕ → ℕ). o a) kept5.mem ∙ ran3.2.mem a h ∙ ran1.2.mem a h ∙ ap (λ (o : ℕ → ℕ). o a) kept1.mem;
          falls = let p = ran1.2.falls in let q = ran3.2.falls in omega (arith, p, q);
          steps =
              let last = steps_then w2 7 (total n s1) (total n s') t3.steps t4.steps settled.0.steps kept5.steps ran3.2.falls ran3.2.steps in
              let put = steps_behind 1 (w2 + 7) (total n s1) (total n s') t2.steps t3.steps settled.0.steps refl ran3.2.falls last in
              let two = steps_of_two w1 (1 + (w2 + 7)) (total n s) (total n s1) (total n s') t1.steps t2.steps settled.0.steps ran3.2.falls ran1.2.falls ran1.2.steps put in
              steps_behind 6 (w1 + (1 + (w2 + 7))) (total n s) (total n s') t.steps t1.steps settled.0.steps kept1.steps (let p = ran1.2.falls in let q = ran3.2.falls in omega (arith, p, q)) two;
        }

    runs : run_all w n tests (branches (place k v (e ∷ st)) (val x) A B) t ≡ Ends settled.0
    runs =
        run_on w n tests (chooses (place k v (e ∷ st)) (val x)) _ t t1 settled.0 chose.1
        (run_on w n tests A _ t1 t2 settled.0 ran1.1 (run_on w n tests B (settles (place k v (e ∷ st))) t3 t4 settled.0 ran3.1 settled.1))

  pub if_keeps : Keeps w xs ids n tests c (6 + (w1 + (1 + (w2 + 7)))) Z known known k v (e ∷ st) (branches (place k v (e ∷ st)) (val x) A B)
  if_keeps b act knowns t s s' f before items =
      ((settled b act knowns t s s' f before items).0, runs b act knowns t s s' f before items, joined b act knowns t s s' f before items)
