-- One piece of code after another: a lane whose item left in the first is off in the second.
use Rattle.std.proofs.Common.{◌≡◌, ℕ, suc, ◌+◌, ◌*◌, ◌<◌, ◌≤◌, inl, inr, Bool, true, false, List, [], ◌∷◌, ◌++◌, refl, sym, ap, ◌∙◌, subst, arith}
use Rattle.std.specs.Prelude.{if◌then◌else◌, ◌&&◌}
use Rattle.std.proofs.lemmas.Bool.{and_parts}
use Rattle.item_ir.specs.Valid.{Counts, Known}
use Rattle.item_ir.specs.IrMeaning.{World as ItemWorld, State as Item, Run as Ran, Ends as Done, Stops, Spent, Flow, Next, Broke, Again, Gone, and_then}
use Rattle.lane_ir.specs.LaneMeaning.{World, State, Ends, run_all}
use Rattle.lane_ir.specs.declared.form.LaneStmt.{LaneStmt}
use Rattle.lane_ir.proofs.Steps.{bool_cases, run_on}
use Rattle.mask_law.specs.Stacks.{Entry, Round, In_loop, In_scope}
use Rattle.mask_law.specs.Masks.{Mask, column, top_on, all_on, clear_top, clear_end, after}
use Rattle.mask_law.specs.Worlds.{Ids, HasIds, BelowIds}
use Rattle.mask_law.specs.Lanes.{Bytes, total, Before, Items, After, Stacked, row_of}
use Rattle.mask_law.proofs.Growth.{Grown, Grows}

-- ---- how a run ends

abbrev pub is_next : Flow → Bool
is_next Next = true
is_next Broke = false
is_next Again = false
is_next Gone = false

abbrev pub flow_in : Ran → Flow
flow_in (Done f s) = f
flow_in Stops = Next
flow_in Spent = Next

abbrev pub item_in : Item → Ran → Item
item_in x (Done f s) = s
item_in x Stops = x
item_in x Spent = x

pub next_so : (g : Flow) → is_next g ≡ true → g ≡ Next
next_so Next h = refl
next_so Broke h = cc
next_so Again h = cc
next_so Gone h = cc

-- the first of two that end together ends, and the second too where it comes to it
pub first_ends : (x : Item) (r : Ran) (go : Item → Ran) (f : Flow) (y : Item) → and_then r go ≡ Done f y → r ≡ Done (flow_in r) (item_in x r)
first_ends x (Done g s) go f y h = refl
first_ends x Stops go f y h = cc
first_ends x Spent go f y h = cc

pub second_ends : (x : Item) (r : Ran) (go : Item → Ran) (f : Flow) (y : Item) → and_then r go ≡ Done f y → is_next (flow_in r) ≡ true → go (item_in x r) ≡ Done f y
second_ends x (Done Next s) go f y h q = h
second_ends x (Done Broke s) go f y h q = cc
second_ends x (Done Again s) go f y h q = cc
second_ends x (Done Gone s) go f y h q = cc
second_ends x Stops go f y h q = cc
second_ends x Spent go f y h q = cc

pub left_first : (x : Item) (r : Ran) (go : Item → Ran) (f : Flow) (y : Item) → and_then r go ≡ Done f y → is_next (flow_in r) ≡ false → (f ≡ flow_in r) × (y ≡ item_in x r) × (is_next f ≡ false)
left_first x (Done Next s) go f y h q = cc
left_first x (Done Broke s) go f y h q = (cc, cc, cc)
left_first x (Done Again s) go f y h q = (cc, cc, cc)
left_first x (Done Gone s) go f y h q = (cc, cc, cc)
left_first x Stops go f y h q = cc
left_first x Spent go f y h q = cc

-- what grows from the first's end
pub grown_on : (x : Item) (r : Ran) (go : Item → Ran) (f : Flow) (y : Item) → and_then r go ≡ Done f y → ((t : Item) → Grows t (go t)) → Grown (item_in x r) y
grown_on x (Done Next s) go f y h i = subst (λ (z : Ran). Grows s z) h (i s)
grown_on x (Done Broke s) go f y h i = let e : y ≡ s = cc in subst (λ z. Grown s z) (sym e) (record { touched = λ c q. q; written = λ c q. q })
grown_on x (Done Again s) go f y h i = let e : y ≡ s = cc in subst (λ z. Grown s z) (sym e) (record { touched = λ c q. q; written = λ c q. q })
grown_on x (Done Gone s) go f y h i = let e : y ≡ s = cc in subst (λ z. Grown s z) (sym e) (record { touched = λ c q. q; written = λ c q. q })
grown_on x Stops go f y h i = cc
grown_on x Spent go f y h i = cc

-- ---- masks

pub fallen_top : (ms : List Mask) → top_on (clear_top ms) ≡ false
fallen_top [] = refl
fallen_top (m ∷ ms) = refl

-- a lane that left is off
pub left_off : (f : Flow) (ms : List Mask) → is_next f ≡ false → top_on (after f ms) ≡ false
left_off Next ms h = cc
left_off Broke ms h = fallen_top (clear_end In_loop ms)
left_off Again ms h = fallen_top (clear_end Round ms)
left_off Gone ms h = fallen_top (clear_end In_scope ms)

-- the masks stand below v and from nu on
pub column_same : (nu v : ℕ) (st : List Entry) (old new : ℕ → ℕ) → Stacked nu st v → ((u : ℕ) → nu ≤ u → u < v → new u ≡ old u) → column st new ≡ column st old
column_same nu v [] old new h e = refl
column_same nu v (x ∷ st) old new h e =
    let lo = h.0 in let hi = h.1 in
    (λ i. record { kind = x.kind; on = Rattle.lane_ir.specs.LaneMeaning.is_on (e x.var lo hi i) } ∷ column_same nu x.var st old new h.2 (λ u a c. e u a (omega (arith, c, hi))) i)

-- ---- steps

pub steps_of_two : (w1 w2 a m c x y z : ℕ) → c ≤ m → m ≤ a → y + w1 * m ≤ x + w1 * suc a → z + w2 * c ≤ y + w2 * suc m → z + (w1 + w2) * c ≤ x + (w1 + w2) * suc a
steps_of_two w1 w2 a m c x y z h i j l = grind (arith, h, i, j, l)

pub ids_lane : (ids : Ids) (x : ItemWorld) (nv k l : ℕ) (t t' : State) → BelowIds ids.vals nv k → ((j : ℕ) → nv ≤ j → j < k → t'.vals j l ≡ t.vals j l) → HasIds ids x t l → HasIds ids x t' l
ids_lane ids x nv k l t t' below vals h =
    record {
      global = λ on d lt. (let q = below d (omega (arith, lt)) in vals _ q.0 q.1) ∙ h.global on d lt;
      local = λ on d lt. (let q = below (3 + d) (omega (arith, lt)) in vals _ q.0 q.1) ∙ h.local on d lt;
      group = λ on d lt. (let q = below (6 + d) (omega (arith, lt)) in vals _ q.0 q.1) ∙ h.group on d lt;
    }

-- ---- code that keeps its items

pub clash : (o : Bool) → o ≡ false → o ≡ true → ⊥
clash true h g = cc
clash false h g = cc

module _ (w : World) (xs : ℕ → ItemWorld) (ids : Ids) (n tests : ℕ) (c : Counts) where
  abbrev pub Keeps : (weight : ℕ) → (ℕ → Item → Ran) → (known after : Known) → (k v : ℕ) → List Entry → List LaneStmt → Type 0
  Keeps weight Z known E k v st code =
      (b : Bytes n) (act : ℕ → Bool) (knowns : ℕ → Known) (t : State) (s s' : ℕ → Item) (f : ℕ → Flow)
      → Before n c.vars c.vals tests b ids xs act (λ l j. knowns l j ≡ true) (λ j. known j ≡ true) k v st t s
      → Items n b act Z s f s'
      → (t' : State) × (run_all w n tests code t ≡ Ends t') × After n c.vars c.vals weight b act (λ l j. knowns l j ≡ true) (λ j. E j ≡ true) k v st t t' s s' f

  module _ (w1 w2 : ℕ) (Z1 Z2 : ℕ → Item → Ran) (known E1 E2 : Known) (k v : ℕ) (e : Entry) (st : List Entry) (A B : List LaneStmt)
      (mono : (j : ℕ) → known j ≡ true → E1 j ≡ true) (low : (j : ℕ) → E1 j ≡ true → j < c.vals) (grows : (l : ℕ) (x : Item) → Grows x (Z2 l x))
      (first : Keeps w1 Z1 known E1 k v (e ∷ st) A) (second : Keeps w2 Z2 E1 E2 k v (e ∷ st) B) where
    abbrev Z : ℕ → Item → Ran
    Z l x = and_then (Z1 l x) (Z2 l)

    module _ (b : Bytes n) (act : ℕ → Bool) (knowns : ℕ → Known) (t : State) (s s' : ℕ → Item) (f : ℕ → Flow)
        (before : Before n c.vars c.vals tests b ids xs act (λ l j. knowns l j ≡ true) (λ j. known j ≡ true) k v (e ∷ st) t s) (items : Items n b act Z s f s') where
      abbrev g : ℕ → Flow
      g l = if act l then flow_in (Z1 l (s l)) else Next

      abbrev m : ℕ → Item
      m l = if act l then item_in (s l) (Z1 l (s l)) else s l

      g_on : (l : ℕ) → act l ≡ true → g l ≡ flow_in (Z1 l (s l))
      g_on l a = ap (λ z. if z then flow_in (Z1 l (s l)) else Next) a

      m_on : (l : ℕ) → act l ≡ true → m l ≡ item_in (s l) (Z1 l (s l))
      m_on l a = ap (λ z. if z then item_in (s l) (Z1 l (s l)) else s l) a

      m_off : (l : ℕ) → act l ≡ false → m l ≡ s l
      m_off l a = ap (λ z. if z then item_in (s l) (Z1 l (s l)) else s l) a

      grown : (l : ℕ) → l < n → act l ≡ true → Grown (m l) (s' l)
      grown l lt a = subst (λ z. Grown z (s' l)) (sym (m_on l a)) (grown_on (s l) (Z1 l (s l)) (Z2 l) (f l) (s' l) (items.on l lt a) (grows l))

      items1 : Items n b act Z1 s g m
      items1 = record {
        on = λ l lt a. first_ends (s l) (Z1 l (s l)) (Z2 l) (f l) (s' l) (items.on l lt a) ∙ (λ i. Done (sym (g_on l a) i) (sym (m_on l a) i));
        off = λ l lt a. m_off l a;
        touched = λ l o lt a h. items.touched l o lt a ((grown l lt a).touched o h);
        written = λ l o lt a h. items.written l o lt a ((grown l lt a).written o h);
      }

      r1 : (t1 : State) × (run_all w n tests A t ≡ Ends t1) × After n c.vars c.vals w1 b act (λ l j. knowns l j ≡ true) (λ j. E1 j ≡ true) k v (e ∷ st) t t1 s m g
      r1 = first b act knowns t s m g before items1

      abbrev t1 : State
      t1 = r1.0

      abbrev act2 : ℕ → Bool
      act2 l = act l && is_next (g l)

      on2 : (l : ℕ) → act l ≡ true → is_next (g l) ≡ true → act2 l ≡ true
      on2 l a q = ap (λ z. z && is_next (g l)) a ∙ q

      left2 : (l : ℕ) → act l ≡ true → is_next (g l) ≡ false → act2 l ≡ false
      left2 l a q = ap (λ z. z && is_next (g l)) a ∙ q

      off2 : (l : ℕ) → act l ≡ false → act2 l ≡ false
      off2 l a = ap (λ z. z && is_next (g l)) a

      abbrev knowns2 : ℕ → Known
      knowns2 l = if act2 l then E1 else knowns l

      knows_on : (l j : ℕ) → act2 l ≡ true → knowns2 l j ≡ true → E1 j ≡ true
      knows_on l j a d = subst (λ z. (if z then E1 else knowns l) j ≡ true) a d

      knows_off : (l j : ℕ) → act2 l ≡ false → knowns2 l j ≡ true → knowns l j ≡ true
      knows_off l j a d = subst (λ z. (if z then E1 else knowns l) j ≡ true) a d

      same_masks : (l : ℕ) → l < n → act l ≡ true → is_next (g l) ≡ true → column (e ∷ st) (row_of t1 l) ≡ column (e ∷ st) (row_of t l)
      same_masks l lt a q = r1.2.masks l lt a ∙ ap (λ z. after z (column (e ∷ st) (row_of t l))) (next_so (g l) q)

      before2 : Before n c.vars c.vals tests b ids xs act2 (λ l j. knowns2 l j ≡ true) (λ j. E1 j ≡ true) k v (e ∷ st) t1 m
      before2 = record {
        rel = λ l lt.
            (let old = r1.2.rel l lt in
            record {
              vals = λ j d.
                  elim (bool_cases (act2 l)) [
                    | inl a ↦ (let p = and_parts (act l) (is_next (g l)) a in r1.2.more l lt p.0 (next_so (g l) p.1) j (knows_on l j a d))
                    | inr a ↦ old.vals j (knows_off l j a d)
                  ];
              vars = old.vars;
              arrays = old.arrays;
              mem = old.mem;
              log = old.log;
            });
        masks = λ l lt.
            elim (bool_cases (act l)) [
              | inl a ↦
                  elim (bool_cases (is_next (g l))) [
                    | inl q ↦ ap top_on (same_masks l lt a q) ∙ before.masks l lt ∙ a ∙ sym (on2 l a q)
                    | inr q ↦ ap top_on (r1.2.masks l lt a) ∙ left_off (g l) (column (e ∷ st) (row_of t l)) q ∙ sym (left2 l a q)
                  ]
              | inr a ↦ ap top_on (column_same c.vars v (e ∷ st) (row_of t l) (row_of t1 l) before.stacked (r1.2.still l lt a)) ∙ before.masks l lt ∙ a ∙ sym (off2 l a)
            ];
        exact = λ l lt h. (let p = and_parts (act l) (is_next (g l)) h in ap all_on (same_masks l lt p.0 p.1) ∙ before.exact l lt p.0);
        sub = λ l j d.
            elim (bool_cases (act2 l)) [
              | inl a ↦ knows_on l j a d
              | inr a ↦ mono j (before.sub l j (knows_off l j a d))
            ];
        all = λ l j lt a d. subst (λ z. (if z then E1 else knowns l) j ≡ true) (sym a) d;
        high = before.high;
        known_low = low;
        stacked = before.stacked;
        scoped = before.scoped;
        has_ids = λ l lt h. ids_lane ids (xs l) c.vals k l t t1 before.below (λ j lo hi. r1.2.temps j l lo hi) (before.has_ids l lt (and_parts (act l) (is_next (g l)) h).0);
        below = before.below;
        rounds = let q = before.rounds in let h = r1.2.falls in omega (arith, q, h);
      }

      items2 : Items n b act2 Z2 m f s'
      items2 = record {
        on = λ l lt h.
            (let p = and_parts (act l) (is_next (g l)) h in
            ap (Z2 l) (m_on l p.0) ∙ second_ends (s l) (Z1 l (s l)) (Z2 l) (f l) (s' l) (items.on l lt p.0) (ap is_next (sym (g_on l p.0)) ∙ p.1));
        off = λ l lt h.
            elim (bool_cases (act l)) [
              | inl a ↦
                  elim (bool_cases (is_next (g l))) [
                    | inl q ↦ absurd (clash (act2 l) h (on2 l a q))
                    | inr q ↦ (left_first (s l) (Z1 l (s l)) (Z2 l) (f l) (s' l) (items.on l lt a) (ap is_next (sym (g_on l a)) ∙ q)).1 ∙ sym (m_on l a)
                  ]
              | inr a ↦ items.off l lt a ∙ sym (m_off l a)
            ];
        touched = λ l o lt h. items.touched l o lt (and_parts (act l) (is_next (g l)) h).0;
        written = λ l o lt h. items.written l o lt (and_parts (act l) (is_next (g l)) h).0;
      }

      r2 : (t2 : State) × (run_all w n tests B t1 ≡ Ends t2) × After n c.vars c.vals w2 b act2 (λ l j. knowns2 l j ≡ true) (λ j. E2 j ≡ true) k v (e ∷ st) t1 t2 m s' f
      r2 = second b act2 knowns2 t1 m s' f before2 items2

      left_how : (l : ℕ) → l < n → act l ≡ true → is_next (g l) ≡ false → (f l ≡ g l) × (is_next (f l) ≡ false)
      left_how l lt a q =
          let h = left_first (s l) (Z1 l (s l)) (Z2 l) (f l) (s' l) (items.on l lt a) (ap is_next (sym (g_on l a)) ∙ q) in (h.0 ∙ sym (g_on l a), h.2)

      joined : After n c.vars c.vals (w1 + w2) b act (λ l j. knowns l j ≡ true) (λ j. E2 j ≡ true) k v (e ∷ st) t r2.0 s s' f
      joined = record {
        rel = λ l lt.
            (let o = r2.2.rel l lt in
            record {
              vals = λ j d.
                  o.vals j (elim (bool_cases (act2 l)) [
                    | inl a ↦ subst (λ z. (if z then E1 else knowns l) j ≡ true) (sym a) (mono j (before.sub l j d))
                    | inr a ↦ subst (λ z. (if z then E1 else knowns l) j ≡ true) (sym a) d
                  ]);
              vars = o.vars;
              arrays = o.arrays;
              mem = o.mem;
              log = o.log;
            });
        more = λ l lt a q j d.
            elim (bool_cases (is_next (g l))) [
              | inl i ↦ r2.2.more l lt (on2 l a i) q j d
              | inr i ↦ absurd (clash (is_next (f l)) (left_how l lt a i).1 (ap is_next q))
            ];
        temps = λ j l lo hi. r2.2.temps j l lo hi ∙ r1.2.temps j l lo hi;
        still = λ l lt a u lo hi. r2.2.still l lt (off2 l a) u lo hi ∙ r1.2.still l lt a u lo hi;
        masks = λ l lt a.
            elim (bool_cases (is_next (g l))) [
              | inl i ↦ r2.2.masks l lt (on2 l a i) ∙ ap (after (f l)) (same_masks l lt a i)
              | inr i ↦
                  column_same c.vars v (e ∷ st) (row_of t1 l) (row_of r2.0 l) before.stacked (r2.2.still l lt (left2 l a i))
                  ∙ r1.2.masks l lt a ∙ ap (λ z. after z (column (e ∷ st) (row_of t l))) (sym (left_how l lt a i).0)
            ];
        mem = λ a h. r2.2.mem a h ∙ r1.2.mem a h;
        falls = let p = r1.2.falls in let q = r2.2.falls in omega (arith, p, q);
        steps = steps_of_two w1 w2 (total n s) (total n m) (total n s') t.steps t1.steps r2.0.steps r2.2.falls r1.2.falls r1.2.steps r2.2.steps;
      }

    pub both_keep : Keeps (w1 + w2) Z known E2 k v (e ∷ st) (A ++ B)
    both_keep b act knowns t s s' f before items = (
      (r2 b act knowns t s s' f before items).0,
      run_on w n tests A B t (r1 b act knowns t s s' f before items).0 (r2 b act knowns t s s' f before items).0 (r1 b act knowns t s s' f before items).1 (r2 b act knowns t s s' f before items).1,
      joined b act knowns t s s' f before items,
    )
