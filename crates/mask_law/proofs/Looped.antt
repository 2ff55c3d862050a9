-- A loop: it goes on while a lane's item does, and each turn is for the lanes whose items take it.
use Rattle.std.proofs.Common.{◌≡◌, ℕ, zero, suc, ◌+◌, ◌*◌, ◌<◌, ◌≤◌, ◌⊎◌, inl, inr, Bool, true, false, List, ◌∷◌, ◌++◌, refl, sym, ap, ◌∙◌, subst, arith}
use Rattle.std.specs.Prelude.{pred, if◌then◌else◌, ◌&&◌}
use Rattle.std.proofs.lemmas.Bool.{and_parts}
use Rattle.item_ir.specs.Valid.{Counts, Known}
use Rattle.item_ir.specs.IrMeaning.{World as ItemWorld, State as Item, Run as Ran, Ends as Done, Flow, Next, Broke, Again, Gone, rounds as turns_of, after_body}
use Rattle.lane_ir.specs.LaneMeaning.{World, State, Run, Ends, and_then, is_on, any_on, chosen, costs, rounds, run_all}
use Rattle.lane_ir.specs.Weights.{test_done}
use Rattle.lane_ir.specs.declared.form.LaneStmt.{LaneStmt}
use Rattle.lane_ir.proofs.Steps.{bool_cases, run_on}
use Rattle.mask_flow.specs.Masked.{opens, tests as tests_code, settles}
use Rattle.mask_law.specs.Worlds.{Ids}
use Rattle.mask_law.specs.Stacks.{Round, In_loop, In_scope, Entry, in_loop, in_round, place, val}
use Rattle.mask_law.specs.Masks.{Mask, column, top_on, all_on, on_at, settle, clear_end, after}
use Rattle.mask_law.specs.Joins.{tail, mask}
use Rattle.mask_law.specs.Emitted.{Kept, OnlyVar, HasOpened, HasSettled, HasTested}
use Rattle.mask_law.specs.Lanes.{Bytes, LaneRel, total, touches, writes, Before, Items, After, Stacked, row_of}
use Rattle.mask_law.proofs.Branched.{first_on, both_on, rel_settled, steps_then}
use Rattle.mask_law.proofs.Emitted.{settle_code}
use Rattle.mask_law.proofs.Growth.{Grown, Grows}
use Rattle.mask_law.proofs.Joins.{masks_join}
use Rattle.mask_law.proofs.Opened.{open_code, test_code}
use Rattle.mask_law.proofs.Scoped.{rel_kept, steps_behind}
use Rattle.mask_law.proofs.Sequence.{clash, column_same, ids_lane, flow_in, item_in, steps_of_two, Keeps}
use Rattle.mask_law.proofs.Turns.{goes_on, begun, plain_first, plain_rest, test_off, test_on, round_begins, body_ends, body_goes, body_leaves, after_test, after_all, one_more, turn_of, grown_from_head, grown_from_body, grown_from_step, no_growth, none_on, some_on, total_same, total_less, last_turn, more_turns}

all_three : (r l s : Bool) → r ≡ true → l ≡ true → s ≡ true → (r && (l && s)) ≡ true
all_three true true true a b c = refl
all_three false l s a b c = a
all_three true false s a b c = b
all_three true true false a b c = c

-- in this lane the loop is over
abbrev pub Over : Flow → List Mask → List Mask → Type 0
Over f old new = ((f ≡ Next) × (new ≡ old)) ⊎ ((f ≡ Gone) × (new ≡ clear_end In_scope old))

-- ---- turns of a batch

stops : (n i k : ℕ) (head body : State → Run) (t t2 : State) → head t ≡ Ends t2 → any_on n (t2.vals k) ≡ false → rounds n (suc i) head k body t ≡ Ends (costs test_done t2)
stops n i k head body t t2 h a =
    ap (λ (r : Run). and_then r (λ t. if any_on n (t.vals k) then and_then (body (costs test_done t)) (rounds n i head k body) else Ends (costs test_done t))) h
    ∙ ap (λ o. if o then and_then (body (costs test_done t2)) (rounds n i head k body) else Ends (costs test_done t2)) a

goes_round : (n i k : ℕ) (head body : State → Run) (t t2 t7 u : State) → head t ≡ Ends t2 → any_on n (t2.vals k) ≡ true → body (costs test_done t2) ≡ Ends t7 → rounds n i head k body t7 ≡ Ends u
    → rounds n (suc i) head k body t ≡ Ends u
goes_round n i k head body t t2 t7 u h a o r =
    ap (λ (r : Run). and_then r (λ t. if any_on n (t.vals k) then and_then (body (costs test_done t)) (rounds n i head k body) else Ends (costs test_done t))) h
    ∙ ap (λ o. if o then and_then (body (costs test_done t2)) (rounds n i head k body) else Ends (costs test_done t2)) a
    ∙ ap (λ (r : Run). and_then r (rounds n i head k body)) o ∙ r

module _ (w : World) (xs : ℕ → ItemWorld) (ids : Ids) (n tests : ℕ) (c : Counts) (wh wb ws : ℕ) (Zh Zb Zs : ℕ → Item → Ran) (known Eh Eb Es : Known) (x k v : ℕ) (e : Entry) (st : List Entry) (H B S : List LaneStmt)
    (mono : (j : ℕ) → known j ≡ true → Eh j ≡ true) (low : (j : ℕ) → Eh j ≡ true → j < c.vals) (at : Eh x ≡ true)
    (growh : (l : ℕ) (y : Item) → Grows y (Zh l y)) (growb : (l : ℕ) (y : Item) → Grows y (Zb l y)) (grows : (l : ℕ) (y : Item) → Grows y (Zs l y))
    (head : Keeps w xs ids n tests c wh Zh known Eh k (v + 2) (in_loop v (e ∷ st)) H)
    (body : Keeps w xs ids n tests c wb Zb Eh Eb k (v + 2) (in_round v (e ∷ st)) B)
    (step : Keeps w xs ids n tests c ws Zs Eh Es k (v + 2) (in_loop v (e ∷ st)) S) where
  abbrev Z : ℕ → Item → Ran
  Z l y = turns_of (suc y.left) (Zh l) x (Zb l) (Zs l) y

  -- what a turn is made of
  abbrev heading : List LaneStmt
  heading = H ++ tests_code (place k v (e ∷ st)) (val x)

  abbrev turning_code : List LaneStmt
  turning_code = opens k (v + 1) v ++ (B ++ (settles (place k (v + 2) (in_loop v (e ∷ st))) ++ S))

  abbrev w1 : ℕ
  w1 = wh + 5

  abbrev w2 : ℕ
  w2 = 3 + (wb + (7 + ws))

  module _ (b : Bytes n) (act0 : ℕ → Bool) (knowns : ℕ → Known) (t0 : State) (s s' : ℕ → Item) (f : ℕ → Flow)
      (before : Before n c.vars c.vals tests b ids xs act0 (λ l j. knowns l j ≡ true) (λ j. known j ≡ true) k v (e ∷ st) t0 s)
      (touched : (l a : ℕ) → l < n → act0 l ≡ true → touches (s' l).touches a ≡ true → b.touched l a ≡ true)
      (written : (l a : ℕ) → l < n → act0 l ≡ true → writes (s' l).touches a ≡ true → b.written l a ≡ true) where
    abbrev old : ℕ → List Mask
    old l = column (e ∷ st) (row_of t0 l)

    low_K : (l j : ℕ) → knowns l j ≡ true → j < k
    low_K l j d = let a = before.known_low j (before.sub l j d) in let h = before.high in omega (arith, a, h)

    low_E : (j : ℕ) → Eh j ≡ true → j < k
    low_E j d = let a = low j d in let h = before.high in omega (arith, a, h)

    nu_v : c.vars ≤ v
    nu_v = let h = before.stacked in let a = h.0 in let d = h.1 in omega (arith, a, d)

    loop_stacked : Stacked c.vars (in_loop v (e ∷ st)) (v + 2)
    loop_stacked = (nu_v, omega arith, before.stacked)

    old_on : (l : ℕ) → l < n → act0 l ≡ true → (on_at Round (old l) ≡ true) × (on_at In_scope (old l) ≡ true)
    old_on l lt a =
        let p = and_parts (on_at Round (old l)) (on_at In_loop (old l) && on_at In_scope (old l)) (before.exact l lt a) in
        (p.0, (and_parts (on_at In_loop (old l)) (on_at In_scope (old l)) p.1).1)

    join : (l : ℕ) → l < n → act0 l ≡ true → Rattle.mask_law.specs.Joins.Joins (e ∷ st) (row_of t0 l)
    join l lt a = masks_join (e ∷ st) (row_of t0 l) (before.masks l lt ∙ a) (before.exact l lt a)

    -- where a turn begins: the items of the lanes in `act` are still in the loop
    pub record At (act : ℕ → Bool) (t : State) (y : ℕ → Item) (m : ℕ → ℕ) : Type 0 where
      pub sub : (l : ℕ) → act l ≡ true → act0 l ≡ true
      pub rel : (l : ℕ) → l < n → LaneRel b c.vars l (λ j. knowns l j ≡ true) t (y l)
      pub runs : (l : ℕ) → l < n → act l ≡ true → turns_of (m l) (Zh l) x (Zb l) (Zs l) (y l) ≡ Done (f l) (s' l)
      pub done : (l : ℕ) → l < n → act l ≡ false → y l ≡ s' l
      pub mask : (l : ℕ) → l < n → is_on (t.vars v l) ≡ act l
      pub here : (l : ℕ) → l < n → act l ≡ true → column (e ∷ st) (row_of t l) ≡ old l
      pub still : (l : ℕ) → l < n → act0 l ≡ false → (u : ℕ) → c.vars ≤ u → u < v → t.vars u l ≡ t0.vars u l
      pub left : (l : ℕ) → l < n → act0 l ≡ true → act l ≡ false → Over (f l) (old l) (column (e ∷ st) (row_of t l))
      pub temps : (j l : ℕ) → c.vals ≤ j → j < k → t.vals j l ≡ t0.vals j l
      pub mem : (a : ℕ) → ((l : ℕ) → l < n → b.written l a ≡ false) → t.mem a ≡ t0.mem a
      pub fell : total n y ≤ total n s

    -- where the loop has ended
    pub record End (t : State) : Type 0 where
      pub rel : (l : ℕ) → l < n → LaneRel b c.vars l (λ j. knowns l j ≡ true) t (s' l)
      pub still : (l : ℕ) → l < n → act0 l ≡ false → (u : ℕ) → c.vars ≤ u → u < v → t.vars u l ≡ t0.vars u l
      pub left : (l : ℕ) → l < n → act0 l ≡ true → Over (f l) (old l) (column (e ∷ st) (row_of t l))
      pub temps : (j l : ℕ) → c.vals ≤ j → j < k → t.vals j l ≡ t0.vals j l
      pub mem : (a : ℕ) → ((l : ℕ) → l < n → b.written l a ≡ false) → t.mem a ≡ t0.mem a

    module _ (act : ℕ → Bool) (t : State) (y : ℕ → Item) (m : ℕ → ℕ) (q : At act t y m) where
      turn : (l : ℕ) → l < n → act l ≡ true → Rattle.item_ir.specs.IrMeaning.plainly_then (Zh l (y l)) (after_test (Zh l) x (Zb l) (Zs l) (pred (m l))) ≡ Done (f l) (s' l)
      turn l lt a = turn_of (Zh l) x (Zb l) (Zs l) (m l) (y l) (f l) (s' l) (q.runs l lt a)

      -- ---- the head

      abbrev h : ℕ → Item
      h l = if act l then item_in (y l) (Zh l (y l)) else y l

      h_on : (l : ℕ) → act l ≡ true → h l ≡ item_in (y l) (Zh l (y l))
      h_on l a = ap (λ z. if z then item_in (y l) (Zh l (y l)) else y l) a

      h_off : (l : ℕ) → act l ≡ false → h l ≡ y l
      h_off l a = ap (λ z. if z then item_in (y l) (Zh l (y l)) else y l) a

      tested : (l : ℕ) → l < n → act l ≡ true → after_test (Zh l) x (Zb l) (Zs l) (pred (m l)) (h l) ≡ Done (f l) (s' l)
      tested l lt a = ap (after_test (Zh l) x (Zb l) (Zs l) (pred (m l))) (h_on l a) ∙ plain_rest (y l) (Zh l (y l)) (after_test (Zh l) x (Zb l) (Zs l) (pred (m l))) (f l) (s' l) (turn l lt a)

      grown_h : (l : ℕ) → l < n → act l ≡ true → Grown (h l) (s' l)
      grown_h l lt a = grown_from_head (Zh l) x (Zb l) (Zs l) (growh l) (growb l) (grows l) (pred (m l)) (h l) (f l) (s' l) (tested l lt a)

      before_h : Before n c.vars c.vals tests b ids xs act (λ l j. knowns l j ≡ true) (λ j. known j ≡ true) k (v + 2) (in_loop v (e ∷ st)) t y
      before_h = record {
        rel = q.rel;
        masks = q.mask;
        exact = λ l lt a.
            (let o = old_on l lt (q.sub l a) in
            all_three (on_at Round (column (e ∷ st) (row_of t l))) (is_on (t.vars v l)) (on_at In_scope (column (e ∷ st) (row_of t l)))
            (ap (on_at Round) (q.here l lt a) ∙ o.0) (q.mask l lt ∙ a) (ap (on_at In_scope) (q.here l lt a) ∙ o.1));
        sub = before.sub;
        all = λ l j lt a d. before.all l j lt (q.sub l a) d;
        high = before.high;
        known_low = before.known_low;
        stacked = loop_stacked;
        scoped = before.scoped;
        has_ids = λ l lt a. ids_lane ids (xs l) c.vals k l t0 t before.below (λ j lo hi. q.temps j l lo hi) (before.has_ids l lt (q.sub l a));
        below = before.below;
        rounds = let o = before.rounds in let i = q.fell in omega (arith, o, i);
      }

      items_h : Items n b act Zh y (λ l. Next) h
      items_h = record {
        on = λ l lt a. plain_first (y l) (Zh l (y l)) (after_test (Zh l) x (Zb l) (Zs l) (pred (m l))) (f l) (s' l) (turn l lt a) ∙ ap (Done Next) (sym (h_on l a));
        off = λ l lt a. h_off l a;
        touched = λ l o lt a d. touched l o lt (q.sub l a) ((grown_h l lt a).touched o d);
        written = λ l o lt a d. written l o lt (q.sub l a) ((grown_h l lt a).written o d);
      }

      ran_h : (t1 : State) × (run_all w n tests H t ≡ Ends t1) × After n c.vars c.vals wh b act (λ l j. knowns l j ≡ true) (λ j. Eh j ≡ true) k (v + 2) (in_loop v (e ∷ st)) t t1 y h (λ l. Next)
      ran_h = head b act knowns t y h (λ l. Next) before_h items_h

      abbrev t1 : State
      t1 = ran_h.0

      var1 : (l : ℕ) → l < n → is_on (t1.vars v l) ≡ act l
      var1 l lt =
          elim (bool_cases (act l)) [
            | inl a ↦ ap top_on (ran_h.2.masks l lt a) ∙ q.mask l lt
            | inr a ↦ ap is_on (ran_h.2.still l lt a v nu_v (omega arith)) ∙ q.mask l lt
          ]

      -- ---- the test

      test : (t2 : State) × (run_all w n tests (tests_code (place k v (e ∷ st)) (val x)) t1 ≡ Ends t2) × HasTested n k v x (e ∷ st) t1 t2
      test = test_code w n c.vars tests k v x (e ∷ st) t1 before.stacked (low_E x at)

      abbrev t2 : State
      t2 = test.0

      kept2 : OnlyVar k v 4 t1 t2
      kept2 = test.2.kept

      abbrev act2 : ℕ → Bool
      act2 l = act l && is_on ((h l).vals x)

      on2 : (l : ℕ) → l < n → is_on (chosen (t1.vals x l) (t1.vars v l) 0) ≡ act2 l
      on2 l lt =
          first_on (t1.vals x l) (t1.vars v l) ∙ ap (λ z. z && is_on (t1.vals x l)) (var1 l lt)
          ∙ both_on (act l) (is_on (t1.vals x l)) (is_on ((h l).vals x)) (λ a. ap is_on (ran_h.2.more l lt a refl x at))

      mask2 : (l : ℕ) → l < n → is_on (t2.vals (k + 2) l) ≡ act2 l
      mask2 l lt = ap is_on (test.2.mask l lt) ∙ on2 l lt

      var2 : (l : ℕ) → l < n → is_on (t2.vars v l) ≡ act2 l
      var2 l lt = ap top_on (test.2.masks In_loop l lt) ∙ on2 l lt

      column2 : (l : ℕ) → l < n → column (e ∷ st) (row_of t2 l) ≡ column (e ∷ st) (row_of t1 l)
      column2 l lt = ap tail (test.2.masks In_loop l lt)

      here2 : (l : ℕ) → l < n → act l ≡ true → column (e ∷ st) (row_of t2 l) ≡ old l
      here2 l lt a = column2 l lt ∙ ap tail (ran_h.2.masks l lt a) ∙ q.here l lt a

      still2 : (l : ℕ) → l < n → act l ≡ false → (u : ℕ) → c.vars ≤ u → u < v → t2.vars u l ≡ t.vars u l
      still2 l lt a u lo hi = ap (λ (o : ℕ → ℕ). o l) (kept2.vars u (λ i. omega (arith, i, hi))) ∙ ran_h.2.still l lt a u lo (omega (arith, hi))

      abbrev t3 : State
      t3 = costs test_done t2

      temps3 : (j l : ℕ) → c.vals ≤ j → j < k → t3.vals j l ≡ t0.vals j l
      temps3 j l lo hi = ap (λ (o : ℕ → ℕ). o l) (kept2.vals j hi) ∙ ran_h.2.temps j l lo hi ∙ q.temps j l lo hi

      mem3 : (a : ℕ) → ((l : ℕ) → l < n → b.written l a ≡ false) → t3.mem a ≡ t0.mem a
      mem3 a i = ap (λ (o : ℕ → ℕ). o a) kept2.mem ∙ ran_h.2.mem a i ∙ q.mem a i

      steps3 : t3.steps + w1 * total n h ≤ t.steps + w1 * suc (total n y)
      steps3 = steps_then wh 5 (total n y) (total n h) t.steps t1.steps t3.steps (let i = kept2.steps in omega (arith, i)) ran_h.2.falls ran_h.2.steps

      headed : run_all w n tests heading t ≡ Ends t2
      headed = run_on w n tests H (tests_code (place k v (e ∷ st)) (val x)) t t1 t2 ran_h.1 test.1

      -- a lane whose item ends at the test
      at_test : (l : ℕ) → l < n → act l ≡ true → is_on ((h l).vals x) ≡ false → (f l ≡ Next) × (s' l ≡ h l)
      at_test l lt a o = test_off ((h l).vals x) (h l) _ (f l) (s' l) (tested l lt a) o

      off_act2 : (l : ℕ) → act2 l ≡ false → act l ≡ true → is_on ((h l).vals x) ≡ false
      off_act2 l o a = sym (ap (λ z. z && is_on ((h l).vals x)) a) ∙ o

      rel2 : (l : ℕ) → l < n → (K : ℕ → Type 0) → ((j : ℕ) → K j → knowns l j ≡ true) → LaneRel b c.vars l K t3 (h l)
      rel2 l lt K i =
          let r = rel_kept b c.vars k v 4 l (λ j. knowns l j ≡ true) t1 t2 (h l) kept2 nu_v (low_K l) (ran_h.2.rel l lt) in
          record { vals = λ j d. r.vals j (i j d); vars = r.vars; arrays = r.arrays; mem = r.mem; log = r.log }

      -- ---- no lane goes on

      none2 : any_on n (t2.vals (k + 2)) ≡ false → (l : ℕ) → l < n → act2 l ≡ false
      none2 none l lt = sym (mask2 l lt) ∙ none_on n (t2.vals (k + 2)) none l lt

      last : any_on n (t2.vals (k + 2)) ≡ false → (l : ℕ) → l < n → h l ≡ s' l
      last none l lt =
          elim (bool_cases (act l)) [
            | inl i ↦ sym (at_test l lt i (off_act2 l (none2 none l lt) i)).1
            | inr i ↦ h_off l i ∙ q.done l lt i
          ]

      ended : any_on n (t2.vals (k + 2)) ≡ false → End t3
      ended none = record {
        rel = λ l lt. subst (LaneRel b c.vars l (λ j. knowns l j ≡ true) t3) (last none l lt) (rel2 l lt (λ j. knowns l j ≡ true) (λ j d. d));
        still = λ l lt a u lo hi. still2 l lt (off0 l a) u lo hi ∙ q.still l lt a u lo hi;
        left = λ l lt a.
            elim (bool_cases (act l)) [
              | inl i ↦ inl ((at_test l lt i (off_act2 l (none2 none l lt) i)).0, here2 l lt i)
              | inr i ↦
                  subst (Over (f l) (old l)) (sym (column_same c.vars v (e ∷ st) (row_of t l) (row_of t2 l) before.stacked (still2 l lt i))) (q.left l lt a i)
            ];
        temps = temps3;
        mem = mem3;
      }
        where
          off0 : (l : ℕ) → act0 l ≡ false → act l ≡ false
          off0 l a = elim (bool_cases (act l)) [ inl i ↦ absurd (clash (act0 l) a (q.sub l i)) | inr i ↦ i ]

      -- ---- some lane goes on: its round begins

      cond_on : (l : ℕ) → act2 l ≡ true → (act l ≡ true) × (is_on ((h l).vals x) ≡ true)
      cond_on l a = and_parts (act l) (is_on ((h l).vals x)) a

      abbrev u : ℕ → Item
      u l = if act2 l then begun (h l) else h l

      u_on : (l : ℕ) → act2 l ≡ true → u l ≡ begun (h l)
      u_on l a = ap (λ z. if z then begun (h l) else h l) a

      u_off : (l : ℕ) → act2 l ≡ false → u l ≡ h l
      u_off l a = ap (λ z. if z then begun (h l) else h l) a

      begins : (l : ℕ) → l < n → act2 l ≡ true → ((h l).left ≡ suc (pred (h l).left)) × (after_body (Zb l (begun (h l))) (after_all (Zh l) x (Zb l) (Zs l) (pred (m l))) ≡ Done (f l) (s' l))
      begins l lt a =
          let p = cond_on l a in
          round_begins (h l).left (h l) _ (f l) (s' l) (test_on ((h l).vals x) (Done Next (h l)) _ (f l) (s' l) (tested l lt p.0) p.1)

      bodied : (l : ℕ) → l < n → act2 l ≡ true → after_body (Zb l (u l)) (after_all (Zh l) x (Zb l) (Zs l) (pred (m l))) ≡ Done (f l) (s' l)
      bodied l lt a = ap (λ z. after_body (Zb l z) (after_all (Zh l) x (Zb l) (Zs l) (pred (m l)))) (u_on l a) ∙ (begins l lt a).1

      open2 : (t4 : State) × (run_all w n tests (opens k (v + 1) v) t3 ≡ Ends t4) × HasOpened n k (v + 1) (in_loop v (e ∷ st)) t3 t4
      open2 = open_code w n c.vars tests k (v + 1) (record { kind = In_loop; var = v }) (e ∷ st) t3 (nu_v, omega arith, before.stacked)

      abbrev t4 : State
      t4 = open2.0

      kept4 : OnlyVar k (v + 1) 3 t3 t4
      kept4 = open2.2.kept

      nu_v1 : c.vars ≤ v + 1
      nu_v1 = let i = nu_v in omega (arith, i)

      abbrev knowns2 : ℕ → Known
      knowns2 l = if act2 l then Eh else knowns l

      k2_on : (l j : ℕ) → act2 l ≡ true → knowns2 l j ≡ true → Eh j ≡ true
      k2_on l j a d = subst (λ z. (if z then Eh else knowns l) j ≡ true) a d

      k2_off : (l j : ℕ) → act2 l ≡ false → knowns2 l j ≡ true → knowns l j ≡ true
      k2_off l j a d = subst (λ z. (if z then Eh else knowns l) j ≡ true) a d

      to_k2 : (l j : ℕ) → knowns l j ≡ true → knowns2 l j ≡ true
      to_k2 l j d =
          elim (bool_cases (act2 l)) [
            | inl a ↦ subst (λ z. (if z then Eh else knowns l) j ≡ true) (sym a) (mono j (before.sub l j d))
            | inr a ↦ subst (λ z. (if z then Eh else knowns l) j ≡ true) (sym a) d
          ]

      round_masks : (l : ℕ) → l < n → column (in_round v (e ∷ st)) (row_of t4 l) ≡ mask Round (is_on (t2.vars v l)) ∷ (mask In_loop (is_on (t2.vars v l)) ∷ column (e ∷ st) (row_of t2 l))
      round_masks l lt = open2.2.masks Round l lt

      round_here : (l : ℕ) → l < n → act2 l ≡ true → column (in_round v (e ∷ st)) (row_of t4 l) ≡ mask Round true ∷ (mask In_loop true ∷ old l)
      round_here l lt a =
          let o = var2 l lt ∙ a in round_masks l lt ∙ (λ i. mask Round (o i) ∷ (mask In_loop (o i) ∷ here2 l lt (cond_on l a).0 i))

      rel4 : (l : ℕ) → l < n → LaneRel b c.vars l (λ j. knowns2 l j ≡ true) t4 (u l)
      rel4 l lt =
          elim (bool_cases (act2 l)) [
            | inl a ↦
                (let r = rel_kept b c.vars k (v + 1) 3 l (λ j. knowns l j ≡ true) t3 t4 (h l) kept4 nu_v1 (low_K l) (rel2 l lt (λ j. knowns l j ≡ true) (λ j d. d)) in
                subst (LaneRel b c.vars l (λ j. knowns2 l j ≡ true) t4) (sym (u_on l a)) (record {
                  vals = λ j d.
                      (let i = k2_on l j a d in
                      ap (λ (o : ℕ → ℕ). o l) (kept4.vals j (low_E j i)) ∙ ap (λ (o : ℕ → ℕ). o l) (kept2.vals j (low_E j i)) ∙ ran_h.2.more l lt (cond_on l a).0 refl j i);
                  vars = r.vars;
                  arrays = r.arrays;
                  mem = r.mem;
                  log = r.log;
                }))
            | inr a ↦
                (let r = rel_kept b c.vars k (v + 1) 3 l (λ j. knowns l j ≡ true) t3 t4 (h l) kept4 nu_v1 (low_K l) (rel2 l lt (λ j. knowns l j ≡ true) (λ j d. d)) in
                subst (LaneRel b c.vars l (λ j. knowns2 l j ≡ true) t4) (sym (u_off l a)) (record { vals = λ j d. r.vals j (k2_off l j a d); vars = r.vars; arrays = r.arrays; mem = r.mem; log = r.log }))
          ]

      lefts : (l : ℕ) → l < n → (u l).left ≤ (h l).left
      lefts l lt =
          elim (bool_cases (act2 l)) [
            | inl a ↦ (let i = ap (λ (o : Item). o.left) (u_on l a) in let j = (begins l lt a).0 in omega (arith, i, j))
            | inr a ↦ (let i = ap (λ (o : Item). o.left) (u_off l a) in omega (arith, i))
          ]

      less : any_on n (t2.vals (k + 2)) ≡ true → total n u < total n h
      less any =
          let r = some_on n (t2.vals (k + 2)) any in
          let a = sym (mask2 r.0 r.1) ∙ r.2 in
          let i = ap (λ (o : Item). o.left) (u_on r.0 a) in
          let j = (begins r.0 r.1 a).0 in
          total_less n u h r.0 r.1 lefts (omega (arith, i, j))

      most : total n u ≤ total n h
      most = Rattle.mask_law.proofs.Turns.total_most n u h lefts

      before_b : Before n c.vars c.vals tests b ids xs act2 (λ l j. knowns2 l j ≡ true) (λ j. Eh j ≡ true) k (v + 2) (in_round v (e ∷ st)) t4 u
      before_b = record {
        rel = rel4;
        masks = λ l lt. ap top_on (round_masks l lt) ∙ var2 l lt;
        exact = λ l lt a.
            (let o = old_on l lt (q.sub l (cond_on l a).0) in
            ap all_on (round_here l lt a) ∙ o.1);
        sub = λ l j d. elim (bool_cases (act2 l)) [ inl a ↦ k2_on l j a d | inr a ↦ mono j (before.sub l j (k2_off l j a d)) ];
        all = λ l j lt a d. subst (λ z. (if z then Eh else knowns l) j ≡ true) (sym a) d;
        high = before.high;
        known_low = low;
        stacked = (nu_v1, omega arith, (nu_v, omega arith, before.stacked));
        scoped = before.scoped;
        has_ids = λ l lt a.
            ids_lane ids (xs l) c.vals k l t0 t4 before.below (λ j lo hi. ap (λ (o : ℕ → ℕ). o l) (kept4.vals j hi) ∙ temps3 j l lo hi) (before.has_ids l lt (q.sub l (cond_on l a).0));
        below = before.below;
        rounds = let o = before.rounds in let i = q.fell in let j = ran_h.2.falls in let r = most in omega (arith, o, i, j, r);
      }

      -- ---- the body

      abbrev fb : ℕ → Flow
      fb l = if act2 l then flow_in (Zb l (u l)) else Next

      fb_on : (l : ℕ) → act2 l ≡ true → fb l ≡ flow_in (Zb l (u l))
      fb_on l a = ap (λ z. if z then flow_in (Zb l (u l)) else Next) a

      abbrev d : ℕ → Item
      d l = if act2 l then item_in (u l) (Zb l (u l)) else u l

      d_on : (l : ℕ) → act2 l ≡ true → d l ≡ item_in (u l) (Zb l (u l))
      d_on l a = ap (λ z. if z then item_in (u l) (Zb l (u l)) else u l) a

      d_off : (l : ℕ) → act2 l ≡ false → d l ≡ u l
      d_off l a = ap (λ z. if z then item_in (u l) (Zb l (u l)) else u l) a

      -- where it goes on, and where it doesn't
      goes : (l : ℕ) → l < n → act2 l ≡ true → goes_on (fb l) ≡ true → after_all (Zh l) x (Zb l) (Zs l) (pred (m l)) (d l) ≡ Done (f l) (s' l)
      goes l lt a g =
          ap (after_all (Zh l) x (Zb l) (Zs l) (pred (m l))) (d_on l a)
          ∙ body_goes (u l) (Zb l (u l)) (after_all (Zh l) x (Zb l) (Zs l) (pred (m l))) (f l) (s' l) (bodied l lt a) (ap goes_on (sym (fb_on l a)) ∙ g)

      leaves : (l : ℕ) → l < n → act2 l ≡ true → goes_on (fb l) ≡ false → (s' l ≡ d l) × (((fb l ≡ Broke) × (f l ≡ Next)) ⊎ ((fb l ≡ Gone) × (f l ≡ Gone)))
      leaves l lt a g =
          let r = body_leaves (u l) (Zb l (u l)) (after_all (Zh l) x (Zb l) (Zs l) (pred (m l))) (f l) (s' l) (bodied l lt a) (ap goes_on (sym (fb_on l a)) ∙ g) in
          (r.0 ∙ sym (d_on l a), elim r.1 [ inl i ↦ inl (fb_on l a ∙ i.0, i.1) | inr i ↦ inr (fb_on l a ∙ i.0, i.1) ])

      grown_d : (l : ℕ) → l < n → act2 l ≡ true → Grown (d l) (s' l)
      grown_d l lt a =
          elim (bool_cases (goes_on (fb l))) [
            | inl g ↦ grown_from_body (Zh l) x (Zb l) (Zs l) (growh l) (growb l) (grows l) (pred (m l)) (d l) (f l) (s' l) (goes l lt a g)
            | inr g ↦ no_growth (d l) (s' l) (leaves l lt a g).0
          ]

      items_b : Items n b act2 Zb u fb d
      items_b = record {
        on = λ l lt a.
            body_ends (u l) (Zb l (u l)) (after_all (Zh l) x (Zb l) (Zs l) (pred (m l))) (f l) (s' l) (bodied l lt a) ∙ (λ i. Done (sym (fb_on l a) i) (sym (d_on l a) i));
        off = λ l lt a. d_off l a;
        touched = λ l o lt a i. touched l o lt (q.sub l (cond_on l a).0) ((grown_d l lt a).touched o i);
        written = λ l o lt a i. written l o lt (q.sub l (cond_on l a).0) ((grown_d l lt a).written o i);
      }

      ran_b : (t5 : State) × (run_all w n tests B t4 ≡ Ends t5) × After n c.vars c.vals wb b act2 (λ l j. knowns2 l j ≡ true) (λ j. Eb j ≡ true) k (v + 2) (in_round v (e ∷ st)) t4 t5 u d fb
      ran_b = body b act2 knowns2 t4 u d fb before_b items_b

      abbrev t5 : State
      t5 = ran_b.0

      settled : (t6 : State) × (run_all w n tests (settles (place k (v + 2) (in_loop v (e ∷ st)))) t5 ≡ Ends t6) × HasSettled n c.vars k (v + 2) (in_loop v (e ∷ st)) t5 t6
      settled = settle_code w n c.vars tests k (v + 2) (record { kind = In_loop; var = v }) (e ∷ st) t5 loop_stacked

      abbrev t6 : State
      t6 = settled.0

      kept6 : Kept n c.vars k (v + 2) 7 t5 t6
      kept6 = settled.2.kept

      abbrev act3 : ℕ → Bool
      act3 l = act2 l && goes_on (fb l)

      -- a lane that took the round
      took : (l : ℕ) → l < n → act2 l ≡ true → column (in_loop v (e ∷ st)) (row_of t6 l) ≡ settle (tail (after (fb l) (mask Round true ∷ (mask In_loop true ∷ old l))))
      took l lt a = settled.2.masks l lt ∙ ap (λ z. settle (tail z)) (ran_b.2.masks l lt a ∙ ap (after (fb l)) (round_here l lt a))

      took_on : (l : ℕ) → l < n → act2 l ≡ true → goes_on (fb l) ≡ true → column (in_loop v (e ∷ st)) (row_of t6 l) ≡ mask In_loop true ∷ old l
      took_on l lt a g = took l lt a ∙ by (fb l) g
        where
          by : (o : Flow) → goes_on o ≡ true → settle (tail (after o (mask Round true ∷ (mask In_loop true ∷ old l)))) ≡ mask In_loop true ∷ old l
          by Next i = (join l lt (q.sub l (cond_on l a).0)).round
          by Again i = (join l lt (q.sub l (cond_on l a).0)).again
          by Broke i = cc
          by Gone i = cc

      took_off : (l : ℕ) → l < n → act2 l ≡ true → goes_on (fb l) ≡ false → (is_on (t6.vars v l) ≡ false) × Over (f l) (old l) (column (e ∷ st) (row_of t6 l))
      took_off l lt a g =
          let j = join l lt (q.sub l (cond_on l a).0) in
          elim (leaves l lt a g).1 [
            | inl i ↦
                (let r = took l lt a ∙ ap (λ z. settle (tail (after z (mask Round true ∷ (mask In_loop true ∷ old l))))) i.0 ∙ j.broke in
                (ap top_on r, inl (i.1, ap tail r)))
            | inr i ↦
                (let r = took l lt a ∙ ap (λ z. settle (tail (after z (mask Round true ∷ (mask In_loop true ∷ old l))))) i.0 ∙ j.gone before.scoped in
                (ap top_on r, inr (i.1, ap tail r)))
          ]

      -- a lane that didn't
      waits5 : (l : ℕ) → l < n → act2 l ≡ false → (o : ℕ) → c.vars ≤ o → o < v + 1 → t5.vars o l ≡ t2.vars o l
      waits5 l lt a o lo hi = ran_b.2.still l lt a o lo (omega (arith, hi)) ∙ ap (λ (g : ℕ → ℕ). g l) (kept4.vars o (λ i. omega (arith, i, hi)))

      waits6 : (l : ℕ) → l < n → act2 l ≡ false → (o : ℕ) → c.vars ≤ o → o < v + 1 → t6.vars o l ≡ t2.vars o l
      waits6 l lt a o lo hi = settled.2.still l lt (ap is_on (waits5 l lt a v nu_v (omega arith)) ∙ var2 l lt ∙ a) o ∙ waits5 l lt a o lo hi

      var6 : (l : ℕ) → l < n → is_on (t6.vars v l) ≡ act3 l
      var6 l lt =
          elim (bool_cases (act2 l)) [
            | inl a ↦
                elim (bool_cases (goes_on (fb l))) [
                  | inl g ↦ ap top_on (took_on l lt a g) ∙ sym (ap (λ z. z && goes_on (fb l)) a ∙ g)
                  | inr g ↦ (took_off l lt a g).0 ∙ sym (ap (λ z. z && goes_on (fb l)) a ∙ g)
                ]
            | inr a ↦ ap is_on (waits6 l lt a v nu_v (omega arith)) ∙ var2 l lt ∙ a ∙ sym (ap (λ z. z && goes_on (fb l)) a)
          ]

      -- ---- the step

      on3 : (l : ℕ) → act3 l ≡ true → (act2 l ≡ true) × (goes_on (fb l) ≡ true)
      on3 l a = and_parts (act2 l) (goes_on (fb l)) a

      sub3 : (l : ℕ) → act3 l ≡ true → act0 l ≡ true
      sub3 l a = q.sub l (cond_on l (on3 l a).0).0

      abbrev knowns3 : ℕ → Known
      knowns3 l = if act3 l then Eh else knowns l

      k3_on : (l j : ℕ) → act3 l ≡ true → knowns3 l j ≡ true → Eh j ≡ true
      k3_on l j a i = subst (λ z. (if z then Eh else knowns l) j ≡ true) a i

      k3_off : (l j : ℕ) → act3 l ≡ false → knowns3 l j ≡ true → knowns l j ≡ true
      k3_off l j a i = subst (λ z. (if z then Eh else knowns l) j ≡ true) a i

      to_k3 : (l j : ℕ) → knowns l j ≡ true → knowns3 l j ≡ true
      to_k3 l j i =
          elim (bool_cases (act3 l)) [
            | inl a ↦ subst (λ z. (if z then Eh else knowns l) j ≡ true) (sym a) (mono j (before.sub l j i))
            | inr a ↦ subst (λ z. (if z then Eh else knowns l) j ≡ true) (sym a) i
          ]

      low_2 : (l j : ℕ) → knowns2 l j ≡ true → j < k
      low_2 l j i = elim (bool_cases (act2 l)) [ inl a ↦ low_E j (k2_on l j a i) | inr a ↦ low_K l j (k2_off l j a i) ]

      rel6 : (l : ℕ) → l < n → LaneRel b c.vars l (λ j. knowns2 l j ≡ true) t6 (d l)
      rel6 l lt = rel_settled b n c.vars k (v + 2) 7 l (λ j. knowns2 l j ≡ true) t5 t6 (d l) kept6 (low_2 l) (ran_b.2.rel l lt)

      temps6 : (j l : ℕ) → c.vals ≤ j → j < k → t6.vals j l ≡ t0.vals j l
      temps6 j l lo hi = ap (λ (o : ℕ → ℕ). o l) (kept6.vals j hi) ∙ ran_b.2.temps j l lo hi ∙ ap (λ (o : ℕ → ℕ). o l) (kept4.vals j hi) ∙ temps3 j l lo hi

      before_s : Before n c.vars c.vals tests b ids xs act3 (λ l j. knowns3 l j ≡ true) (λ j. Eh j ≡ true) k (v + 2) (in_loop v (e ∷ st)) t6 d
      before_s = record {
        rel = λ l lt.
            (let r = rel6 l lt in
            record {
              vals = λ j i.
                  r.vals j (elim (bool_cases (act3 l)) [
                    | inl a ↦ subst (λ z. (if z then Eh else knowns l) j ≡ true) (sym (on3 l a).0) (k3_on l j a i)
                    | inr a ↦ to_k2 l j (k3_off l j a i)
                  ]);
              vars = r.vars;
              arrays = r.arrays;
              mem = r.mem;
              log = r.log;
            });
        masks = var6;
        exact = λ l lt a.
            (let p = on3 l a in let o = old_on l lt (sub3 l a) in
            ap all_on (took_on l lt p.0 p.1) ∙ all_three (on_at Round (old l)) true (on_at In_scope (old l)) o.0 refl o.1);
        sub = λ l j i. elim (bool_cases (act3 l)) [ inl a ↦ k3_on l j a i | inr a ↦ mono j (before.sub l j (k3_off l j a i)) ];
        all = λ l j lt a i. subst (λ z. (if z then Eh else knowns l) j ≡ true) (sym a) i;
        high = before.high;
        known_low = low;
        stacked = loop_stacked;
        scoped = before.scoped;
        has_ids = λ l lt a. ids_lane ids (xs l) c.vals k l t0 t6 before.below (λ j lo hi. temps6 j l lo hi) (before.has_ids l lt (sub3 l a));
        below = before.below;
        rounds = let o = before.rounds in let i = q.fell in let j = ran_h.2.falls in let r = most in let z = ran_b.2.falls in omega (arith, o, i, j, r, z);
      }

      abbrev y2 : ℕ → Item
      y2 l = if act3 l then item_in (d l) (Zs l (d l)) else d l

      y2_on : (l : ℕ) → act3 l ≡ true → y2 l ≡ item_in (d l) (Zs l (d l))
      y2_on l a = ap (λ z. if z then item_in (d l) (Zs l (d l)) else d l) a

      y2_off : (l : ℕ) → act3 l ≡ false → y2 l ≡ d l
      y2_off l a = ap (λ z. if z then item_in (d l) (Zs l (d l)) else d l) a

      abbrev m2 : ℕ → ℕ
      m2 l = pred (m l)

      goes3 : (l : ℕ) → l < n → act3 l ≡ true → after_all (Zh l) x (Zb l) (Zs l) (pred (m l)) (d l) ≡ Done (f l) (s' l)
      goes3 l lt a = let p = on3 l a in goes l lt p.0 p.1

      runs2 : (l : ℕ) → l < n → act3 l ≡ true → turns_of (m2 l) (Zh l) x (Zb l) (Zs l) (y2 l) ≡ Done (f l) (s' l)
      runs2 l lt a =
          ap (turns_of (m2 l) (Zh l) x (Zb l) (Zs l)) (y2_on l a) ∙ plain_rest (d l) (Zs l (d l)) (turns_of (m2 l) (Zh l) x (Zb l) (Zs l)) (f l) (s' l) (goes3 l lt a)

      items_s : Items n b act3 Zs d (λ l. Next) y2
      items_s = record {
        on = λ l lt a. plain_first (d l) (Zs l (d l)) (turns_of (m2 l) (Zh l) x (Zb l) (Zs l)) (f l) (s' l) (goes3 l lt a) ∙ ap (Done Next) (sym (y2_on l a));
        off = λ l lt a. y2_off l a;
        touched = λ l o lt a i.
            touched l o lt (sub3 l a) ((grown_from_step (Zh l) x (Zb l) (Zs l) (growh l) (growb l) (grows l) (m2 l) (y2 l) (f l) (s' l) (runs2 l lt a)).touched o i);
        written = λ l o lt a i.
            written l o lt (sub3 l a) ((grown_from_step (Zh l) x (Zb l) (Zs l) (growh l) (growb l) (grows l) (m2 l) (y2 l) (f l) (s' l) (runs2 l lt a)).written o i);
      }

      ran_s : (t7 : State) × (run_all w n tests S t6 ≡ Ends t7) × After n c.vars c.vals ws b act3 (λ l j. knowns3 l j ≡ true) (λ j. Es j ≡ true) k (v + 2) (in_loop v (e ∷ st)) t6 t7 d y2 (λ l. Next)
      ran_s = step b act3 knowns3 t6 d y2 (λ l. Next) before_s items_s

      abbrev t7 : State
      t7 = ran_s.0

      turned : run_all w n tests turning_code t3 ≡ Ends t7
      turned =
          run_on w n tests (opens k (v + 1) v) _ t3 t4 t7 open2.1
          (run_on w n tests B _ t4 t5 t7 ran_b.1 (run_on w n tests (settles (place k (v + 2) (in_loop v (e ∷ st)))) S t5 t6 t7 settled.1 ran_s.1))

      steps7 : t7.steps + w2 * total n y2 ≤ t3.steps + w2 * suc (total n u)
      steps7 =
          let a = steps_behind 7 ws (total n d) (total n y2) t5.steps t6.steps t7.steps kept6.steps ran_s.2.falls ran_s.2.steps in
          let o = steps_of_two wb (7 + ws) (total n u) (total n d) (total n y2) t4.steps t5.steps t7.steps ran_s.2.falls ran_b.2.falls ran_b.2.steps a in
          steps_behind 3 (wb + (7 + ws)) (total n u) (total n y2) t3.steps t4.steps t7.steps kept4.steps (let i = ran_s.2.falls in let j = ran_b.2.falls in omega (arith, i, j)) o

      -- a lane that is done by now
      waits7 : (l : ℕ) → l < n → act2 l ≡ false → (o : ℕ) → c.vars ≤ o → o < v + 1 → t7.vars o l ≡ t2.vars o l
      waits7 l lt a o lo hi = ran_s.2.still l lt (ap (λ z. z && goes_on (fb l)) a) o lo (omega (arith, hi)) ∙ waits6 l lt a o lo hi

      column7 : (l : ℕ) → l < n → act2 l ≡ false → column (e ∷ st) (row_of t7 l) ≡ column (e ∷ st) (row_of t2 l)
      column7 l lt a = column_same c.vars v (e ∷ st) (row_of t2 l) (row_of t7 l) before.stacked (λ o lo hi. waits7 l lt a o lo (omega (arith, hi)))

      next : At act3 t7 y2 m2
      next = record {
        sub = sub3;
        rel = λ l lt. (let r = ran_s.2.rel l lt in record { vals = λ j i. r.vals j (to_k3 l j i); vars = r.vars; arrays = r.arrays; mem = r.mem; log = r.log });
        runs = runs2;
        done = λ l lt a.
            y2_off l a ∙ elim (bool_cases (act2 l)) [
              | inl i ↦ sym (leaves l lt i (sym (ap (λ z. z && goes_on (fb l)) i) ∙ a)).0
              | inr i ↦
                  d_off l i ∙ u_off l i ∙ elim (bool_cases (act l)) [
                    | inl j ↦ sym (at_test l lt j (off_act2 l i j)).1
                    | inr j ↦ h_off l j ∙ q.done l lt j
                  ]
            ];
        mask = λ l lt.
            elim (bool_cases (act3 l)) [
              | inl a ↦ ap top_on (ran_s.2.masks l lt a) ∙ var6 l lt
              | inr a ↦ ap is_on (ran_s.2.still l lt a v nu_v (omega arith)) ∙ var6 l lt
            ];
        here = λ l lt a. (let p = on3 l a in ap tail (ran_s.2.masks l lt a ∙ took_on l lt p.0 p.1));
        still = λ l lt a o lo hi.
            (let i = off0 l a in waits7 l lt (ap (λ z. z && is_on ((h l).vals x)) i) o lo (omega (arith, hi)) ∙ still2 l lt i o lo hi ∙ q.still l lt a o lo hi);
        left = λ l lt a i.
            elim (bool_cases (act2 l)) [
              | inl j ↦
                  subst (Over (f l) (old l)) (sym (column_same c.vars v (e ∷ st) (row_of t6 l) (row_of t7 l) before.stacked (λ o lo hi. ran_s.2.still l lt i o lo (omega (arith, hi)))))
                  (took_off l lt j (sym (ap (λ z. z && goes_on (fb l)) j) ∙ i)).1
              | inr j ↦
                  subst (Over (f l) (old l)) (sym (column7 l lt j))
                  (elim (bool_cases (act l)) [
                    | inl o ↦ inl ((at_test l lt o (off_act2 l j o)).0, here2 l lt o)
                    | inr o ↦ subst (Over (f l) (old l)) (sym (column_same c.vars v (e ∷ st) (row_of t l) (row_of t2 l) before.stacked (still2 l lt o))) (q.left l lt a o)
                  ])
            ];
        temps = λ j l lo hi. ran_s.2.temps j l lo hi ∙ temps6 j l lo hi;
        mem = λ a i. ran_s.2.mem a i ∙ ap (λ (o : ℕ → ℕ). o a) kept6.mem ∙ ran_b.2.mem a i ∙ ap (λ (o : ℕ → ℕ). o a) kept4.mem ∙ mem3 a i;
        fell = let o = q.fell in let i = ran_h.2.falls in let j = most in let z = ran_b.2.falls in let r = ran_s.2.falls in omega (arith, o, i, j, z, r);
      }
        where
          off0 : (l : ℕ) → act0 l ≡ false → act l ≡ false
          off0 l a = elim (bool_cases (act l)) [ inl i ↦ absurd (clash (act0 l) a (q.sub l i)) | inr i ↦ i ]

    -- ---- all turns

    pub all_turns : (i : ℕ) (act : ℕ → Bool) (t : State) (y : ℕ → Item) (m : ℕ → ℕ) → At act t y m → total n y < i
        → (u : State) × (rounds n i (run_all w n tests heading) (k + 2) (run_all w n tests turning_code) t ≡ Ends u) × End u × (total n s' ≤ total n y)
        × (u.steps + (w1 + w2) * total n s' ≤ t.steps + (w1 + w2) * suc (total n y))
    all_turns zero act t y m q lt = absurd (omega (arith, lt))
    all_turns (suc i) act t y m q lt =
        elim (bool_cases (any_on n ((t2 act t y m q).vals (k + 2)))) [
          | inr none ↦
              (let same = total_same n (h act t y m q) s' (last act t y m q none) in
              let falls = (ran_h act t y m q).2.falls in (
                t3 act t y m q,
                stops n i (k + 2) (run_all w n tests heading) (run_all w n tests turning_code) t (t2 act t y m q) (headed act t y m q) none,
                ended act t y m q none,
                omega (arith, same, falls),
                subst (λ z. (t3 act t y m q).steps + (w1 + w2) * z ≤ t.steps + (w1 + w2) * suc (total n y)) same
                    (last_turn w1 w2 (total n y) (total n (h act t y m q)) t.steps (t3 act t y m q).steps falls (steps3 act t y m q)),
              ))
          | inl any ↦
              (let fh = (ran_h act t y m q).2.falls in
              let fl = less act t y m q any in
              let fb = (ran_b act t y m q).2.falls in
              let fs = (ran_s act t y m q).2.falls in
              let r = all_turns i (act3 act t y m q) (t7 act t y m q) (y2 act t y m q) (m2 act t y m q) (next act t y m q) (omega (arith, lt, fh, fl, fb, fs)) in
              let f3 = r.3 in (
                r.0,
                goes_round n i (k + 2) (run_all w n tests heading) (run_all w n tests turning_code) t (t2 act t y m q) (t7 act t y m q) r.0 (headed act t y m q) any (turned act t y m q) r.1,
                r.2,
                omega (arith, f3, fh, fl, fb, fs),
                more_turns w1 w2 (total n y) (total n (h act t y m q)) (total n (u act t y m q)) (total n (y2 act t y m q)) (total n s') t.steps (t3 act t y m q).steps (t7 act t y m q).steps r.0.steps fh fl
                    (omega (arith, fb, fs)) (steps3 act t y m q) (steps7 act t y m q) r.4,
              ))
        ]
