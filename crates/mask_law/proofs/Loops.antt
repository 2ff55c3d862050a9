-- A loop, with what opens its mask and what settles the top one after it.
use Rattle.std.proofs.Common.{◌≡◌, ℕ, suc, ◌+◌, ◌*◌, ◌<◌, ◌≤◌, inl, inr, Bool, true, List, ◌∷◌, ◌++◌, sym, ap, ◌∙◌, subst, arith}
use Rattle.item_ir.specs.Valid.{Counts, Known}
use Rattle.item_ir.specs.IrMeaning.{World as ItemWorld, State as Item, Run as Ran, Flow, rounds as turns_of}
use Rattle.lane_ir.specs.LaneMeaning.{World, State, Run, Ends, and_then, is_on, rounds, run_all}
use Rattle.lane_ir.specs.declared.form.LaneStmt.{LaneStmt}
use Rattle.lane_ir.specs.declared.form.LaneStmt.TheVariants.{WhileAny}
use Rattle.lane_ir.proofs.Steps.{run_on, run-WhileAny}
use Rattle.mask_flow.specs.declared.place.Place.{Place}
use Rattle.mask_flow.specs.Masked.{opens, tests as tests_code, settles, loops}
use Rattle.mask_law.specs.Worlds.{Ids}
use Rattle.mask_law.specs.Stacks.{In_loop, In_scope, Entry, top, in_loop, in_round, place, val}
use Rattle.mask_law.specs.Masks.{Mask, column, top_on, settle, after, has}
use Rattle.mask_law.specs.Joins.{tail, Joins}
use Rattle.mask_law.specs.Emitted.{OnlyVar, HasOpened, HasSettled}
use Rattle.mask_law.specs.Lanes.{Bytes, LaneRel, total, Before, Items, After, row_of}
use Rattle.mask_law.proofs.Branched.{rel_settled, steps_then}
use Rattle.mask_law.proofs.Emitted.{settle_code}
use Rattle.mask_law.proofs.Growth.{Grows}
use Rattle.mask_law.proofs.Joins.{masks_join}
use Rattle.mask_law.proofs.Looped.{Over, At, End, all_turns}
use Rattle.mask_law.proofs.Opened.{open_code}
use Rattle.mask_law.proofs.PlacesWithin.{turning_at}
use Rattle.mask_law.proofs.Scoped.{rel_kept, steps_behind}
use Rattle.mask_law.proofs.Sequence.{clash, Keeps}

-- the top mask settles to what the loop's end makes of it
over_settles : (st : List Entry) (words : ℕ → ℕ) (f : Flow) (now : List Mask) → Joins st words → has In_scope st ≡ true → Over f (column st words) now → settle now ≡ after f (column st words)
over_settles st words f now j scoped (inl o) = ap settle o.1 ∙ j.loop ∙ sym (ap (λ z. after z (column st words)) o.0)
over_settles st words f now j scoped (inr o) = ap settle o.1 ∙ j.left scoped ∙ sym (ap (λ z. after z (column st words)) o.0)

grouped : (a b c : ℕ) → a + b + c ≡ a + (b + c)
grouped a b c = omega arith

module _ (w : World) (xs : ℕ → ItemWorld) (ids : Ids) (n tests : ℕ) (c : Counts) (wh wb ws : ℕ) (Zh Zb Zs : ℕ → Item → Ran) (known Eh Eb Es : Known) (x k v : ℕ) (e : Entry) (st : List Entry) (H B S : List LaneStmt)
    (mono : (j : ℕ) → known j ≡ true → Eh j ≡ true) (low : (j : ℕ) → Eh j ≡ true → j < c.vals) (at : Eh x ≡ true)
    (growh : (l : ℕ) (y : Item) → Grows y (Zh l y)) (growb : (l : ℕ) (y : Item) → Grows y (Zb l y)) (grows : (l : ℕ) (y : Item) → Grows y (Zs l y))
    (head : Keeps w xs ids n tests c wh Zh known Eh k (v + 2) (in_loop v (e ∷ st)) H)
    (body : Keeps w xs ids n tests c wb Zb Eh Eb k (v + 2) (in_round v (e ∷ st)) B)
    (step : Keeps w xs ids n tests c ws Zs Eh Es k (v + 2) (in_loop v (e ∷ st)) S) where
  abbrev Z : ℕ → Item → Ran
  Z l y = turns_of (suc y.left) (Zh l) x (Zb l) (Zs l) y

  abbrev heading : List LaneStmt
  heading = H ++ tests_code (place k v (e ∷ st)) (val x)

  abbrev turned : Place → List LaneStmt
  turned p = opens k (v + 1) v ++ (B ++ (settles p ++ S))

  abbrev w1 : ℕ
  w1 = wh + 5

  abbrev w2 : ℕ
  w2 = 3 + (wb + (7 + ws))

  module _ (b : Bytes n) (act : ℕ → Bool) (knowns : ℕ → Known) (t : State) (s s' : ℕ → Item) (f : ℕ → Flow)
      (before : Before n c.vars c.vals tests b ids xs act (λ l j. knowns l j ≡ true) (λ j. known j ≡ true) k v (e ∷ st) t s) (items : Items n b act Z s f s') where
    low_K : (l j : ℕ) → knowns l j ≡ true → j < k
    low_K l j d = let a = before.known_low j (before.sub l j d) in let h = before.high in omega (arith, a, h)

    nu_v : c.vars ≤ v
    nu_v = let h = before.stacked in let a = h.0 in let d = h.1 in omega (arith, a, d)

    opened : (t1 : State) × (run_all w n tests (opens k v (top (e ∷ st))) t ≡ Ends t1) × HasOpened n k v (e ∷ st) t t1
    opened = open_code w n c.vars tests k v e st t before.stacked

    abbrev t1 : State
    t1 = opened.0

    kept : OnlyVar k v 3 t t1
    kept = opened.2.kept

    abbrev AtHere : (ℕ → Bool) → State → (ℕ → Item) → (ℕ → ℕ) → Type 0
    AtHere = At w xs ids n tests c wh wb ws Zh Zb Zs known Eh Eb Es x k v e st H B S mono low at growh growb grows head body step b act knowns t s s' f before items.touched items.written

    first : AtHere act t1 s (λ l. suc (s l).left)
    first = record {
      sub = λ l a. a;
      rel = λ l lt. rel_kept b c.vars k v 3 l (λ j. knowns l j ≡ true) t t1 (s l) kept nu_v (low_K l) (before.rel l lt);
      runs = items.on;
      done = λ l lt a. sym (items.off l lt a);
      mask = λ l lt. ap top_on (opened.2.masks In_loop l lt) ∙ before.masks l lt;
      here = λ l lt a. ap tail (opened.2.masks In_loop l lt);
      still = λ l lt a u lo hi. ap (λ (o : ℕ → ℕ). o l) (kept.vars u (λ i. omega (arith, i, hi)));
      left = λ l lt a o. absurd (clash (act l) o a);
      temps = λ j l lo hi. ap (λ (o : ℕ → ℕ). o l) (kept.vals j hi);
      mem = λ a i. ap (λ (o : ℕ → ℕ). o a) kept.mem;
      fell = omega arith;
    }

    looped : (u : State) × (rounds n tests (run_all w n tests heading) (k + 2) (run_all w n tests (turned (place k (v + 2) (in_loop v (e ∷ st))))) t1 ≡ Ends u)
        × End w xs ids n tests c wh wb ws Zh Zb Zs known Eh Eb Es x k v e st H B S mono low at growh growb grows head body step b act knowns t s s' f before items.touched items.written u
        × (total n s' ≤ total n s) × (u.steps + (w1 + w2) * total n s' ≤ t1.steps + (w1 + w2) * suc (total n s))
    looped =
        all_turns w xs ids n tests c wh wb ws Zh Zb Zs known Eh Eb Es x k v e st H B S mono low at growh growb grows head body step b act knowns t s s' f before items.touched items.written tests act t1 s (λ l. suc (s l).left) first
        before.rounds

    abbrev u : State
    u = looped.0

    settled : (t2 : State) × (run_all w n tests (settles (place k v (e ∷ st))) u ≡ Ends t2) × HasSettled n c.vars k v (e ∷ st) u t2
    settled = settle_code w n c.vars tests k v e st u before.stacked

    whole : After n c.vars c.vals (3 + (w1 + (w2 + 7))) b act (λ l j. knowns l j ≡ true) (λ j. known j ≡ true) k v (e ∷ st) t settled.0 s s' f
    whole =
        let q = looped.2 in
        let o = settled.2.kept in
        let rels : (l : ℕ) → l < n → LaneRel b c.vars l (λ j. knowns l j ≡ true) settled.0 (s' l) = λ l lt. rel_settled b n c.vars k v 7 l (λ j. knowns l j ≡ true) u settled.0 (s' l) o (low_K l) (q.rel l lt) in
        record {
          rel = rels;
          more = λ l lt a z j d. (rels l lt).vals j (before.all l j lt a d);
          temps = λ j l lo hi. ap (λ (g : ℕ → ℕ). g l) (o.vals j hi) ∙ q.temps j l lo hi;
          still = λ l lt a y lo hi. settled.2.still l lt (ap is_on (q.still l lt a e.var before.stacked.0 before.stacked.1) ∙ before.masks l lt ∙ a) y ∙ q.still l lt a y lo hi;
          masks = λ l lt a.
              settled.2.masks l lt
              ∙ over_settles (e ∷ st) (row_of t l) (f l) (column (e ∷ st) (row_of u l)) (masks_join (e ∷ st) (row_of t l) (before.masks l lt ∙ a) (before.exact l lt a)) before.scoped (q.left l lt a);
          mem = λ a i. ap (λ (g : ℕ → ℕ). g a) o.mem ∙ q.mem a i;
          falls = looped.3;
          steps =
              steps_behind 3 (w1 + (w2 + 7)) (total n s) (total n s') t.steps t1.steps settled.0.steps kept.steps looped.3
              (subst (λ z. settled.0.steps + z * total n s' ≤ t1.steps + z * suc (total n s)) (grouped w1 w2 7)
              (steps_then (w1 + w2) 7 (total n s) (total n s') t1.steps u.steps settled.0.steps o.steps looped.3 looped.4));
        }

    runs : run_all w n tests (loops (place k v (e ∷ st)) (val x) H B S) t ≡ Ends settled.0
    runs =
        ap (λ p. run_all w n tests (opens k v (top (e ∷ st)) ++ (WhileAny heading (val (k + 2)) (turned p) ∷ settles (place k v (e ∷ st)))) t) (turning_at k v (e ∷ st) before.scoped)
        ∙ run_on w n tests (opens k v (top (e ∷ st))) _ t t1 settled.0 opened.1
        (ap (λ (r : Run). and_then r (run_all w n tests (settles (place k v (e ∷ st)))))
        (run-WhileAny w n tests heading (val (k + 2)) (turned (place k (v + 2) (in_loop v (e ∷ st)))) t1 ∙ looped.1) ∙ settled.1)

  pub loop_keeps : Keeps w xs ids n tests c (3 + (w1 + (w2 + 7))) Z known known k v (e ∷ st) (loops (place k v (e ∷ st)) (val x) H B S)
  loop_keeps b act knowns t s s' f before items =
      ((settled b act knowns t s s' f before items).0, runs b act knowns t s s' f before items, whole b act knowns t s s' f before items)
