-- A scope: its mask begins as the top one's.
use Rattle.std.proofs.Common.{◌≡◌, ℕ, suc, ◌+◌, ◌*◌, ◌<◌, ◌≤◌, Bool, true, false, List, ◌∷◌, ◌++◌, refl, sym, ap, ◌∙◌, arith}
use Rattle.std.specs.Prelude.{if◌then◌else◌}
use Rattle.item_ir.specs.Valid.{Counts, Known}
use Rattle.item_ir.specs.IrMeaning.{World as ItemWorld, State as Item, Run as Ran, Ends as Done, Stops, Spent, Flow, Next, Broke, Again, Gone, left_scope}
use Rattle.lane_ir.specs.LaneMeaning.{World, State, Ends, is_on, run_all}
use Rattle.lane_ir.specs.declared.form.LaneStmt.{LaneStmt}
use Rattle.lane_ir.proofs.Steps.{run_on}
use Rattle.mask_flow.specs.Masked.{opens}
use Rattle.mask_law.specs.Worlds.{Ids}
use Rattle.mask_law.specs.Stacks.{Entry, In_scope, top, in_scope}
use Rattle.mask_law.specs.Masks.{column, top_on, all_on, after, flow_has}
use Rattle.mask_law.specs.Joins.{tail, mask}
use Rattle.mask_law.specs.Emitted.{OnlyVar, HasOpened}
use Rattle.mask_law.specs.Lanes.{Bytes, LaneRel, total, Before, Items, After, row_of, lane_log}
use Rattle.mask_law.proofs.Joins.{masks_join}
use Rattle.mask_law.proofs.Moves.{ids_kept}
use Rattle.mask_law.proofs.Opened.{open_code}
use Rattle.mask_law.proofs.Sequence.{flow_in, Keeps}

-- ---- what stays where only one variable changes

pub rel_kept : {n : ℕ} (b : Bytes n) (nu k v ops l : ℕ) (K : ℕ → Type 0) (t t' : State) (x : Item) → OnlyVar k v ops t t' → nu ≤ v → ((j : ℕ) → K j → j < k) → LaneRel b nu l K t x → LaneRel b nu l K t' x
rel_kept b nu k v ops l K t t' x q high low old =
    record {
      vals = λ j d. ap (λ (g : ℕ → ℕ). g l) (q.vals j (low j d)) ∙ old.vals j d;
      vars = λ u c. ap (λ (g : ℕ → ℕ). g l) (q.vars u (λ e. omega (arith, e, c, high))) ∙ old.vars u c;
      arrays = λ r e. ap (λ (g : ℕ → ℕ → ℕ → ℕ). g r e l) q.arrays ∙ old.arrays r e;
      mem = λ a c. ap (λ (g : ℕ → ℕ). g a) q.mem ∙ old.mem a c;
      log = ap (lane_log l) q.log ∙ old.log;
    }

pub steps_behind : (m w a c x y z : ℕ) → y ≡ x + m → c ≤ a → z + w * c ≤ y + w * suc a → z + (m + w) * c ≤ x + (m + w) * suc a
steps_behind m w a c x y z e h i = grind (arith, e, h, i)

-- ---- how a scope ends

scope_ends : (r : Ran) (f : Flow) (y : Item) → left_scope r ≡ Done f y → r ≡ Done (flow_in r) y
scope_ends (Done Next s) f y h = let e : s ≡ y = cc in ap (Done Next) e
scope_ends (Done Broke s) f y h = let e : s ≡ y = cc in ap (Done Broke) e
scope_ends (Done Again s) f y h = let e : s ≡ y = cc in ap (Done Again) e
scope_ends (Done Gone s) f y h = let e : s ≡ y = cc in ap (Done Gone) e
scope_ends Stops f y h = cc
scope_ends Spent f y h = cc

-- where no loop around it is left, it goes on
scope_goes : (v : ℕ) (st : List Entry) (r : Ran) (f : Flow) (y : Item) → left_scope r ≡ Done f y → flow_has (flow_in r) (in_scope v st) ≡ true → f ≡ Next
scope_goes v st (Done Next s) f y h q = cc
scope_goes v st (Done Broke s) f y h q = absurd (let no : false ≡ true = q in cc)
scope_goes v st (Done Again s) f y h q = absurd (let no : false ≡ true = q in cc)
scope_goes v st (Done Gone s) f y h q = cc
scope_goes v st Stops f y h q = cc
scope_goes v st Spent f y h q = cc

module _ (w : World) (xs : ℕ → ItemWorld) (ids : Ids) (n tests : ℕ) (c : Counts) (weight : ℕ) (Z : ℕ → Item → Ran) (known E : Known) (k v : ℕ) (e : Entry) (st : List Entry) (code : List LaneStmt)
    (flows : (l : ℕ) (x : Item) (f : Flow) (y : Item) → Z l x ≡ Done f y → flow_has f (in_scope v (e ∷ st)) ≡ true)
    (inner : Keeps w xs ids n tests c weight Z known E k (v + 1) (in_scope v (e ∷ st)) code) where
  module _ (b : Bytes n) (act : ℕ → Bool) (knowns : ℕ → Known) (t : State) (s s' : ℕ → Item) (f : ℕ → Flow)
      (before : Before n c.vars c.vals tests b ids xs act (λ l j. knowns l j ≡ true) (λ j. known j ≡ true) k v (e ∷ st) t s) (items : Items n b act (λ l x. left_scope (Z l x)) s f s') where
    opened : (t1 : State) × (run_all w n tests (opens k v (top (e ∷ st))) t ≡ Ends t1) × HasOpened n k v (e ∷ st) t t1
    opened = open_code w n c.vars tests k v e st t before.stacked

    abbrev t1 : State
    t1 = opened.0

    kept : OnlyVar k v 3 t t1
    kept = opened.2.kept

    nu_v : c.vars ≤ v
    nu_v = let h = before.stacked in let a = h.0 in let d = h.1 in omega (arith, a, d)

    here : (l : ℕ) → l < n → column (in_scope v (e ∷ st)) (row_of t1 l) ≡ mask In_scope (is_on (t.vars e.var l)) ∷ column (e ∷ st) (row_of t l)
    here l lt = opened.2.masks In_scope l lt

    abbrev g : ℕ → Flow
    g l = if act l then flow_in (Z l (s l)) else Next

    g_on : (l : ℕ) → act l ≡ true → g l ≡ flow_in (Z l (s l))
    g_on l a = ap (λ z. if z then flow_in (Z l (s l)) else Next) a

    before1 : Before n c.vars c.vals tests b ids xs act (λ l j. knowns l j ≡ true) (λ j. known j ≡ true) k (v + 1) (in_scope v (e ∷ st)) t1 s
    before1 = record {
      rel = λ l lt. rel_kept b c.vars k v 3 l (λ j. knowns l j ≡ true) t t1 (s l) kept nu_v (λ j d. let p = before.known_low j (before.sub l j d) in let q = before.high in omega (arith, p, q)) (before.rel l lt);
      masks = λ l lt. ap top_on (here l lt) ∙ before.masks l lt;
      exact = λ l lt a. ap all_on (here l lt) ∙ before.masks l lt ∙ a;
      sub = before.sub;
      all = before.all;
      high = before.high;
      known_low = before.known_low;
      stacked = (nu_v, omega arith, before.stacked);
      scoped = refl;
      has_ids = λ l lt a. ids_kept ids (xs l) c.vals k l t t1 before.below kept.vals (before.has_ids l lt a);
      below = before.below;
      rounds = before.rounds;
    }

    items1 : Items n b act Z s g s'
    items1 = record {
      on = λ l lt a. scope_ends (Z l (s l)) (f l) (s' l) (items.on l lt a) ∙ ap (λ z. Done z (s' l)) (sym (g_on l a));
      off = items.off;
      touched = items.touched;
      written = items.written;
    }

    inside : (t2 : State) × (run_all w n tests code t1 ≡ Ends t2) × After n c.vars c.vals weight b act (λ l j. knowns l j ≡ true) (λ j. E j ≡ true) k (v + 1) (in_scope v (e ∷ st)) t1 t2 s s' g
    inside = inner b act knowns t1 s s' g before1 items1

    goes : (l : ℕ) → l < n → act l ≡ true → f l ≡ Next
    goes l lt a =
        scope_goes v (e ∷ st) (Z l (s l)) (f l) (s' l) (items.on l lt a) (flows l (s l) (flow_in (Z l (s l))) (s' l) (scope_ends (Z l (s l)) (f l) (s' l) (items.on l lt a)))

    whole : After n c.vars c.vals (3 + weight) b act (λ l j. knowns l j ≡ true) (λ j. known j ≡ true) k v (e ∷ st) t inside.0 s s' f
    whole = record {
      rel = λ l lt. inside.2.rel l lt;
      more = λ l lt a q j d. (inside.2.rel l lt).vals j (before.all l j lt a d);
      temps = λ j l lo hi. inside.2.temps j l lo hi ∙ ap (λ (o : ℕ → ℕ). o l) (kept.vals j hi);
      still = λ l lt a u lo hi. inside.2.still l lt a u lo (omega (arith, hi)) ∙ ap (λ (o : ℕ → ℕ). o l) (kept.vars u (λ q. omega (arith, q, hi)));
      masks = λ l lt a.
          ap tail (inside.2.masks l lt a ∙ ap (after (g l)) (here l lt))
          ∙ (masks_join (e ∷ st) (row_of t l) (before.masks l lt ∙ a) (before.exact l lt a)).scope (g l) (is_on (t.vars e.var l))
          ∙ sym (ap (λ z. after z (column (e ∷ st) (row_of t l))) (goes l lt a));
      mem = λ a h. inside.2.mem a h ∙ ap (λ (o : ℕ → ℕ). o a) kept.mem;
      falls = inside.2.falls;
      steps = steps_behind 3 weight (total n s) (total n s') t.steps t1.steps inside.0.steps kept.steps inside.2.falls inside.2.steps;
    }

  pub scope_keeps : Keeps w xs ids n tests c (3 + weight) (λ l x. left_scope (Z l x)) known known k v (e ∷ st) (opens k v (top (e ∷ st)) ++ code)
  scope_keeps b act knowns t s s' f before items = (
    (inside b act knowns t s s' f before items).0,
    run_on w n tests (opens k v (top (e ∷ st))) code t (t1 b act knowns t s s' f before items) (inside b act knowns t s s' f before items).0 (opened b act knowns t s s' f before items).1 (inside b act knowns t s s' f before items).1,
    whole b act knowns t s s' f before items,
  )
