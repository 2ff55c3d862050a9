-- What an access under the top mask does: the lanes that are on, one after another.
use Rattle.std.proofs.Common.{◌≡◌, ℕ, zero, suc, ◌<◌, ◌≤◌, inl, inr, Bool, true, false, List, ◌∷◌, refl, sym, ap, ◌∙◌, subst, arith}
use Rattle.std.specs.Prelude.{if◌then◌else◌, nat_lt}
use Rattle.std.proofs.lemmas.Bool.{cases_eq}
use Rattle.item_ir.specs.IrMeaning.{World as ItemWorld, State as Item, Flow, Next}
use Rattle.item_ir.specs.declared.form.Def.TheVariants as d
use Rattle.lane_ir.specs.LaneMeaning.{World, State, Run, Ends, and_then, is_on, each, where_on, starts, defines}
use Rattle.lane_ir.proofs.Steps.{bool_cases, with_at-same, with_at-other}
use Rattle.mask_law.specs.Worlds.{Ids}
use Rattle.mask_law.specs.Stacks.{Entry}
use Rattle.mask_law.specs.Masks.{column, after}
use Rattle.mask_law.specs.Lanes.{Bytes, LaneRel, total, Before, After, row_of, lane_log}
use Rattle.mask_law.proofs.Emitted.{in_lane}
use Rattle.mask_law.proofs.Setting.{total_left}

-- what the access of lane l does, which makes its item x': all other lanes stay as they were
pub record Stepped {n : ℕ} (b : Bytes n) (nu nv l : ℕ) (K E : ℕ → Type 0) (y y' : State) (x' : Item) : Type 0 where
  pub own : LaneRel b nu l K y' x'
  pub more : (j : ℕ) → E j → y'.vals j l ≡ x'.vals j
  pub vals : (j m : ℕ) → (m ≡ l → ⊥) → y'.vals j m ≡ y.vals j m
  pub temps : (j m : ℕ) → nv ≤ j → y'.vals j m ≡ y.vals j m
  pub arrays : (r e m : ℕ) → (m ≡ l → ⊥) → y'.arrays r e m ≡ y.arrays r e m
  pub vars : y'.vars ≡ y.vars
  pub mem : (m a : ℕ) → m < n → (m ≡ l → ⊥) → b.touched m a ≡ true → y'.mem a ≡ y.mem a
  pub kept : (a : ℕ) → b.written l a ≡ false → y'.mem a ≡ y.mem a
  pub log : (m : ℕ) → (m ≡ l → ⊥) → lane_log m y'.log ≡ lane_log m y.log
  pub steps : y'.steps ≡ y.steps

-- the lanes below l are done
record Mid (n nu nv : ℕ) (b : Bytes n) (act : ℕ → Bool) (K : ℕ → ℕ → Type 0) (E : ℕ → Type 0) (t : State) (s s' : ℕ → Item) (l : ℕ) (y : State) : Type 0 where
  gone : (m : ℕ) → m < l → LaneRel b nu m (K m) y (s' m)
  more : (m : ℕ) → m < l → act m ≡ true → (j : ℕ) → E j → y.vals j m ≡ (s' m).vals j
  waits : (m : ℕ) → l ≤ m → m < n → LaneRel b nu m (K m) y (s m)
  temps : (j m : ℕ) → nv ≤ j → y.vals j m ≡ t.vals j m
  vars : y.vars ≡ t.vars
  mem : (a : ℕ) → ((m : ℕ) → m < n → b.written m a ≡ false) → y.mem a ≡ t.mem a
  steps : y.steps ≡ t.steps

moved : {n : ℕ} (b : Bytes n) (nu nv l m : ℕ) (Kl K E : ℕ → Type 0) (y y' : State) (x x' : Item) → Stepped b nu nv l Kl E y y' x' → m < n → (m ≡ l → ⊥) → LaneRel b nu m K y x → LaneRel b nu m K y' x
moved b nu nv l m Kl K E y y' x x' q lt ne r =
    record {
      vals = λ j d. q.vals j m ne ∙ r.vals j d;
      vars = λ u c. ap (λ (g : ℕ → ℕ → ℕ). g u m) q.vars ∙ r.vars u c;
      arrays = λ i e. q.arrays i e m ne ∙ r.arrays i e;
      mem = λ a c. q.mem m a lt ne c ∙ r.mem a c;
      log = q.log m ne ∙ r.log;
    }

each_goes : (n : ℕ) (g : ℕ → State → Run) (P : ℕ → State → Type 0) (t : State) → P zero t
    → ((l : ℕ) → l < n → (y : State) → P l y → (y' : State) × (g l y ≡ Ends y') × P (suc l) y')
    → (t' : State) × (each n g t ≡ Ends t') × P n t'
each_goes zero g P t p h = (t, refl, p)
each_goes (suc n) g P t p h =
    let r = each_goes n g P t p (λ l lt y q. h l (omega (arith, lt)) y q) in
    let z = h n (omega arith) r.0 r.2 in
    (z.0, ap (λ (o : Run). and_then o (g n)) r.1 ∙ z.1, z.2)

is_run : (x : ℕ) (f : State → Run) (y : State) → is_on x ≡ true → where_on x f y ≡ f y
is_run zero f y e = cc
is_run (suc x) f y e = refl

is_skipped : (x : ℕ) (f : State → Run) (y : State) → is_on x ≡ false → where_on x f y ≡ Ends y
is_skipped zero f y e = refl
is_skipped (suc x) f y e = cc

module _ (n nu nv : ℕ) (b : Bytes n) (act : ℕ → Bool) (K : ℕ → ℕ → Type 0) (E : ℕ → Type 0) (t : State) (s s' : ℕ → Item) where
  mid_on : (l : ℕ) (y y' : State) → l < n → Mid n nu nv b act K E t s s' l y → Stepped b nu nv l (K l) E y y' (s' l) → Mid n nu nv b act K E t s s' (suc l) y'
  mid_on l y y' lt p q =
      record {
        gone = λ m c.
            elim (cases_eq m l) [
              | inl i ↦ subst (λ z. LaneRel b nu z (K z) y' (s' z)) (sym i) q.own
              | inr ne ↦ moved b nu nv l m (K l) (K m) E y y' (s' m) (s' l) q (omega (arith, c, lt)) ne (p.gone m (omega (arith, c, ne)))
            ];
        more = λ m c a j h.
            elim (cases_eq m l) [
              | inl i ↦ subst (λ z. y'.vals j z ≡ (s' z).vals j) (sym i) (q.more j h)
              | inr ne ↦ q.vals j m ne ∙ p.more m (omega (arith, c, ne)) a j h
            ];
        waits = λ m c d. moved b nu nv l m (K l) (K m) E y y' (s m) (s' l) q d (λ i. omega (arith, i, c)) (p.waits m (omega (arith, c)) d);
        temps = λ j m c. q.temps j m c ∙ p.temps j m c;
        vars = q.vars ∙ p.vars;
        mem = λ a h. q.kept a (h l lt) ∙ p.mem a h;
        steps = q.steps ∙ p.steps;
      }

  mid_off : (l : ℕ) (y : State) → l < n → act l ≡ false → s' l ≡ s l → Mid n nu nv b act K E t s s' l y → Mid n nu nv b act K E t s s' (suc l) y
  mid_off l y lt off same p =
      record {
        gone = λ m c.
            elim (cases_eq m l) [
              | inl i ↦ subst (λ z. LaneRel b nu z (K z) y (s' z)) (sym i) (subst (LaneRel b nu l (K l) y) (sym same) (p.waits l (omega arith) lt))
              | inr ne ↦ p.gone m (omega (arith, c, ne))
            ];
        more = λ m c a j h.
            elim (cases_eq m l) [
              | inl i ↦ absurd (clash (act l) off (ap act (sym i) ∙ a))
              | inr ne ↦ p.more m (omega (arith, c, ne)) a j h
            ];
        waits = λ m c d. p.waits m (omega (arith, c)) d;
        temps = p.temps;
        vars = p.vars;
        mem = p.mem;
        steps = p.steps;
      }
    where
      clash : (o : Bool) → o ≡ false → o ≡ true → ⊥
      clash true h g = cc
      clash false h g = cc

-- all lanes, where the access in lane l is g l
pub accessed : (w : World) (n nu nv tests many : ℕ) (b : Bytes n) (ids : Ids) (xs : ℕ → ItemWorld) (act : ℕ → Bool) (K : ℕ → ℕ → Type 0) (D E : ℕ → Type 0)
    (k v : ℕ) (e : Entry) (st : List Entry) (t : State) (s s' : ℕ → Item) (f : ℕ → Flow) (g : ℕ → State → Run)
    → Before n nu nv tests b ids xs act K D k v (e ∷ st) t s
    → ((l : ℕ) → l < n → act l ≡ false → s' l ≡ s l)
    → ((l : ℕ) → l < n → act l ≡ true → (f l ≡ Next) × ((s' l).left ≡ (s l).left))
    → ((l : ℕ) → l < n → act l ≡ true → (y : State) → LaneRel b nu l (K l) y (s l) → (y' : State) × (g l y ≡ Ends y') × Stepped b nu nv l (K l) E y y' (s' l))
    → (t' : State) × (each n (λ l. where_on ((defines w n k (d.Get e.var) t).vals k l) (g l)) (starts many (defines w n k (d.Get e.var) t)) ≡ Ends t')
    × After n nu nv 1 b act K E k v (e ∷ st) t t' s s' f
accessed w n nu nv tests many b ids xs act K D E k v e st t s s' f g before off ran step =
    let t1 : State = defines w n k (d.Get e.var) t in
    let t2 : State = starts many t1 in
    let A : ℕ → ℕ = λ l. if nat_lt l n then t.vars e.var l else 0 in
    let high : nv ≤ k = before.high in
    let mask : (l : ℕ) → l < n → is_on (t1.vals k l) ≡ act l = λ l lt.
    (ap is_on (ap (λ (o : ℕ → ℕ). o l) (with_at-same t.vals k A) ∙ in_lane l n (t.vars e.var l) lt) ∙ before.masks l lt) in
    let other : (j l : ℕ) → (j ≡ k → ⊥) → t1.vals j l ≡ t.vals j l = λ j l ne. ap (λ (o : ℕ → ℕ). o l) (with_at-other t.vals k A j ne) in
    let first : Mid n nu nv b act K E t2 s s' zero t2 = record {
      gone = λ m c. absurd (omega (arith, c));
      more = λ m c a j h. absurd (omega (arith, c));
      waits = λ m c lt.
          (let old = before.rel m lt in
          record {
            vals = λ j h. other j m (λ q. let low = before.known_low j (before.sub m j h) in omega (arith, q, low, high)) ∙ old.vals j h;
            vars = old.vars;
            arrays = old.arrays;
            mem = old.mem;
            log = old.log;
          });
      temps = λ j m c. refl;
      vars = refl;
      mem = λ a h. refl;
      steps = refl;
    } in
    let r = each_goes n (λ l. where_on (t1.vals k l) (g l)) (Mid n nu nv b act K E t2 s s') t2 first (λ l lt y p.
    elim (bool_cases (act l)) [
      | inl a ↦ (let z = step l lt a y (p.waits l (omega arith) lt) in
          (z.0, is_run (t1.vals k l) (g l) y (mask l lt ∙ a) ∙ z.1, mid_on n nu nv b act K E t2 s s' l y z.0 lt p z.2))
      | inr a ↦ (y, is_skipped (t1.vals k l) (g l) y (mask l lt ∙ a), mid_off n nu nv b act K E t2 s s' l y lt a (off l lt a) p)
    ]) in
    let t' : State = r.0 in
    let q : Mid n nu nv b act K E t2 s s' n t' = r.2 in
    let lefts : (l : ℕ) → l < n → (s' l).left ≡ (s l).left = λ l lt.
    (elim (bool_cases (act l)) [ inl a ↦ (ran l lt a).1 | inr a ↦ ap (λ (y : Item). y.left) (off l lt a) ]) in
    let tot : total n s' ≡ total n s = total_left n s s' lefts in (
      t',
      r.1,
      record {
        rel = λ l lt. q.gone l lt;
        more = λ l lt a p j h. q.more l lt a j h;
        temps = λ j l lo hi. q.temps j l lo ∙ other j l (λ i. omega (arith, i, hi));
        still = λ l lt a u lo hi. ap (λ (o : ℕ → ℕ → ℕ). o u l) q.vars;
        masks = λ l lt a. ap (λ (o : ℕ → ℕ → ℕ). column (e ∷ st) (λ u. o u l)) q.vars ∙ sym (ap (λ z. after z (column (e ∷ st) (row_of t l))) (ran l lt a).0);
        mem = λ a h. q.mem a h;
        falls = let i = tot in omega (arith, i);
        steps = let i = tot in let o = q.steps in omega (arith, i, o);
      },
    )
