-- Values that a statement needs for a moment change nothing that its item sees.
use Rattle.std.proofs.Common.{◌≡◌, ℕ, suc, ◌+◌, ◌*◌, ◌<◌, ◌≤◌, Bool, List, ap, ◌∙◌, arith}
use Rattle.item_ir.specs.IrMeaning.{World as ItemWorld, State as Item, Flow}
use Rattle.lane_ir.specs.LaneMeaning.{State}
use Rattle.mask_law.specs.Stacks.{Entry}
use Rattle.mask_law.specs.Masks.{column, top_on, all_on, after}
use Rattle.mask_law.specs.Worlds.{Ids, HasIds, BelowIds}
use Rattle.mask_law.specs.Lanes.{Bytes, total, Before, After, lane_log}

-- only values from k on may have changed
pub record OnlyTemps (k : ℕ) (t t' : State) : Type 0 where
  pub vals : (j : ℕ) → j < k → t'.vals j ≡ t.vals j
  pub vars : t'.vars ≡ t.vars
  pub arrays : t'.arrays ≡ t.arrays
  pub mem : t'.mem ≡ t.mem
  pub log : t'.log ≡ t.log

pub ids_kept : (ids : Ids) (x : ItemWorld) (nv k l : ℕ) (t t' : State) → BelowIds ids.vals nv k → ((j : ℕ) → j < k → t'.vals j ≡ t.vals j) → HasIds ids x t l → HasIds ids x t' l
ids_kept ids x nv k l t t' below vals h =
    record {
      global = λ on d lt. ap (λ (g : ℕ → ℕ). g l) (vals _ (below d (omega (arith, lt))).1) ∙ h.global on d lt;
      local = λ on d lt. ap (λ (g : ℕ → ℕ). g l) (vals _ (below (3 + d) (omega (arith, lt))).1) ∙ h.local on d lt;
      group = λ on d lt. ap (λ (g : ℕ → ℕ). g l) (vals _ (below (6 + d) (omega (arith, lt))).1) ∙ h.group on d lt;
    }

pub before_kept : (n nu nv i : ℕ) (b : Bytes n) (ids : Ids) (xs : ℕ → ItemWorld) (act : ℕ → Bool) (K : ℕ → ℕ → Type 0) (D : ℕ → Type 0) (k v : ℕ) (st : List Entry) (t t' : State) (s : ℕ → Item)
    → OnlyTemps k t t' → Before n nu nv i b ids xs act K D k v st t s → Before n nu nv i b ids xs act K D k v st t' s
before_kept n nu nv i b ids xs act K D k v st t t' s q before =
    record {
      rel = λ l lt.
          (let old = before.rel l lt in
          record {
            vals = λ j d. ap (λ (g : ℕ → ℕ). g l) (q.vals j (let a = before.known_low j (before.sub l j d) in let c = before.high in omega (arith, a, c))) ∙ old.vals j d;
            vars = λ u c. ap (λ (g : ℕ → ℕ → ℕ). g u l) q.vars ∙ old.vars u c;
            arrays = λ x y. ap (λ (g : ℕ → ℕ → ℕ → ℕ). g x y l) q.arrays ∙ old.arrays x y;
            mem = λ a c. ap (λ (g : ℕ → ℕ). g a) q.mem ∙ old.mem a c;
            log = ap (lane_log l) q.log ∙ old.log;
          });
      masks = λ l lt. ap (λ (g : ℕ → ℕ → ℕ). top_on (column st (λ u. g u l))) q.vars ∙ before.masks l lt;
      exact = λ l lt a. ap (λ (g : ℕ → ℕ → ℕ). all_on (column st (λ u. g u l))) q.vars ∙ before.exact l lt a;
      sub = before.sub;
      all = before.all;
      high = before.high;
      known_low = before.known_low;
      stacked = before.stacked;
      scoped = before.scoped;
      has_ids = λ l lt a. ids_kept ids (xs l) nv k l t t' before.below q.vals (before.has_ids l lt a);
      below = before.below;
      rounds = before.rounds;
    }

-- what comes after such values, counted with them
pub after_more : (n nu nv weight more : ℕ) (b : Bytes n) (act : ℕ → Bool) (K : ℕ → ℕ → Type 0) (E : ℕ → Type 0) (k v : ℕ) (st : List Entry) (t u t' : State) (s s' : ℕ → Item) (f : ℕ → Flow)
    → OnlyTemps k t u → u.steps ≤ t.steps + more → After n nu nv weight b act K E k v st u t' s s' f → After n nu nv (weight + more) b act K E k v st t t' s s' f
after_more n nu nv weight more b act K E k v st t u t' s s' f q few z =
    record {
      rel = z.rel;
      more = z.more;
      temps = λ j l lo hi. z.temps j l lo hi ∙ ap (λ (g : ℕ → ℕ). g l) (q.vals j hi);
      still = λ l lt a y lo hi. z.still l lt a y lo hi ∙ ap (λ (g : ℕ → ℕ → ℕ). g y l) q.vars;
      masks = λ l lt a. z.masks l lt a ∙ ap (λ (g : ℕ → ℕ → ℕ). after (f l) (column st (λ y. g y l))) q.vars;
      mem = λ a h. z.mem a h ∙ ap (λ (g : ℕ → ℕ). g a) q.mem;
      falls = z.falls;
      steps = counted weight more (total n s) (total n s') t.steps u.steps t'.steps few z.falls z.steps;
    }
  where
    counted : (w m a c x y z : ℕ) → y ≤ x + m → c ≤ a → z + w * c ≤ y + w * suc a → z + (w + m) * c ≤ x + (w + m) * suc a
    counted w m a c x y z few falls h = grind (arith, few, falls, h)
