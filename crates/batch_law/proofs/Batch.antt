-- A batch: its prolog, and then its items' statements.
use Rattle.std.proofs.Common.{◌≡◌, ℕ, zero, suc, ◌+◌, ◌*◌, ◌<◌, ◌≤◌, Bool, true, false, List, refl, sym, ap, ◌∙◌, subst, arith}
use Rattle.std.specs.Prelude.{◌||◌}
use Rattle.q_lane.specs.Numbers.{flag}
use Rattle.q_functions.specs.declared.work.Work.{Work}
use Rattle.q_functions.specs.declared.functions.WorkFunction.TheVariants.{GlobalId, LocalId, GroupId}
use Rattle.q_functions.specs.WorkFunctions.{work_function, global_id, local_id, group_id}
use Rattle.item_ir.specs.IrMeaning.{State as Item, Flow, run_all as run_items}
use Rattle.item_ir.specs.Valid.{Counts, is_item}
use Rattle.item_ir.specs.declared.form.Stmt.{Stmt}
use Rattle.lane_ir.specs.LaneMeaning.{World, State, Ends, is_on, run_all}
use Rattle.lane_ir.proofs.Steps.{run_on}
use Rattle.lane_mapper.specs.Asked.{no_uses, asked_all}
use Rattle.lane_mapper.specs.Prolog.{val, prolog, prolog_vals, ids_from}
use Rattle.launch_file.specs.Launches.{LaunchOf, IsLaunch}
use Rattle.mask_flow.specs.Masked.{id, masked_item}
use Rattle.mask_law.specs.Lanes.{total}
use Rattle.mask_law.specs.Law.{mem_before, OneByOne, Begins, EndsAs, BatchesKeepItems}
use Rattle.mask_law.specs.Weights.{weight_all}
use Rattle.mask_law.specs.Worlds.{Ids, HasIds, BelowIds}
use Rattle.prolog_law.specs.Laws.{item, IsBatchOf, Opened, PrologsRight, PrologsAreShort}
use Rattle.batch_law.specs.Law.{has_item, item_world, batch_code, OpensAs, Did, BatchesDoTheirItems}
use Rattle.batch_law.proofs.Asks.{body_asks}
use Rattle.batch_law.proofs.Worlds.{worlds}

below : (k : ℕ) → BelowIds (ids_from k) k (k + prolog_vals)
below k zero lt = (omega arith, omega arith)
below k (suc zero) lt = (omega arith, omega arith)
below k (suc (suc zero)) lt = (omega arith, omega arith)
below k (suc (suc (suc zero))) lt = (omega arith, omega arith)
below k (suc (suc (suc (suc zero)))) lt = (omega arith, omega arith)
below k (suc (suc (suc (suc (suc zero))))) lt = (omega arith, omega arith)
below k (suc (suc (suc (suc (suc (suc zero)))))) lt = (omega arith, omega arith)
below k (suc (suc (suc (suc (suc (suc (suc zero))))))) lt = (omega arith, omega arith)
below k (suc (suc (suc (suc (suc (suc (suc (suc zero)))))))) lt = (omega arith, omega arith)
below k (suc (suc (suc (suc (suc (suc (suc (suc (suc j))))))))) lt = absurd (omega (arith, lt))

given_global : (wk : Work) (vals : ℕ → ℕ → ℕ) (k l : ℕ)
    → (vals (k + 8) l ≡ work_function GlobalId wk 0) × (vals (k + 10) l ≡ work_function GlobalId wk 1) × (vals (k + 11) l ≡ work_function GlobalId wk 2)
    → (d : ℕ) → d < 3 → vals (id (ids_from k) d).0 l ≡ global_id wk d
unfolding work_function
given_global wk vals k l p zero lt = p.0
given_global wk vals k l p (suc zero) lt = p.1
given_global wk vals k l p (suc (suc zero)) lt = p.2
given_global wk vals k l p (suc (suc (suc d))) lt = absurd (omega (arith, lt))

given_local : (wk : Work) (vals : ℕ → ℕ → ℕ) (k l : ℕ)
    → (vals (k + 15) l ≡ work_function LocalId wk 0) × (vals (k + 16) l ≡ work_function LocalId wk 1) × (vals (k + 17) l ≡ work_function LocalId wk 2)
    → (d : ℕ) → d < 3 → vals (id (ids_from k) (3 + d)).0 l ≡ local_id wk d
unfolding work_function
given_local wk vals k l p zero lt = p.0
given_local wk vals k l p (suc zero) lt = p.1
given_local wk vals k l p (suc (suc zero)) lt = p.2
given_local wk vals k l p (suc (suc (suc d))) lt = absurd (omega (arith, lt))

given_group : (wk : Work) (vals : ℕ → ℕ → ℕ) (k l : ℕ)
    → (vals (k + 18) l ≡ work_function GroupId wk 0) × (vals (k + 19) l ≡ work_function GroupId wk 1) × (vals (k + 20) l ≡ work_function GroupId wk 2)
    → (d : ℕ) → d < 3 → vals (id (ids_from k) (6 + d)).0 l ≡ group_id wk d
unfolding work_function
given_group wk vals k l p zero lt = p.0
given_group wk vals k l p (suc zero) lt = p.1
given_group wk vals k l p (suc (suc zero)) lt = p.2
given_group wk vals k l p (suc (suc (suc d))) lt = absurd (omega (arith, lt))

steps_sum : (a b x y s : ℕ) → a + x ≤ b + 2 + y → b ≤ s + 8133 → a + x ≤ s + 8135 + y
steps_sum a b x y s h g = omega (arith, h, g)

flag_on : (b : Bool) → is_on (flag b) ≡ b
flag_on true = refl
flag_on false = refl

left : (a b c : Bool) → a ≡ true → (a || (b || c)) ≡ true
left true b c h = refl
left false b c h = absurd (cc)

one_end : (t u : State) → Ends t ≡ Ends u → t ≡ u
one_end t u e = cc

module _ (masks : BatchesKeepItems) (opens : PrologsRight) (short : PrologsAreShort) (launch : LaunchOf) (w : World) (c : Counts) (body : List Stmt) (i : ℕ) (starts ends : ℕ → Item) (flows : ℕ → Flow) (t : State)
    (valid : IsLaunch launch) (batch : IsBatchOf launch w) (dims : w.dims ≡ launch.dims) (fit : is_item c body ≡ true) (begun : OpensAs c.vars starts t)
    (one : OneByOne 16 (has_item w) (λ l. run_items (item_world launch w l) body) t.mem starts ends flows) (few : total 16 starts < i) where
  abbrev ids : Ids
  ids = record { vals = ids_from c.vals; uses = asked_all no_uses body }

  opened : (t1 : State) × (run_all w 16 i (prolog c.vals (asked_all no_uses body)) t ≡ Ends t1) × Opened launch w 16 c.vals (asked_all no_uses body) t t1
  opened = opens launch w 16 i c.vals (asked_all no_uses body) t valid batch (omega arith)

  abbrev t1 : State
  t1 = opened.0

  has : (l : ℕ) → l < 16 → HasIds ids (item_world launch w l) t1 l
  has l lt =
      record {
        global = λ on. given_global (item launch w l) t1.vals c.vals l (opened.2.global (left ids.uses.global ids.uses.local ids.uses.group on) l lt);
        local = λ on. given_local (item launch w l) t1.vals c.vals l (opened.2.local on l lt);
        group = λ on. given_group (item launch w l) t1.vals c.vals l (opened.2.group on l lt);
      }

  begins : Begins 16 c.vars c.vals (c.vals + prolog_vals) (c.vals + 2) ids (has_item w) (λ l. item_world launch w l) starts t1
  begins = record {
    vars = λ l v lt lo. ap (λ (g : ℕ → ℕ → ℕ). g v l) opened.2.vars ∙ begun.vars l v lt lo;
    arrays = λ l r e lt. ap (λ (g : ℕ → ℕ → ℕ → ℕ). g r e l) opened.2.arrays ∙ begun.arrays l r e lt;
    mask = λ l lt. ap is_on (opened.2.live l lt) ∙ flag_on (has_item w l);
    has_ids = λ l lt a. has l lt;
    log = opened.2.log ∙ begun.log;
    below = below c.vals;
    prolog = omega arith;
    free = omega arith;
  }

  ran : (t' : State) × (run_all w 16 i (masked_item (ids_from c.vals) (val (c.vals + 2)) (c.vals + prolog_vals) c.vars body) t1 ≡ Ends t') × EndsAs 16 (weight_all body) (has_item w) t1 starts ends t'
  ran =
      masks w 16 c body ids (c.vals + 2) (c.vals + prolog_vals) i (has_item w) (λ l. item_world launch w l) starts ends flows t1 fit (body_asks no_uses body)
      (λ l lt. worlds launch w valid batch dims l) begins
      (subst (λ m. OneByOne 16 (has_item w) (λ l. run_items (item_world launch w l) body) m starts ends flows) (sym opened.2.mem) one) few

  few_first : t1.steps ≤ t.steps + 8133
  few_first =
      let s = short w 16 i c.vals (asked_all no_uses body) t in
      subst (λ (z : State). z.steps ≤ t.steps + 8133) (one_end s.0 t1 (sym s.1 ∙ opened.1)) s.2

  pub does : (t' : State) × (run_all w 16 i (batch_code c body) t ≡ Ends t') × Did w (weight_all body) t starts ends t'
  does = (
    ran.0,
    run_on w 16 i (prolog c.vals (asked_all no_uses body)) (masked_item (ids_from c.vals) (val (c.vals + 2)) (c.vals + prolog_vals) c.vars body) t t1 ran.0 opened.1 ran.1,
    record {
      mem = λ a. ran.2.mem a ∙ ap (λ m. mem_before (has_item w) ends m 16 a) opened.2.mem;
      log = ran.2.log;
      falls = ran.2.falls;
      steps = steps_sum ran.0.steps t1.steps (weight_all body * total 16 ends) (weight_all body * suc (total 16 starts)) t.steps ran.2.steps few_first;
    },
  )

pub batches : BatchesKeepItems → PrologsRight → PrologsAreShort → BatchesDoTheirItems
batches masks opens short launch w c body i starts ends flows t valid batch dims fit begun one few = does masks opens short launch w c body i starts ends flows t valid batch dims fit begun one few
