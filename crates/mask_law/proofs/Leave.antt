-- The law of mask for the statements that leave.
use Rattle.std.proofs.Common.{◌≡◌, ℕ, zero, suc, ◌+◌, ◌<◌, inl, inr, Bool, true, List, ◌∷◌, refl, sym, ap, ◌∙◌, subst, arith}
use Rattle.item_ir.specs.IrMeaning.{World as ItemWorld, State as Item, Ends as Done, Flow, Next, Broke, Again, Gone}
use Rattle.lane_ir.specs.LaneMeaning.{World, State, Ends, run_all}
use Rattle.lane_ir.proofs.Steps.{bool_cases}
use Rattle.item_ir.specs.declared.form.Stmt.TheVariants as i
use Rattle.mask_law.specs.Worlds.{Ids}
use Rattle.mask_law.specs.Stacks.{Kind, Entry, Round, In_loop, In_scope, var_at, place}
use Rattle.mask_flow.specs.Masked.{leaves_to, round_of, loop_of}
use Rattle.mask_law.proofs.Places.{round_at, loop_at}
use Rattle.mask_law.specs.Masks.{column, left_to, after, has}
use Rattle.mask_law.specs.Lanes.{Bytes, LaneRel, total, Before, After, row_of, lane_log}
use Rattle.mask_law.specs.Emitted.{HasLeft, left_where}
use Rattle.mask_law.specs.Leave.{IsMasked}
use Rattle.mask_law.proofs.Emitted.{leaves}

total_same : (n : ℕ) (s s' : ℕ → Item) → ((l : ℕ) → l < n → s' l ≡ s l) → total n s' ≡ total n s
total_same zero s s' h = refl
total_same (suc n) s s' h =
    ap (λ x. x + (s' n).left) (total_same n s s' (λ l lt. h l (omega (arith, lt)))) ∙ ap (λ (y : Item). total n s + y.left) (h n (omega arith))

-- any way to leave, and any values that are known
pub leave : (w : World) (n nu nv tests : ℕ) (b : Bytes n) (ids : Ids) (xs : ℕ → ItemWorld) (act : ℕ → Bool) (K : ℕ → ℕ → Type 0) (D : ℕ → Type 0) (k v : ℕ) (kind : Kind) (e : Entry) (st : List Entry) (t : State) (s s' : ℕ → Item) (f : ℕ → Flow)
    (end : ℕ) → end ≡ var_at kind (e ∷ st) → has kind (e ∷ st) ≡ true → Before n nu nv tests b ids xs act K D k v (e ∷ st) t s
    → ((l : ℕ) → l < n → s' l ≡ s l)
    → ((l : ℕ) → l < n → act l ≡ true → (f l ≡ Next → ⊥) × (after (f l) (column (e ∷ st) (row_of t l)) ≡ left_to kind (column (e ∷ st) (row_of t l))))
    → (t' : State) × (run_all w n tests (leaves_to end (place k v (e ∷ st))) t ≡ Ends t') × After n nu nv 4 b act K D k v (e ∷ st) t t' s s' f
leave w n nu nv tests b ids xs act K D k v kind e st t s s' f end is_end h before same flow =
    let r = leaves w n nu tests k v kind e st t before.stacked h in
    let t' : State = r.0 in
    let q : HasLeft n nu k v kind (e ∷ st) t t' = r.2 in
    let tot : total n s' ≡ total n s = total_same n s s' same in (
      t',
      ap (λ u. run_all w n tests (leaves_to u (place k v (e ∷ st))) t) is_end ∙ r.1,
      record {
        rel = λ l lt.
            (let old = before.rel l lt in
            subst (LaneRel b nu l (K l) t') (sym (same l lt)) (record {
              vals = λ j d. ap (λ g. g l) (q.kept.vals j (let a = before.known_low j (before.sub l j d) in let c = before.high in omega (arith, a, c))) ∙ old.vals j d;
              vars = λ u c. ap (λ g. g l) (q.kept.low u c) ∙ old.vars u c;
              arrays = λ x y. ap (λ (g : ℕ → ℕ → ℕ → ℕ). g x y l) q.kept.arrays ∙ old.arrays x y;
              mem = λ a c. ap (λ (g : ℕ → ℕ). g a) q.kept.mem ∙ old.mem a c;
              log = ap (lane_log l) q.kept.log ∙ old.log;
            }));
        more = λ l lt a p j d. absurd ((flow l lt a).0 p);
        temps = λ j l a c. ap (λ g. g l) (q.kept.vals j c);
        still = λ l lt a u c d. q.still l lt (before.masks l lt ∙ a) u;
        masks = λ l lt a. q.masks l lt ∙ ap (λ x. left_where x kind (column (e ∷ st) (row_of t l))) (before.masks l lt ∙ a) ∙ sym (flow l lt a).1;
        mem = λ a c. ap (λ (g : ℕ → ℕ). g a) q.kept.mem;
        falls = let x = tot in omega (arith, x);
        steps = let x = tot in let y = q.kept.steps in omega (arith, x, y);
      },
    )

flow_is : (g f : Flow) (x y : Item) → Done g x ≡ Done f y → (f ≡ g) × (y ≡ x)
flow_is g f x y e = (cc, cc)

apart : (g : Flow) → (g ≡ Next → ⊥) → (f : Flow) → f ≡ g → f ≡ Next → ⊥
apart g h f a b = h (sym a ∙ b)

gone_apart : Gone ≡ Next → ⊥
gone_apart e = cc

broke_apart : Broke ≡ Next → ⊥
broke_apart e = cc

again_apart : Again ≡ Next → ⊥
again_apart e = cc

pub scope_left : IsMasked i.Leave
scope_left w xs ids n tests c r b act known knowns k v e st t s s' f fit asks around same before items =
    leave w n c.vars c.vals tests b ids xs act (λ l j. knowns l j ≡ true) (λ j. known j ≡ true) k v In_scope e st t s s' f (var_at In_scope (e ∷ st)) refl (around.scope fit) before
    (λ l lt. elim (bool_cases (act l)) [ inl a ↦ (flow_is Gone (f l) (s l) (s' l) (items.on l lt a)).1 | inr a ↦ items.off l lt a ])
    (λ l lt a. (let g = (flow_is Gone (f l) (s l) (s' l) (items.on l lt a)).0 in (apart Gone gone_apart (f l) g, ap (λ x. after x (column (e ∷ st) (row_of t l))) g)))

pub loop_left : IsMasked i.Break
loop_left w xs ids n tests c r b act known knowns k v e st t s s' f fit asks around same before items =
    leave w n c.vars c.vals tests b ids xs act (λ l j. knowns l j ≡ true) (λ j. known j ≡ true) k v In_loop e st t s s' f (loop_of (place k v (e ∷ st))) (loop_at k v (e ∷ st)) (around.loop fit) before
    (λ l lt. elim (bool_cases (act l)) [ inl a ↦ (flow_is Broke (f l) (s l) (s' l) (items.on l lt a)).1 | inr a ↦ items.off l lt a ])
    (λ l lt a. (let g = (flow_is Broke (f l) (s l) (s' l) (items.on l lt a)).0 in (apart Broke broke_apart (f l) g, ap (λ x. after x (column (e ∷ st) (row_of t l))) g)))

pub round_left : IsMasked i.Continue
round_left w xs ids n tests c r b act known knowns k v e st t s s' f fit asks around same before items =
    leave w n c.vars c.vals tests b ids xs act (λ l j. knowns l j ≡ true) (λ j. known j ≡ true) k v Round e st t s s' f (round_of (place k v (e ∷ st))) (round_at k v (e ∷ st)) (around.round fit) before
    (λ l lt. elim (bool_cases (act l)) [ inl a ↦ (flow_is Again (f l) (s l) (s' l) (items.on l lt a)).1 | inr a ↦ items.off l lt a ])
    (λ l lt a. (let g = (flow_is Again (f l) (s l) (s' l) (items.on l lt a)).0 in (apart Again again_apart (f l) g, ap (λ x. after x (column (e ∷ st) (row_of t l))) g)))
