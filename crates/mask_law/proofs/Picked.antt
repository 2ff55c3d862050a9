-- The law of masking for the ids.
use Rattle.std.proofs.Common.{◌≡◌, ℕ, zero, suc, ◌+◌, ◌/◌, ◌%◌, ◌<◌, ◌≤◌, Bool, true, false, List, ◌∷◌, refl, sym, ap, ◌∙◌, arith}
use Rattle.std.specs.Prelude.{if◌then◌else◌, nat_lt, ◌==◌, not, ◌&&◌}
use Rattle.std.proofs.lemmas.Bool.{and_parts, ltb-true, ne_eqb, le-ltb}
use Rattle.q_lane.specs.declared.operations.BinOp.TheVariants.{Equal}
use Rattle.q_lane.specs.Numbers.{applied, flag}
use Rattle.q_functions.specs.WorkFunctions.{work_function, global_id, local_id, group_id, local_size}
use Rattle.q_functions.specs.declared.functions.WorkFunction.{WorkFunction}
use Rattle.q_functions.specs.declared.functions.WorkFunction.TheVariants.{WorkDim, GlobalId, GlobalSize, LocalId, LocalSize, GroupId, NumGroups}
use Rattle.item_ir.specs.Valid.{Counts, Known, with_known}
use Rattle.item_ir.specs.IrMeaning.{World as ItemWorld, State as Item, Flow, run as run_item}
use Rattle.item_ir.specs.declared.form.Stmt.TheVariants as i
use Rattle.item_ir.specs.declared.form.Def.{Def}
use Rattle.item_ir.specs.declared.form.Def.TheVariants as d
use Rattle.item_ir.specs.declared.form.Val.{Val}
use Rattle.lane_ir.specs.LaneMeaning.{World, State, Ends, chosen, value, defines, run_all}
use Rattle.lane_ir.proofs.Steps.{with_at-same, with_at-other}
use Rattle.mask_flow.specs.Masked.{val, id, small_numbers, picks}
use Rattle.mask_law.specs.Stacks.{Entry}
use Rattle.mask_law.specs.Worlds.{Ids, SameWorld}
use Rattle.mask_law.specs.Lanes.{Bytes, Before, Items, After}
use Rattle.mask_law.specs.Leaves.{IdsMasked}
use Rattle.mask_law.proofs.Emitted.{in_lane}
use Rattle.mask_law.proofs.Defining.{defined}
use Rattle.mask_law.proofs.Moves.{OnlyTemps, before_kept, after_more}

-- one of three, by a dimension
equal_is : (a b : ℕ) → applied Equal a b ≡ flag (a == b)
unfolding applied
equal_is a b = refl

abbrev picked : (D first second third : ℕ) → ℕ
picked D first second third = chosen D (chosen (applied Equal D 1) second (chosen (applied Equal D 2) third 0)) first

by_tests : (D i j h : ℕ) (a b : Bool) → (D == 1) ≡ a → (D == 2) ≡ b → picked D i j h ≡ chosen D (chosen (flag a) j (chosen (flag b) h 0)) i
by_tests D i j h a b p q =
    (λ x. chosen D (chosen (equal_is D 1 x) j (chosen (equal_is D 2 x) h 0)) i) ∙ (λ x. chosen D (chosen (flag (p x)) j (chosen (flag (q x)) h 0)) i)

pick : (D i j h : ℕ) (F : ℕ → ℕ) → i ≡ F 0 → j ≡ F 1 → h ≡ F 2 → ((m : ℕ) → 3 ≤ m → F m ≡ 0) → picked D i j h ≡ F D
pick zero i j h F a b c past = a
pick (suc zero) i j h F a b c past = by_tests 1 i j h true false refl refl ∙ b
pick (suc (suc zero)) i j h F a b c past = by_tests 2 i j h false true refl refl ∙ c
pick (suc (suc (suc m))) i j h F a b c past =
    by_tests (suc (suc (suc m))) i j h false false (ne_eqb (suc (suc (suc m))) 1 (λ e. omega (arith, e))) (ne_eqb (suc (suc (suc m))) 2 (λ e. omega (arith, e)))
    ∙ sym (past (suc (suc (suc m))) (omega arith))

module _ (w : World) (n : ℕ) where
  here : (v : ℕ) (e : Def) (s : State) (l : ℕ) → l < n → (defines w n v e s).vals v l ≡ value w s l e
  here v e s l lt = ap (λ (g : ℕ → ℕ). g l) (with_at-same s.vals v (λ m. if nat_lt m n then value w s m e else 0)) ∙ in_lane l n (value w s l e) lt

  other : (j v : ℕ) (e : Def) (s : State) → (j ≡ v → ⊥) → (defines w n v e s).vals j ≡ s.vals j
  other j v e s ne = with_at-other s.vals v (λ m. if nat_lt m n then value w s m e else 0) j ne

  module _ (k : ℕ) (dim first second third : Val) (t : State) (dl : dim.0 < k) (al : first.0 < k) (bl : second.0 < k) (cl : third.0 < k) where
    abbrev t1 : State
    t1 = defines w n k (d.Const 0) t

    abbrev t2 : State
    t2 = defines w n (k + 1) (d.Const 1) t1

    abbrev t3 : State
    t3 = defines w n (k + 2) (d.Const 2) t2

    abbrev t4 : State
    t4 = defines w n (k + 3) (d.Bin Equal dim (val (k + 2))) t3

    abbrev t5 : State
    t5 = defines w n (k + 3) (d.Choose (val (k + 3)) third (val k)) t4

    abbrev t6 : State
    t6 = defines w n (k + 4) (d.Bin Equal dim (val (k + 1))) t5

    abbrev pub t7 : State
    t7 = defines w n (k + 3) (d.Choose (val (k + 4)) second (val (k + 3))) t6

    low3 : (j : ℕ) → j < k → t3.vals j ≡ t.vals j
    low3 j lt =
        other j (k + 2) (d.Const 2) t2 (λ e. omega (arith, e, lt)) ∙ other j (k + 1) (d.Const 1) t1 (λ e. omega (arith, e, lt)) ∙ other j k (d.Const 0) t (λ e. omega (arith, e, lt))

    low4 : (j : ℕ) → j < k → t4.vals j ≡ t.vals j
    low4 j lt = other j (k + 3) (d.Bin Equal dim (val (k + 2))) t3 (λ e. omega (arith, e, lt)) ∙ low3 j lt

    low5 : (j : ℕ) → j < k → t5.vals j ≡ t.vals j
    low5 j lt = other j (k + 3) (d.Choose (val (k + 3)) third (val k)) t4 (λ e. omega (arith, e, lt)) ∙ low4 j lt

    low6 : (j : ℕ) → j < k → t6.vals j ≡ t.vals j
    low6 j lt = other j (k + 4) (d.Bin Equal dim (val (k + 1))) t5 (λ e. omega (arith, e, lt)) ∙ low5 j lt

    low7 : (j : ℕ) → j < k → t7.vals j ≡ t.vals j
    low7 j lt = other j (k + 3) (d.Choose (val (k + 4)) second (val (k + 3))) t6 (λ e. omega (arith, e, lt)) ∙ low6 j lt

    two3 : (l : ℕ) → l < n → t3.vals (k + 2) l ≡ 2
    two3 l lt = here (k + 2) (d.Const 2) t2 l lt

    one5 : (l : ℕ) → l < n → t5.vals (k + 1) l ≡ 1
    one5 l lt =
        ap (λ (g : ℕ → ℕ). g l)
        (other (k + 1) (k + 3) (d.Choose (val (k + 3)) third (val k)) t4 (λ e. omega (arith, e)) ∙ other (k + 1) (k + 3) (d.Bin Equal dim (val (k + 2))) t3 (λ e. omega (arith, e))
        ∙ other (k + 1) (k + 2) (d.Const 2) t2 (λ e. omega (arith, e))) ∙ here (k + 1) (d.Const 1) t1 l lt

    zero4 : (l : ℕ) → l < n → t4.vals k l ≡ 0
    zero4 l lt =
        ap (λ (g : ℕ → ℕ). g l)
        (other k (k + 3) (d.Bin Equal dim (val (k + 2))) t3 (λ e. omega (arith, e)) ∙ other k (k + 2) (d.Const 2) t2 (λ e. omega (arith, e)) ∙ other k (k + 1) (d.Const 1) t1 (λ e. omega (arith, e)))
        ∙ here k (d.Const 0) t l lt

    fourth : (l : ℕ) → l < n → t4.vals (k + 3) l ≡ applied Equal (t.vals dim.0 l) 2
    fourth l lt = here (k + 3) (d.Bin Equal dim (val (k + 2))) t3 l lt ∙ (λ i. applied Equal (low3 dim.0 dl i l) (two3 l lt i))

    fifth : (l : ℕ) → l < n → t5.vals (k + 3) l ≡ chosen (applied Equal (t.vals dim.0 l) 2) (t.vals third.0 l) 0
    fifth l lt = here (k + 3) (d.Choose (val (k + 3)) third (val k)) t4 l lt ∙ (λ i. chosen (fourth l lt i) (low4 third.0 cl i l) (zero4 l lt i))

    sixth : (l : ℕ) → l < n → t6.vals (k + 4) l ≡ applied Equal (t.vals dim.0 l) 1
    sixth l lt = here (k + 4) (d.Bin Equal dim (val (k + 1))) t5 l lt ∙ (λ i. applied Equal (low5 dim.0 dl i l) (one5 l lt i))

    fifth6 : (l : ℕ) → l < n → t6.vals (k + 3) l ≡ chosen (applied Equal (t.vals dim.0 l) 2) (t.vals third.0 l) 0
    fifth6 l lt = ap (λ (g : ℕ → ℕ). g l) (other (k + 3) (k + 4) (d.Bin Equal dim (val (k + 1))) t5 (λ e. omega (arith, e))) ∙ fifth l lt

    seventh : (l : ℕ) → l < n → t7.vals (k + 3) l ≡ chosen (applied Equal (t.vals dim.0 l) 1) (t.vals second.0 l) (chosen (applied Equal (t.vals dim.0 l) 2) (t.vals third.0 l) 0)
    seventh l lt = here (k + 3) (d.Choose (val (k + 4)) second (val (k + 3))) t6 l lt ∙ (λ i. chosen (sixth l lt i) (low6 second.0 bl i l) (fifth6 l lt i))

    pub temps7 : OnlyTemps k t t7
    temps7 = record { vals = low7; vars = refl; arrays = refl; mem = refl; log = refl }

    pub value7 : (l : ℕ) → l < n → value w t7 l (d.Choose dim (val (k + 3)) first) ≡ picked (t.vals dim.0 l) (t.vals first.0 l) (t.vals second.0 l) (t.vals third.0 l)
    value7 l lt = λ i. chosen (low7 dim.0 dl i l) (seventh l lt i) (low7 first.0 al i l)

picked_run : (w : World) (n tests k : ℕ) (x dim : Val) (ids : List Val) (m : ℕ) (t : State) (dl : dim.0 < k) (al : (id ids m).0 < k) (bl : (id ids (m + 1)).0 < k) (cl : (id ids (m + 2)).0 < k)
    → run_all w n tests (picks k x dim ids m) t ≡ Ends (defines w n x.0 (d.Choose dim (val (k + 3)) (id ids m)) (t7 w n k dim (id ids m) (id ids (m + 1)) (id ids (m + 2)) t dl al bl cl))
unfolding picks small_numbers
picked_run w n tests k x dim ids m t dl al bl cl = refl

-- an id, of three that begin with the m-th, where F says what it is of an item
module _ (x : Val) (which : WorkFunction) (dim : Val) (w : World) (xs : ℕ → ItemWorld) (ids : Ids) (n tests : ℕ) (c : Counts) (b : Bytes n) (act : ℕ → Bool) (known : Known) (knowns : ℕ → Known)
    (k v : ℕ) (e : Entry) (st : List Entry) (t : State) (s s' : ℕ → Item) (f : ℕ → Flow)
    (low : x.0 < c.vals) (new : not (known x.0) ≡ true) (at : known dim.0 ≡ true)
    (before : Before n c.vars c.vals tests b ids xs act (λ l j. knowns l j ≡ true) (λ j. known j ≡ true) k v (e ∷ st) t s)
    (items : Items n b act (λ l. run_item (xs l) (i.Let x (d.Work which dim))) s f s') (m : ℕ) (few : m + 2 < 9) where
  abbrev F : ℕ → ℕ → ℕ
  F l y = work_function which (xs l).work y

  pub picks_id : ((l : ℕ) → l < n → act l ≡ true
      → (t.vals (id ids.vals m).0 l ≡ F l 0) × (t.vals (id ids.vals (m + 1)).0 l ≡ F l 1) × (t.vals (id ids.vals (m + 2)).0 l ≡ F l 2) × ((y : ℕ) → 3 ≤ y → F l y ≡ 0))
      → (t' : State) × (run_all w n tests (picks k x dim ids.vals m) t ≡ Ends t')
      × After n c.vars c.vals 14 b act (λ l j. knowns l j ≡ true) (λ j. with_known x.0 known j ≡ true) k v (e ∷ st) t t' s s' f
  picks_id those =
      let high = before.high in
      let dl : dim.0 < k = let a = before.known_low dim.0 at in omega (arith, a, high) in
      let al : (id ids.vals m).0 < k = (before.below m (omega (arith, few))).1 in
      let bl : (id ids.vals (m + 1)).0 < k = (before.below (m + 1) (omega (arith, few))).1 in
      let cl : (id ids.vals (m + 2)).0 < k = (before.below (m + 2) few).1 in
      let u : State = t7 w n k dim (id ids.vals m) (id ids.vals (m + 1)) (id ids.vals (m + 2)) t dl al bl cl in
      let q : OnlyTemps k t u = temps7 w n k dim (id ids.vals m) (id ids.vals (m + 1)) (id ids.vals (m + 2)) t dl al bl cl in
      let W : ℕ → Item → ℕ = λ l y. F l (y.vals dim.0) in
      let means : (l : ℕ) → l < n → act l ≡ true → value w u l (d.Choose dim (val (k + 3)) (id ids.vals m)) ≡ W l (s l) = λ l lt a.
      (let h = those l lt a in
      value7 w n k dim (id ids.vals m) (id ids.vals (m + 1)) (id ids.vals (m + 2)) t dl al bl cl l lt
      ∙ pick (t.vals dim.0 l) (t.vals (id ids.vals m).0 l) (t.vals (id ids.vals (m + 1)).0 l) (t.vals (id ids.vals (m + 2)).0 l) (F l) h.0 h.1 h.2 h.3 ∙ ap (F l) ((before.rel l lt).vals dim.0 (before.all l dim.0 lt a at))) in
      let z = defined x (d.Choose dim (val (k + 3)) (id ids.vals m)) W w xs ids n tests c b act known knowns k v e st u s s' f low new means
      (before_kept n c.vars c.vals tests b ids xs act (λ l j. knowns l j ≡ true) (λ j. known j ≡ true) k v (e ∷ st) t u s q before) items in (
        defines w n x.0 (d.Choose dim (val (k + 3)) (id ids.vals m)) u,
        picked_run w n tests k x dim ids.vals m t dl al bl cl,
        after_more n c.vars c.vals 1 13 b act (λ l j. knowns l j ≡ true) (λ j. with_known x.0 known j ≡ true) k v (e ∷ st) t u _ s s' f q (omega arith) z,
      )

no_rest : (x : ItemWorld) (y : ℕ) → global_id x.work y ≡ 0 → local_size x.work y ≡ 1 → (local_id x.work y ≡ 0) × (group_id x.work y ≡ 0)
no_rest x y a b = ((λ i. a i % b i), (λ i. a i / b i))

past_two : (w : World) (x : ItemWorld) → SameWorld w x → (y : ℕ) → 3 ≤ y → (global_id x.work y ≡ 0) × (local_size x.work y ≡ 1)
past_two w x same y h = (same.past y h, same.local y ∙ ap (λ z. if z then w.local y else 1) (le-ltb y 3 h))

pub ids_masked : IdsMasked
unfolding work_function
ids_masked x WorkDim dim q w xs ids n tests c r b act known knowns k v e st t s s' f fit asks around same before items = cc
ids_masked x GlobalSize dim q w xs ids n tests c r b act known knowns k v e st t s s' f fit asks around same before items = cc
ids_masked x LocalSize dim q w xs ids n tests c r b act known knowns k v e st t s s' f fit asks around same before items = cc
ids_masked x NumGroups dim q w xs ids n tests c r b act known knowns k v e st t s s' f fit asks around same before items = cc
ids_masked x GlobalId dim q w xs ids n tests c r b act known knowns k v e st t s s' f fit asks around same before items =
    let p = and_parts (nat_lt x.0 c.vals) (not (known x.0) && known dim.0) fit in
    let g = and_parts (not (known x.0)) (known dim.0) p.1 in
    picks_id x GlobalId dim w xs ids n tests c b act known knowns k v e st t s s' f (ltb-true x.0 c.vals p.0) g.0 g.1 before items 0 (omega arith)
    (λ l lt a. (let h = before.has_ids l lt a in (h.global asks 0 (omega arith), h.global asks 1 (omega arith), h.global asks 2 (omega arith), λ y le. (same l lt).past y le)))
ids_masked x LocalId dim q w xs ids n tests c r b act known knowns k v e st t s s' f fit asks around same before items =
    let p = and_parts (nat_lt x.0 c.vals) (not (known x.0) && known dim.0) fit in
    let g = and_parts (not (known x.0)) (known dim.0) p.1 in
    picks_id x LocalId dim w xs ids n tests c b act known knowns k v e st t s s' f (ltb-true x.0 c.vals p.0) g.0 g.1 before items 3 (omega arith)
    (λ l lt a. (let h = before.has_ids l lt a in
    (h.local asks 0 (omega arith), h.local asks 1 (omega arith), h.local asks 2 (omega arith), λ y le. (let o = past_two w (xs l) (same l lt) y le in (no_rest (xs l) y o.0 o.1).0))))
ids_masked x GroupId dim q w xs ids n tests c r b act known knowns k v e st t s s' f fit asks around same before items =
    let p = and_parts (nat_lt x.0 c.vals) (not (known x.0) && known dim.0) fit in
    let g = and_parts (not (known x.0)) (known dim.0) p.1 in
    picks_id x GroupId dim w xs ids n tests c b act known knowns k v e st t s s' f (ltb-true x.0 c.vals p.0) g.0 g.1 before items 6 (omega arith)
    (λ l lt a. (let h = before.has_ids l lt a in
    (h.group asks 0 (omega arith), h.group asks 1 (omega arith), h.group asks 2 (omega arith), λ y le. (let o = past_two w (xs l) (same l lt) y le in (no_rest (xs l) y o.0 o.1).1))))
