-- Each definition that is neither an id nor an access.
use Rattle.std.proofs.Common.{◌≡◌, ℕ, zero, suc, ◌/◌, ◌<◌, Bool, true, false, List, [], ◌∷◌, refl, sym, ap, ◌∙◌}
use Rattle.std.specs.Prelude.{if◌then◌else◌, nat_lt, not, ◌&&◌, map}
use Rattle.std.proofs.lemmas.Bool.{and_parts, ltb-true}
use Rattle.q_lane.specs.Numbers.{applied, applied_one}
use Rattle.q_functions.specs.NumberFunctions.{number_function}
use Rattle.q_functions.specs.WorkFunctions.{work_function, global_size}
use Rattle.q_functions.specs.declared.functions.WorkFunction.{WorkFunction}
use Rattle.q_functions.specs.declared.functions.WorkFunction.TheVariants.{WorkDim, GlobalId, GlobalSize, LocalId, LocalSize, GroupId, NumGroups}
use Rattle.item_ir.specs.Valid.{Known, with_known, are_known, is_def}
use Rattle.item_ir.specs.IrMeaning.{World as ItemWorld, State as Item, Ends as Done, Next, with_val, chosen as chosen_item, run as run_item}
use Rattle.item_ir.specs.declared.form.Def.{Def}
use Rattle.item_ir.specs.declared.form.Def.TheVariants as d
use Rattle.item_ir.specs.declared.form.Stmt.TheVariants as i
use Rattle.item_ir.specs.declared.form.Val.{Val}
use Rattle.lane_ir.specs.Weights.{done}
use Rattle.lane_ir.specs.LaneMeaning.{World, State, Ends, chosen, value, work, defines, run_all}
use Rattle.mask_law.specs.Stacks.{place}
use Rattle.mask_law.specs.Worlds.{SameWorld}
use Rattle.mask_law.specs.Lanes.{Items, After}
use Rattle.mask_flow.specs.Masked.{masked}
use Rattle.mask_law.specs.Weights.{weight}
use Rattle.mask_law.specs.Define.{is_plain, is_same_to_all, Defines}
use Rattle.mask_law.proofs.Defining.{defined}

same_choice : (c a b : ℕ) → chosen c a b ≡ chosen_item c a b
same_choice zero a b = refl
same_choice (suc c) a b = refl

words : (l : ℕ) (t : State) (y : Item) (known : Known) (args : List Val) → ((j : ℕ) → known j ≡ true → t.vals j l ≡ y.vals j) → are_known known args ≡ true
    → map (λ (a : Val). t.vals a.0 l) args ≡ map (λ (a : Val). y.vals a.0) args
words l t y known [] h g = refl
words l t y known (a ∷ rest) h g =
    let p = and_parts (known a.0) (are_known known rest) g in
    ap (λ (z : ℕ). z ∷ map (λ (a : Val). t.vals a.0 l) rest) (h a.0 p.0) ∙ ap (λ (z : List ℕ). y.vals a.0 ∷ z) (words l t y known rest h p.1)

per_group : (b : Bool) (x y : ℕ) → (if b then x / y else 1) ≡ ((if b then x else 1) / (if b then y else 1))
per_group true x y = refl
per_group false x y = refl

-- a batch gives the same numbers of the work as each of its items
works : (which : WorkFunction) → is_same_to_all which ≡ true → (w : World) (x : ItemWorld) → SameWorld w x → (d : ℕ) → work w which d ≡ work_function which x.work d
unfolding work_function
works WorkDim q w x s d = sym s.dims
works GlobalSize q w x s d = sym (s.global d)
works LocalSize q w x s d = sym (s.local d)
works NumGroups q w x s d =
    per_group (nat_lt d 3) (w.global d) (w.local d)
    ∙ ap (λ (z : ℕ). z / (if nat_lt d 3 then w.local d else 1)) (sym (s.global d)) ∙ ap (λ (z : ℕ). global_size x.work d / z) (sym (s.local d))
works GlobalId q w x s d = cc
works LocalId q w x s d = cc
works GroupId q w x s d = cc

pub plain : Defines
plain x e q w xs ids n tests c r b act known knowns k v e' st t s s' f fit asks around same before items =
    let p = and_parts (nat_lt x.0 c.vals) (not (known x.0) && is_def c known e) fit in
    let g = and_parts (not (known x.0)) (is_def c known e) p.1 in
    by e q g.1 items
    (λ W means its. defined x e W w xs ids n tests c b act known knowns k v e' st t s s' f (ltb-true x.0 c.vals p.0) g.0 means before its)
    (λ l lt a j d. (before.rel l lt).vals j (before.all l j lt a d)) (λ l lt. (before.rel l lt).vars)
  where
    by : (e : Def) → is_plain e ≡ true → is_def c known e ≡ true → Items n b act (λ l. run_item (xs l) (i.Let x e)) s f s'
        → ((W : ℕ → Item → ℕ) → ((l : ℕ) → l < n → act l ≡ true → value w t l e ≡ W l (s l)) → Items n b act (λ l y. Done Next (with_val x.0 (W l y) y)) s f s'
        → After n c.vars c.vals (done e) b act (λ l j. knowns l j ≡ true) (λ j. with_known x.0 known j ≡ true) k v (e' ∷ st) t (defines w n x.0 e t) s s' f)
        → ((l : ℕ) → l < n → act l ≡ true → (j : ℕ) → known j ≡ true → t.vals j l ≡ (s l).vals j)
        → ((l : ℕ) → l < n → (u : ℕ) → u < c.vars → t.vars u l ≡ (s l).vars u)
        → (t' : State) × (run_all w n tests (masked ids.vals (place k v (e' ∷ st)) (i.Let x e)) t ≡ Ends t')
        × After n c.vars c.vals (weight (i.Let x e)) b act (λ l j. knowns l j ≡ true) (λ j. with_known x.0 known j ≡ true) k v (e' ∷ st) t t' s s' f
    by (d.Const y) q g its go at vars = (defines w n x.0 (d.Const y) t, refl, go (λ l z. y) (λ l lt a. refl) its)
    by (d.Param y) q g its go at vars = (defines w n x.0 (d.Param y) t, refl, go (λ l z. (xs l).params y) (λ l lt a. sym ((same l lt).params y)) its)
    by (d.Work WorkDim dim) q g its go at vars = (
      defines w n x.0 (d.Work WorkDim dim) t,
      refl,
      go (λ l z. work_function WorkDim (xs l).work (z.vals dim.0))
          (λ l lt a. works WorkDim refl w (xs l) (same l lt) (t.vals dim.0 l) ∙ ap (λ z. work_function WorkDim (xs l).work z) (at l lt a dim.0 g)) its,
    )
    by (d.Work GlobalSize dim) q g its go at vars = (
      defines w n x.0 (d.Work GlobalSize dim) t,
      refl,
      go (λ l z. work_function GlobalSize (xs l).work (z.vals dim.0))
          (λ l lt a. works GlobalSize refl w (xs l) (same l lt) (t.vals dim.0 l) ∙ ap (λ z. work_function GlobalSize (xs l).work z) (at l lt a dim.0 g)) its,
    )
    by (d.Work LocalSize dim) q g its go at vars = (
      defines w n x.0 (d.Work LocalSize dim) t,
      refl,
      go (λ l z. work_function LocalSize (xs l).work (z.vals dim.0))
          (λ l lt a. works LocalSize refl w (xs l) (same l lt) (t.vals dim.0 l) ∙ ap (λ z. work_function LocalSize (xs l).work z) (at l lt a dim.0 g)) its,
    )
    by (d.Work NumGroups dim) q g its go at vars = (
      defines w n x.0 (d.Work NumGroups dim) t,
      refl,
      go (λ l z. work_function NumGroups (xs l).work (z.vals dim.0))
          (λ l lt a. works NumGroups refl w (xs l) (same l lt) (t.vals dim.0 l) ∙ ap (λ z. work_function NumGroups (xs l).work z) (at l lt a dim.0 g)) its,
    )
    by (d.Work GlobalId dim) q g its go at vars = cc
    by (d.Work LocalId dim) q g its go at vars = cc
    by (d.Work GroupId dim) q g its go at vars = cc
    by (d.Get u) q g its go at vars = (defines w n x.0 (d.Get u) t, refl, go (λ l z. z.vars u) (λ l lt a. vars l lt u (ltb-true u c.vars g)) its)
    by (d.Bin op y z) q g its go at vars =
        let p = and_parts (known y.0) (known z.0) g in (
          defines w n x.0 (d.Bin op y z) t,
          refl,
          go (λ l o. applied op (o.vals y.0) (o.vals z.0))
              (λ l lt a. ap (λ o. applied op o (t.vals z.0 l)) (at l lt a y.0 p.0) ∙ ap (λ o. applied op ((s l).vals y.0) o) (at l lt a z.0 p.1)) its,
        )
    by (d.One op y) q g its go at vars =
        (defines w n x.0 (d.One op y) t, refl, go (λ l o. applied_one op (o.vals y.0)) (λ l lt a. ap (λ o. applied_one op o) (at l lt a y.0 g)) its)
    by (d.Built fn ty args) q g its go at vars = (
      defines w n x.0 (d.Built fn ty args) t,
      refl,
      go (λ l o. number_function fn ty (map (λ (a : Val). o.vals a.0) args))
          (λ l lt a. ap (number_function fn ty) (words l t (s l) known args (at l lt a) g)) its,
    )
    by (d.Choose y1 y2 y3) q g its go at vars =
        let p = and_parts (known y1.0) (known y2.0 && known y3.0) g in
        let o = and_parts (known y2.0) (known y3.0) p.1 in (
          defines w n x.0 (d.Choose y1 y2 y3) t,
          refl,
          go (λ l z. chosen_item (z.vals y1.0) (z.vals y2.0) (z.vals y3.0))
              (λ l lt a. ap (λ z. chosen z (t.vals y2.0 l) (t.vals y3.0 l)) (at l lt a y1.0 p.0) ∙ ap (λ z. chosen ((s l).vals y1.0) z (t.vals y3.0 l)) (at l lt a y2.0 o.0)
              ∙ ap (λ z. chosen ((s l).vals y1.0) ((s l).vals y2.0) z) (at l lt a y3.0 o.1) ∙ same_choice ((s l).vals y1.0) ((s l).vals y2.0) ((s l).vals y3.0)) its,
        )
    by (d.Load ty a) q g its go at vars = cc
    by (d.Element a j) q g its go at vars = cc
    by d.Flat q g its go at vars = cc
    by d.Items q g its go at vars = cc
