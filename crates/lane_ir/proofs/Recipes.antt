-- What the statements of a recipe do, and a loop of them.
use Rattle.std.proofs.Common.{◌≡◌, ℕ, ◌+◌, ◌^◌, ◌<◌, ◌≤◌, ◌⊎◌, inl, inr, Bool, true, false, List, [], ◌∷◌, refl, sym, ap, ◌∙◌, subst, arith, get_or}
use Rattle.std.specs.Prelude.{◌==◌, nat_lt, if◌then◌else◌}
use Rattle.std.proofs.lemmas.Bool.{eq-eqb, eqb-true, eqb-false, ne_eqb, lt-ltb, ltb-true}
use Rattle.item_ir.specs.declared.form.Val.{Val}
use Rattle.item_ir.specs.declared.form.Def.{Def}
use Rattle.item_ir.specs.Memory.{with_at}
use Rattle.lane_ir.specs.Weights.{done}
use Rattle.lane_ir.specs.LaneMeaning.{World, State, Ends, and_then, value, defines, run_all}
use Rattle.lane_ir.specs.Kept.{Met, EndsAs}
use Rattle.lane_ir.specs.Recipe.{no_val, source, definition, statements, defining, held, gives, after, cost}
use Rattle.lane_ir.specs.declared.form.LaneStmt.TheVariants.{Let}
use Rattle.lane_ir.specs.declared.recipe.Source.{Source}
use Rattle.lane_ir.specs.declared.recipe.Source.TheVariants.{Argument, Temp}
use Rattle.lane_ir.specs.declared.recipe.Act.{Act}
use Rattle.lane_ir.specs.declared.recipe.Act.TheVariants.{Const, Two, One, Choose, Size, Flat, Items}
use Rattle.lane_ir.specs.declared.recipe.Step.{Step}
use Rattle.lane_ir.proofs.Steps.{bool_cases, with_at-other, run-append, row_below}

-- the arguments of a lane, and its temporaries
abbrev pub args_of : State → List Val → ℕ → ℕ → ℕ
args_of s args l i = s.vals (get_or args i no_val).0 l

abbrev pub temps_of : State → ℕ → ℕ → ℕ → ℕ
temps_of s k l y = s.vals (k + y) l

-- the arguments are values below k
abbrev pub Low : ℕ → List Val → Type 0
Low k args = (i : ℕ) → (get_or args i no_val).0 < k

source_is : (s : State) (k : ℕ) (args : List Val) (l : ℕ) (a : Source) → s.vals (source k args a).0 l ≡ held (args_of s args l) (temps_of s k l) a
source_is s k args l (Argument i) = refl
source_is s k args l (Temp i) = refl

pub act_is : (w : World) (s : State) (k : ℕ) (args : List Val) (l : ℕ) (a : Act) → value w s l (definition k args a) ≡ gives w l (args_of s args l) (temps_of s k l) a
act_is w s k args l (Const x) = refl
act_is w s k args l (Two op a b) = rw (source_is s k args l a, source_is s k args l b) refl
act_is w s k args l (One op a) = rw (source_is s k args l a) refl
act_is w s k args l (Choose c a b) = rw (source_is s k args l c, source_is s k args l a, source_is s k args l b) refl
act_is w s k args l (Size which d) = rw (source_is s k args l d) refl
act_is w s k args l Flat = refl
act_is w s k args l Items = refl

-- what a definition costs doesn't hang on the numbers of values
done_same : (k : ℕ) (args : List Val) (a : Act) → done (definition k args a) ≡ done (definition 0 args a)
done_same k args (Const x) = refl
done_same k args (Two op a b) = refl
done_same k args (One op a) = refl
done_same k args (Choose c a b) = refl
done_same k args (Size which d) = refl
done_same k args Flat = refl
done_same k args Items = refl

-- the state after a recipe
pub record Ran (w : World) (n k : ℕ) (args : List Val) (steps : List Step) (s t : State) : Type 0 where
  pub temps : (l : ℕ) → l < n → (x : ℕ) → t.vals (k + x) l ≡ after w l (args_of s args l) (temps_of s k l) steps x
  pub old : (v : ℕ) → v < k → t.vals v ≡ s.vals v
  pub vars : t.vars ≡ s.vars
  pub arrays : t.arrays ≡ s.arrays
  pub mem : t.mem ≡ s.mem
  pub log : t.log ≡ s.log
  pub transfers : t.transfers ≡ s.transfers
  pub steps' : t.steps ≡ s.steps + cost args steps

place_same : (k x y : ℕ) → (k + x == k + y) ≡ (x == y)
place_same k x y = elim (bool_cases (x == y)) [
  | inl e ↦ eq-eqb (k + x) (k + y) (ap (λ z. k + z) (eqb-true x y e)) ∙ sym e
  | inr e ↦ ne_eqb (k + x) (k + y) (λ q. eqb-false x y e (omega (arith, q))) ∙ sym e
]

module _ (w : World) (n i k : ℕ) (args : List Val) (low : Low k args) where
  first_args : (s : State) (x : ℕ) (d : Def) (l : ℕ) → args_of (defines w n (k + x) d s) args l ≡ args_of s args l
  first_args s x d l = λ z y. at y z
    where
      at : (y : ℕ) → args_of (defines w n (k + x) d s) args l y ≡ args_of s args l y
      at y = let h = low y in ap (λ (f : ℕ → ℕ). f l) (with_at-other s.vals (k + x) (λ j. if nat_lt j n then value w s j d else 0) (get_or args y no_val).0 (λ e. omega (arith, e, h)))

  first_temps : (s : State) (x : ℕ) (d : Def) (l : ℕ) → l < n → temps_of (defines w n (k + x) d s) k l ≡ with_at (temps_of s k l) x (value w s l d)
  first_temps s x d l h = λ z y. at y z
    where
      in_lane : (b : Bool) (y : ℕ) → (if b then (λ j. if nat_lt j n then value w s j d else 0) else s.vals (k + y)) l ≡ (if b then value w s l d else s.vals (k + y) l)
      in_lane true y = ap (λ b. if b then value w s l d else 0) (lt-ltb l n h)
      in_lane false y = refl

      at : (y : ℕ) → temps_of (defines w n (k + x) d s) k l y ≡ with_at (temps_of s k l) x (value w s l d) y
      at y = in_lane (k + y == k + x) y ∙ ap (λ b. if b then value w s l d else s.vals (k + y) l) (place_same k y x)

  pub recipe_runs : (steps : List Step) (s : State) → (t : State) × (run_all w n i (statements k args steps) s ≡ Ends t) × Ran w n k args steps s t
  recipe_runs [] s = (s, refl, record { temps = λ l h x. refl; old = λ v h. refl; vars = refl; arrays = refl; mem = refl; log = refl; transfers = refl; steps' = omega arith })
  recipe_runs (a ∷ rest) s =
      let d = definition k args a.act in
      let s1 = defines w n (k + a.to) d s in
      let r = recipe_runs rest s1 in
      let o = r.2 in (
        r.0,
        r.1,
        record {
          temps = λ l h x. o.temps l h x
              ∙ ap (λ f. after w l f (temps_of s1 k l) rest x) (first_args s a.to d l)
              ∙ ap (λ f. after w l (args_of s args l) f rest x) (first_temps s a.to d l h)
              ∙ ap (λ z. after w l (args_of s args l) (with_at (temps_of s k l) a.to z) rest x) (act_is w s k args l a.act);
          old = λ v h. o.old v h ∙ with_at-other s.vals (k + a.to) _ v (λ e. omega (arith, e, h));
          vars = o.vars;
          arrays = o.arrays;
          mem = o.mem;
          log = o.log;
          transfers = o.transfers;
          steps' = let e = done_same k args a.act in let q = o.steps' in omega (arith, e, q);
        },
      )

-- ---- a definition by a recipe

row_same : (n : ℕ) (f g : ℕ → ℕ) → ((l : ℕ) → l < n → f l ≡ g l) → ◌≡◌ {A = ℕ → ℕ} (λ l. if nat_lt l n then f l else 0) (λ l. if nat_lt l n then g l else 0)
row_same n f g h = λ i l. at l (bool_cases (nat_lt l n)) i
  where
    at : (l : ℕ) → (nat_lt l n ≡ true) ⊎ (nat_lt l n ≡ false) → (if nat_lt l n then f l else 0) ≡ (if nat_lt l n then g l else 0)
    at l (inl e) = ap (λ x. if nat_lt l n then x else 0) (h l (ltb-true l n e))
    at l (inr e) = ap (λ b. if b then f l else 0) e ∙ sym (ap (λ b. if b then g l else 0) e)

-- what stays as it was but for the temporaries
pub record Kept (k : ℕ) (s t : State) : Type 0 where
  pub old : (v : ℕ) → v < k → t.vals v ≡ s.vals v
  pub vars : t.vars ≡ s.vars
  pub arrays : t.arrays ≡ s.arrays
  pub mem : t.mem ≡ s.mem
  pub log : t.log ≡ s.log
  pub transfers : t.transfers ≡ s.transfers

module _ (w : World) (n i k : ℕ) (args : List Val) (low : Low k args) where
  pub args_same : (s t : State) → ((v : ℕ) → v < k → t.vals v ≡ s.vals v) → (l : ℕ) → args_of t args l ≡ args_of s args l
  args_same s t h l = λ z y. h (get_or args y no_val).0 (low y) z l

  -- the last act, where what it gives is what the definition gives
  pub last_defines : (v : ℕ) (d : Def) (last : Act) (s t u : State) → Met k s t → Kept k t u → v < k
      → ((l : ℕ) → l < n → gives w l (args_of t args l) (temps_of u k l) last ≡ value w s l d)
      → ((l : ℕ) → l < n → value w s l d < 2 ^ 32)
      → u.steps + done (definition k args last) ≤ s.steps + done d
      → EndsAs k (Ends (defines w n v d s)) (run_all w n i (Let (record { 0 = v }) (definition k args last) ∷ []) u)
  last_defines v d last s t u m r h e word c = (
    defines w n v (definition k args last) u,
    refl,
    record {
      same = record {
        vals = λ x g. λ z. if x == v then row_same n (λ l. value w u l (definition k args last)) (λ l. value w s l d) (λ l q. act_is w u k args l last ∙ ap (λ f. gives w l f (temps_of u k l) last) (args_same t u r.old l) ∙ e l q) z else (r.old x g ∙ m.same.vals x g) z;
        vars = r.vars ∙ m.same.vars;
        arrays = r.arrays ∙ m.same.arrays;
        mem = r.mem ∙ m.same.mem;
        log = r.log ∙ m.same.log;
        transfers = r.transfers ∙ m.same.transfers;
        steps = c;
      };
      words = record {
        vals = λ x l g. row_below (x == v) (λ j. if nat_lt j n then value w s j d else 0) (s.vals x) l (in_row l (nat_lt l n) refl) (m.words.vals x l g);
        vars = m.words.vars;
        arrays = m.words.arrays;
      };
    },
  )
    where
      in_row : (l : ℕ) (b : Bool) → nat_lt l n ≡ b → (if b then value w s l d else 0) < 2 ^ 32
      in_row l true q = word l (ltb-true l n q)
      in_row l false q = omega arith

  pub recipe_defines : (v : ℕ) (d : Def) (steps : List Step) (last : Act) (s t : State) → Met k s t → v < k
      → ((l : ℕ) → l < n → (y : ℕ → ℕ) → gives w l (args_of t args l) (after w l (args_of t args l) y steps) last ≡ value w s l d)
      → ((l : ℕ) → l < n → value w s l d < 2 ^ 32)
      → cost args steps + done (definition k args last) ≤ done d
      → EndsAs k (Ends (defines w n v d s)) (run_all w n i (defining k args steps last v) t)
  recipe_defines v d steps last s t m h e word c =
      let r = recipe_runs w n i k args low steps t in
      let u = r.0 in
      let o = r.2 in
      let z = o.steps' in
      let y = m.same.steps in
      subst (EndsAs k (Ends (defines w n v d s))) (sym (run-append w n i (statements k args steps) (Let (record { 0 = v }) (definition k args last) ∷ []) t ∙ ap (λ p. and_then p (run_all w n i (Let (record { 0 = v }) (definition k args last) ∷ []))) r.1))
      (last_defines v d last s t u m (record { old = o.old; vars = o.vars; arrays = o.arrays; mem = o.mem; log = o.log; transfers = o.transfers }) h
      (λ l q. ap (λ f. gives w l (args_of t args l) f last) (λ j x. o.temps l q x j) ∙ e l q (temps_of t k l)) word (omega (arith, z, y, c)))
