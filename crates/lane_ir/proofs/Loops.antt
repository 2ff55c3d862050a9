-- A loop over a recipe that counts down in each lane.
use Rattle.std.proofs.Common.{◌≡◌, ℕ, zero, suc, ◌+◌, ◌*◌, ◌-◌, ◌<◌, ◌≤◌, inl, inr, Bool, true, false, List, [], refl, sym, ap, ◌∙◌, subst, arith}
use Rattle.std.specs.Prelude.{◌||◌, if◌then◌else◌}
use Rattle.std.proofs.lemmas.Bool.{cases_lt}
use Rattle.item_ir.specs.declared.form.Val.{Val}
use Rattle.lane_ir.specs.Weights.{test_done}
use Rattle.lane_ir.specs.LaneMeaning.{World, State, Ends, and_then, is_on, any_on, costs, rounds, run_all}
use Rattle.lane_ir.specs.Recipe.{statements, after, cost}
use Rattle.lane_ir.specs.declared.recipe.Step.{Step}
use Rattle.lane_ir.proofs.Steps.{bool_cases}
use Rattle.lane_ir.proofs.Recipes.{Low, args_of, temps_of, recipe_runs, Kept, args_same}

off : (x : ℕ) → x ≡ 0 → is_on x ≡ false
off x e = ap is_on e

both_off : (a b : Bool) → a ≡ false → b ≡ false → (a || b) ≡ false
both_off a b e f = rw (e, f) refl

pub none_on : (n : ℕ) (f : ℕ → ℕ) → ((l : ℕ) → l < n → f l ≡ 0) → any_on n f ≡ false
none_on zero f h = refl
none_on (suc n) f h = both_off (any_on n f) (is_on (f n)) (none_on n f (λ l q. h l (omega (arith, q)))) (off (f n) (h n (omega arith)))

first_off : (a b : Bool) → (a || b) ≡ false → a ≡ false
first_off true b e = e
first_off false b e = refl

second_off : (a b : Bool) → (a || b) ≡ false → b ≡ false
second_off true true e = e
second_off true false e = refl
second_off false b e = e

zero_off : (x : ℕ) → is_on x ≡ false → x ≡ 0
zero_off zero e = refl
zero_off (suc x) e = cc

pub each_off : (n : ℕ) (f : ℕ → ℕ) → any_on n f ≡ false → (l : ℕ) → l < n → f l ≡ 0
each_off zero f e l h = absurd (omega (arith, h))
each_off (suc n) f e l h = elim (cases_lt l n) [
  | inl q ↦ each_off n f (first_off (any_on n f) (is_on (f n)) e) l q
  | inr q ↦ let same : l ≡ n = omega (arith, h, q) in ap f same ∙ zero_off (f n) (second_off (any_on n f) (is_on (f n)) e)
]

pub record Looped (w : World) (n k c : ℕ) (args : List Val) (body : List Step) (I : ℕ → (ℕ → ℕ) → Type 0) (most : ℕ) (s t : State) : Type 0 where
  pub holds : (l : ℕ) → l < n → I l (temps_of t k l)
  pub ends : (l : ℕ) → l < n → temps_of t k l c ≡ 0
  pub kept : Kept k s t
  pub steps : t.steps ≤ s.steps + test_done + most * (test_done + cost args body)

not_both : {A : Type 0} (b : Bool) → b ≡ true → b ≡ false → A
not_both b e f = cc

module _ (w : World) (n i k c : ℕ) (args : List Val) (low : Low k args) (body : List Step) (x : ℕ → ℕ → ℕ) (I : ℕ → (ℕ → ℕ) → Type 0)
    (round : (l : ℕ) → l < n → (y : ℕ → ℕ) → I l y → I l (after w l (x l) y body) × (after w l (x l) y body c ≡ y c - 1)) where
  pub loop_runs : (most fuel : ℕ) (s : State) → ((l : ℕ) → args_of s args l ≡ x l) → ((l : ℕ) → l < n → I l (temps_of s k l)) → ((l : ℕ) → l < n → temps_of s k l c ≤ most) → most < fuel
      → (t : State) × (rounds n fuel (run_all w n i []) (k + c) (run_all w n i (statements k args body)) s ≡ Ends t) × Looped w n k c args body I most s t
  loop_runs most zero s ha hi hm q = absurd (omega (arith, q))
  loop_runs zero (suc fuel) s ha hi hm q =
      let e : any_on n (s.vals (k + c)) ≡ false = none_on n (s.vals (k + c)) (λ l h. let z = hm l h in omega (arith, z)) in (
        costs test_done s,
        ap (λ b. if b then and_then (run_all w n i (statements k args body) (costs test_done s)) (rounds n fuel (run_all w n i []) (k + c) (run_all w n i (statements k args body))) else Ends (costs test_done s)) e,
        record { holds = hi; ends = λ l h. let z = hm l h in omega (arith, z); kept = record { old = λ v h. refl; vars = refl; arrays = refl; mem = refl; log = refl; transfers = refl }; steps = omega arith },
      )
  loop_runs (suc most) (suc fuel) s ha hi hm q =
      elim (bool_cases (any_on n (s.vals (k + c)))) [
        | inr e ↦ (
          costs test_done s,
          ap (λ b. if b then and_then (run_all w n i (statements k args body) (costs test_done s)) (rounds n fuel (run_all w n i []) (k + c) (run_all w n i (statements k args body))) else Ends (costs test_done s)) e,
          record { holds = hi; ends = λ l h. each_off n (s.vals (k + c)) e l h; kept = record { old = λ v h. refl; vars = refl; arrays = refl; mem = refl; log = refl; transfers = refl }; steps = omega arith },
        )
        | inl e ↦
            let s1 = costs test_done s in
            let r = recipe_runs w n i k args low body s1 in
            let o = r.2 in
            let temps : (l : ℕ) → l < n → temps_of r.0 k l ≡ after w l (x l) (temps_of s k l) body = λ l h. (λ j y. o.temps l h y j) ∙ ap (λ f. after w l f (temps_of s k l) body) (ha l) in
            let next = loop_runs most fuel r.0
            (λ l. args_same w n i k args low s r.0 o.old l ∙ ha l)
            (λ l h. subst (I l) (sym (temps l h)) (round l h (temps_of s k l) (hi l h)).0)
            (λ l h. let a = ap (λ f. f c) (temps l h) in let b = (round l h (temps_of s k l) (hi l h)).1 in let d = hm l h in omega (arith, a, b, d))
            (omega (arith, q)) in
            let p = next.2 in
            let cb = o.steps' in
            let cp = p.steps in (
              next.0,
              ap (λ b. if b then and_then (run_all w n i (statements k args body) s1) (rounds n fuel (run_all w n i []) (k + c) (run_all w n i (statements k args body))) else Ends s1) e
                  ∙ ap (λ z. and_then z (rounds n fuel (run_all w n i []) (k + c) (run_all w n i (statements k args body)))) r.1 ∙ next.1,
              record {
                holds = p.holds;
                ends = p.ends;
                kept = record {
                  old = λ v h. p.kept.old v h ∙ o.old v h;
                  vars = p.kept.vars ∙ o.vars;
                  arrays = p.kept.arrays ∙ o.arrays;
                  mem = p.kept.mem ∙ o.mem;
                  log = p.kept.log ∙ o.log;
                  transfers = p.kept.transfers ∙ o.transfers;
                };
                steps = total s.steps r.0.steps next.0.steps (cost args body) most cb cp;
              },
            )
      ]
    where
      total : (a b d e m : ℕ) → b ≡ a + test_done + e → d ≤ b + test_done + m * (test_done + e) → d ≤ a + test_done + suc m * (test_done + e)
      total a b d e m p q = grind arith
