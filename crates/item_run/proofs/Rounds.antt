-- A loop as rounds, each of which goes on or ends the loop.
use Rattle.std.proofs.Common.{◌≡◌, ℕ, zero, suc, pred, ◌<◌, ◌≤◌, Option, Some, None, refl, sym, ap, ◌∙◌, subst, arith}
use Rattle.item_meaning.specs.declared.values.Value.{Value}
use Rattle.item_meaning.specs.declared.values.Value.TheVariants.{Num, Null, At}
use Rattle.item_meaning.specs.declared.values.Flow.{Flow}
use Rattle.item_meaning.specs.declared.values.Flow.TheVariants.{Next, Broke, Again, Returned}
use Rattle.item_meaning.specs.ItemState.{State, Run, Goes, Bounds, Spent, then_do, by_truth, after_body}
use Rattle.item_meaning.specs.NodeMeanings.{Part}
use Rattle.item_meaning.specs.StatementMeanings.{rounds, rounds_first}
use Rattle.item_values.specs.declared.stop.Stop.{Stop}
use Rattle.item_values.specs.declared.stop.Stop.TheVariants as st
use Rattle.item_values.specs.Answers.{Stops}
use Rattle.item_run.specs.Lists.{after_round, round, after_first, round_first, ended_by, rounds_of}
use Rattle.item_run.proofs.Parts.{along, stops}

module _ (test : Part Value) (body step : Part Flow) where
  stepped_are : (r : Run Flow) (f g : State → Run Flow) → ((y : State) → f y ≡ g y) → then_do r (λ x y. f y) ≡ then_do (then_do r (λ x t. Goes None t)) (λ o t. ended_by o t g)
  stepped_are (Goes x y) f g h = h y
  stepped_are (Bounds at) f g h = refl
  stepped_are Spent f g h = refl

  body_are : (r : Run Flow) (f g : State → Run Flow) → ((y : State) → f y ≡ g y)
      → then_do r (λ x u. after_body x u (λ w. then_do (step w) (λ z y. f y))) ≡ then_do (then_do r (λ x u. after_round x u step)) (λ o t. ended_by o t g)
  body_are (Goes Next u) f g h = stepped_are (step u) f g h
  body_are (Goes Broke u) f g h = refl
  body_are (Goes Again u) f g h = stepped_are (step u) f g h
  body_are (Goes (Returned v) u) f g h = refl
  body_are (Bounds at) f g h = refl
  body_are Spent f g h = refl

  test_are : (r : Run Value) (f g : State → Run Flow) → ((y : State) → f y ≡ g y)
      → then_do r (λ x t. by_truth x (then_do (body t) (λ z u. after_body z u (λ w. then_do (step w) (λ q y. f y)))) (Goes Next t))
      ≡ then_do (then_do r (λ x t. by_truth x (then_do (body t) (λ z u. after_round z u step)) (Goes (Some Next) t))) (λ o t. ended_by o t g)
  test_are (Goes (Num zero) t) f g h = refl
  test_are (Goes (Num (suc k)) t) f g h = body_are (body t) f g h
  test_are (Goes Null t) f g h = refl
  test_are (Goes (At k o) t) f g h = refl
  test_are (Bounds at) f g h = refl
  test_are Spent f g h = refl

  pub rounds_are : (i : ℕ) (s : State) → rounds i test body step s ≡ rounds_of i (round test body step) s
  rounds_are zero s = refl
  rounds_are (suc i) s = test_are (test s) (rounds i test body step) (rounds_of i (round test body step)) (λ y. rounds_are i y)

module _ (body : Part Flow) (test : Part Value) where
  last_are : (r : Run Value) (f g : State → Run Flow) → ((y : State) → f y ≡ g y)
      → then_do r (λ x w. by_truth x (f w) (Goes Next w)) ≡ then_do (then_do r (λ x t. by_truth x (Goes None t) (Goes (Some Next) t))) (λ o t. ended_by o t g)
  last_are (Goes (Num zero) t) f g h = refl
  last_are (Goes (Num (suc k)) t) f g h = h t
  last_are (Goes Null t) f g h = refl
  last_are (Goes (At k o) t) f g h = refl
  last_are (Bounds at) f g h = refl
  last_are Spent f g h = refl

  first_are : (r : Run Flow) (f g : State → Run Flow) → ((y : State) → f y ≡ g y)
      → then_do r (λ x t. after_body x t (λ u. then_do (test u) (λ z w. by_truth z (f w) (Goes Next w)))) ≡ then_do (then_do r (λ x t. after_first x t test)) (λ o t. ended_by o t g)
  first_are (Goes Next t) f g h = last_are (test t) f g h
  first_are (Goes Broke t) f g h = refl
  first_are (Goes Again t) f g h = last_are (test t) f g h
  first_are (Goes (Returned v) t) f g h = refl
  first_are (Bounds at) f g h = refl
  first_are Spent f g h = refl

  pub rounds_first_are : (i : ℕ) (s : State) → rounds_first i body test s ≡ rounds_of i (round_first body test) s
  rounds_first_are zero s = refl
  rounds_first_are (suc i) s = first_are (body s) (rounds_first i body test) (rounds_of i (round_first body test)) (λ y. rounds_first_are i y)

pub below_pred : (x y i : ℕ) → x < y → y ≤ i → x ≤ pred i
below_pred x y zero h l = absurd (omega arith)
below_pred x y (suc i) h l = omega arith

-- ---- a round, as it is done

module _ (one : Part (Option Flow)) (s : State) where
  -- it ends the loop
  over : (i : ℕ) (x : Flow) (t : State) → 0 < i → one s ≡ Goes (Some x) t → rounds_of i one s ≡ Goes x t
  over zero x t l h = absurd (omega arith)
  over (suc i) x t l h = ap (λ r. then_do r (λ o u. ended_by o u (rounds_of i one))) h

  -- or goes on
  more : (i : ℕ) (t : State) → 0 < i → one s ≡ Goes None t → rounds_of i one s ≡ rounds_of (pred i) one t
  more zero t l h = absurd (omega arith)
  more (suc i) t l h = ap (λ r. then_do r (λ o u. ended_by o u (rounds_of i one))) h

  -- or stops
  out : (i : ℕ) (e : Stop) → (i ≡ 0 → one s ≡ Spent) → Stops (one s) e → Stops (rounds_of i one s) e
  out zero e p h = stops {r = Spent} (λ o u. Goes Next u) (along {r = Spent} {q = one s} (sym (p refl)) h)
  out (suc i) e p h = stops (λ o u. ended_by o u (rounds_of i one)) h

  pub loop_over : (i : ℕ) (x : Flow) (t : State) (whole : Run Flow) → rounds_of i one s ≡ whole → 0 < i → one s ≡ Goes (Some x) t → whole ≡ Goes x t
  loop_over i x t whole is l h = sym is ∙ over i x t l h

  pub loop_goes : (i : ℕ) (t : State) (whole : Run Flow) → rounds_of i one s ≡ whole → 0 < i → one s ≡ Goes None t → rounds_of (pred i) one t ≡ whole
  loop_goes i t whole is l h = sym (more i t l h) ∙ is

  pub loop_stops : (i : ℕ) (e : Stop) (whole : Run Flow) → rounds_of i one s ≡ whole → (i ≡ 0 → one s ≡ Spent) → Stops (one s) e → Stops whole e
  loop_stops i e whole is p h = along (sym is) (out i e p h)

  -- a round that goes on has a turn
  pub some_left : (i : ℕ) (o : Option Flow) (t : State) → (i ≡ 0 → one s ≡ Spent) → one s ≡ Goes o t → 0 < i
  some_left zero o t p h = let q = p refl in absurd (cc)
  some_left (suc i) o t p h = omega arith
