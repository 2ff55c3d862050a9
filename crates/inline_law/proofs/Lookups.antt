-- The body of a called function, and what a call of it does, by its number.
use Rattle.std.proofs.Common.{◌≡◌, ℕ, zero, suc, ◌<◌, ◌≤◌, Bool, true, false, List, Option, Some, refl, sym, ap, ◌∙◌, arith, nat_eq}
use Rattle.std.specs.Prelude.{slice_get, if◌then◌else◌}
use Rattle.std.proofs.lemmas.Bool.Decides.{nat_tests}
use Rattle.q_functions.specs.declared.work.Work.{Work}
use Rattle.clc_types.specs.declared.typed.Var.{Var}
use Rattle.clc_types.specs.declared.typed.TFunction.{TFunction}
use Rattle.clc_inline.specs.declared.body.TStmt.TheVariants as st
use Rattle.clc_inline.specs.Inlining.{just, body_of, bodies_below}
use Rattle.item_meaning.specs.declared.values.Value.{Value}
use Rattle.item_meaning.specs.ItemState.{State}
use Rattle.item_meaning.specs.ItemMeaning.{called, calls_below}

differs : (a b : ℕ) → b < a → nat_eq a b ≡ false
differs a b h = grind (arith, nat_tests)

equal : (a b : ℕ) → nat_eq a b ≡ true → a ≡ b
equal a b e = grind (arith, nat_tests)

below : (a b : ℕ) → a < suc b → nat_eq a b ≡ false → a < b
below a b l e = grind (arith, nat_tests)

if_false : {A : Type 0} (b : Bool) (x y : A) → b ≡ false → (if b then x else y) ≡ y
if_false true x y e = absurd (cc)
if_false false x y e = refl

if_cases : {A : Type 0} (b : Bool) (x y z : A) → (b ≡ true → x ≡ z) → (b ≡ false → y ≡ z) → (if b then x else y) ≡ z
if_cases true x y z f g = f refl
if_cases false x y z f g = g refl

module _ (fs : List TFunction) (k base : ℕ) (vars : List Var) where
  pub none_made : (n : ℕ) → n ≤ k → bodies_below fs n k base vars ≡ just st.Empty vars
  none_made zero h = refl
  none_made (suc n) h =
      if_false (nat_eq k n) (body_of fs (bodies_below fs n) (slice_get fs k) base vars) (bodies_below fs n k base vars) (differs k n (omega (arith, h))) ∙ none_made n (omega (arith, h))

  one_made : (n : ℕ) → k < n → bodies_below fs n k base vars ≡ body_of fs (bodies_below fs k) (slice_get fs k) base vars
  one_made zero h = absurd (omega (arith, h))
  one_made (suc n) h =
      if_cases (nat_eq k n) (body_of fs (bodies_below fs n) (slice_get fs k) base vars) (bodies_below fs n k base vars) (body_of fs (bodies_below fs k) (slice_get fs k) base vars)
      (λ e. ap (λ m. body_of fs (bodies_below fs m) (slice_get fs k) base vars) (sym (equal k n e)))
      (λ e. one_made n (below k n h e))

  pub function_made : (n : ℕ) (o : Option TFunction) → k < n → slice_get fs k ≡ o → bodies_below fs n k base vars ≡ body_of fs (bodies_below fs k) o base vars
  function_made n o h g = one_made n h ∙ ap (λ (p : Option TFunction). body_of fs (bodies_below fs k) p base vars) g

module _ (work : Work) (fs : List TFunction) (k : ℕ) where
  one_called : (n : ℕ) (xs : List Value) (s : State) → k < n → calls_below work fs n k xs s ≡ called work (calls_below work fs k) (slice_get fs k) xs s
  one_called zero xs s h = absurd (omega (arith, h))
  one_called (suc n) xs s h =
      if_cases (nat_eq k n) (called work (calls_below work fs n) (slice_get fs k) xs s) (calls_below work fs n k xs s) (called work (calls_below work fs k) (slice_get fs k) xs s)
      (λ e. ap (λ m. called work (calls_below work fs m) (slice_get fs k) xs s) (sym (equal k n e)))
      (λ e. one_called n xs s (below k n h e))

  pub function_called : (n : ℕ) (f : TFunction) (xs : List Value) (s : State) → k < n → slice_get fs k ≡ Some f → calls_below work fs n k xs s ≡ called work (calls_below work fs k) (Some f) xs s
  function_called n f xs s h g = one_called n xs s h ∙ ap (λ (o : Option TFunction). called work (calls_below work fs k) o xs s) g
