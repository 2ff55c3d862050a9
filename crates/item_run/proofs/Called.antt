-- Calls by the number of the function, and what is spent where no turn is left.
use Rattle.std.proofs.Common.{◌≡◌, ℕ, zero, suc, ◌<◌, ◌≤◌, Bool, true, false, List, [], ◌∷◌, length, get_or, Option, Some, None, refl, sym, ap, ◌∙◌, subst, arith, nat_eq}
use Rattle.std.specs.Prelude.{slice_get, if◌then◌else◌}
use Rattle.q_functions.specs.declared.work.Work.{Work}
use Rattle.clc_types.specs.declared.typed.TFunction.{TFunction}
use Rattle.item_meaning.specs.declared.values.Value.{Value}
use Rattle.item_meaning.specs.ItemState.{State, Run, Goes, Bounds, Spent, then_do}
use Rattle.item_meaning.specs.StatementMeanings.{call_end}
use Rattle.item_meaning.specs.ItemMeaning.{Calls, called, calls_below, does, entered, back_in}
use Rattle.std.proofs.lemmas.Bool.Decides.{nat_tests}

differs : (a b : ℕ) → b < a → nat_eq a b ≡ false
differs a b h = grind (arith, nat_tests)

equal : (a b : ℕ) → nat_eq a b ≡ true → a ≡ b
equal a b e = grind (arith, nat_tests)

below : (a b : ℕ) → a < suc b → nat_eq a b ≡ false → a < b
below a b l e = grind (arith, nat_tests)

if_false : {A : Type 0} (b : Bool) (x y : A) → b ≡ false → (if b then x else y) ≡ y
if_false true x y e = absurd (cc)
if_false false x y e = refl

if_cases : {A : Type 0} (b : Bool) (x y z : A) → (b ≡ true → x ≡ z) → (b ≡ false → y ≡ z) → (if b then x else y) ≡ z
if_cases true x y z f g = f refl
if_cases false x y z f g = g refl

pub get_none : {A : Type 0} (xs : List A) (i : ℕ) → length xs ≤ i → slice_get xs i ≡ None
get_none [] i h = refl
get_none (x ∷ xs) zero h = absurd (omega arith)
get_none (x ∷ xs) (suc i) h = get_none xs i (omega arith)

pub get_some : {A : Type 0} (xs : List A) (i : ℕ) (x : A) → i < length xs → x ≡ get_or xs i x → slice_get xs i ≡ Some x
get_some [] i x h e = absurd (omega arith)
get_some (y ∷ xs) zero x h e = ap Some (sym e)
get_some (y ∷ xs) (suc i) x h e = get_some xs i x (omega arith) e

module _ (w : Work) (fs : List TFunction) (k : ℕ) (xs : List Value) (s : State) where
  pub no_call : (n : ℕ) → n ≤ k → calls_below w fs n k xs s ≡ Spent
  no_call zero h = refl
  no_call (suc n) h =
      if_false (nat_eq k n) (called w (calls_below w fs n) (slice_get fs k) xs s) (calls_below w fs n k xs s) (differs k n (omega arith)) ∙ no_call n (omega arith)

  pub the_call : (n : ℕ) → k < n → calls_below w fs n k xs s ≡ called w (calls_below w fs k) (slice_get fs k) xs s
  the_call zero h = absurd (omega arith)
  the_call (suc n) h =
      if_cases (nat_eq k n) (called w (calls_below w fs n) (slice_get fs k) xs s) (calls_below w fs n k xs s) (called w (calls_below w fs k) (slice_get fs k) xs s)
      (λ e. ap (λ m. called w (calls_below w fs m) (slice_get fs k) xs s) (sym (equal k n e)))
      (λ e. the_call n (below k n h e))

  pub the_body : (n : ℕ) (f : TFunction) → k < n → slice_get fs k ≡ Some f
      → calls_below w fs n k xs s ≡ then_do (does w (calls_below w fs k) f.vars f.body (entered f xs s)) (λ flow t. call_end f.result flow (back_in s t))
  the_body n f h g = the_call n h ∙ ap (λ (o : Option TFunction). called w (calls_below w fs k) o xs s) g

  pub no_function : (n : ℕ) → k < n → slice_get fs k ≡ None → calls_below w fs n k xs s ≡ Spent
  no_function n h g = the_call n h ∙ ap (λ (o : Option TFunction). called w (calls_below w fs k) o xs s) g
