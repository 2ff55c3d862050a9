-- What a well-typed program says of the function with a number.
use Rattle.std.proofs.Common.{◌≡◌, ℕ, zero, suc, ◌<◌, ◌≤◌, true, false, List, [], ◌∷◌, ◌++◌, Option, Some, None, take, length, refl, sym, subst, arith, append-nil, append_assoc}
use Rattle.std.specs.Prelude.{not, nat_le, slice_get}
use Rattle.std.proofs.lemmas.Bool.Decides.{nat_tests}
use Rattle.std.proofs.lemmas.List.{length-take-le}
use Rattle.std.proofs.lemmas.Option.{slice_get_within}
use Rattle.q_lane.specs.declared.kinds.Scalar.{Scalar}
use Rattle.clc_types.specs.declared.typed.Ty.{Ty}
use Rattle.clc_types.specs.declared.typed.TExpr.{TExpr}
use Rattle.clc_types.specs.declared.typed.Var.{Var}
use Rattle.clc_types.specs.declared.typed.Var.TheVariants as var
use Rattle.clc_types.specs.declared.typed.TFunction.{TFunction}
use Rattle.clc_types.specs.WellTyped.{Seen, is_array, is_variable, is_array_of, is_call, is_declared, no_arrays, counts, declared, stmt_fits, function_fits, functions_fit, is_well_typed}
use Rattle.inline_law.proofs.Growing.{and_left, and_right}
use Rattle.inline_law.proofs.Seen.{accepted_many, call_accepted}

found_first : (a b : TFunction) (fs : List TFunction) → Some a ≡ Some b → function_fits fs a ≡ true → function_fits fs b ≡ true
found_first a b fs h i = let same : a ≡ b = cc in subst (λ z. function_fits fs z ≡ true) same i

fits_after : (before fs : List TFunction) (k : ℕ) (f : TFunction) → functions_fit before fs ≡ true → slice_get fs k ≡ Some f → function_fits (before ++ take k fs) f ≡ true
fits_after before [] k f h e = absurd (cc)
fits_after before (g ∷ gs) zero f h e =
    subst (λ z. function_fits z f ≡ true) (sym (append-nil before)) (found_first g f before e (and_left (function_fits before g) (functions_fit (before ++ g ∷ []) gs) h))
fits_after before (g ∷ gs) (suc k) f h e =
    subst (λ z. function_fits z f ≡ true) (append_assoc before (g ∷ []) (take k gs))
    (fits_after (before ++ g ∷ []) gs k f (and_right (function_fits before g) (functions_fit (before ++ g ∷ []) gs) h) e)

at_most : (a b : ℕ) → nat_le a b ≡ true → a ≤ b
at_most a b h = grind (arith, nat_tests)

-- ---- variables that are named are there, and no parameter is an array

pub variable_below : (vars : List Var) (v : ℕ) (t : Ty) → is_variable (slice_get vars v) t ≡ true → v < length vars
variable_below vars v t h = by (slice_get vars v) refl h
  where
    by : (o : Option Var) → slice_get vars v ≡ o → is_variable o t ≡ true → v < length vars
    by None e i = absurd (cc)
    by (Some x) e i = slice_get_within vars v x e

pub array_below : (vars : List Var) (v : ℕ) (t : Ty) → is_array_of (slice_get vars v) t ≡ true → v < length vars
array_below vars v t h = by (slice_get vars v) refl h
  where
    by : (o : Option Var) → slice_get vars v ≡ o → is_array_of o t ≡ true → v < length vars
    by None e i = absurd (cc)
    by (Some x) e i = slice_get_within vars v x e

no_array : (v : Var) (t : Ty) → not (is_array v) ≡ true → is_array_of (Some v) t ≡ true → ⊥
no_array (var.Value s) t h i = absurd (cc)
no_array (var.Pointer e c) t h i = absurd (cc)
no_array (var.Array e n) t h i = absurd (cc)

pub array_behind : (vars : List Var) (p v : ℕ) (t : Ty) → no_arrays (take p vars) ≡ true → is_array_of (slice_get vars v) t ≡ true → p ≤ v
array_behind vars zero v t c h = omega arith
array_behind [] (suc p) v t c h = absurd (cc)
array_behind (x ∷ xs) (suc p) zero t c h = absurd (no_array x t (and_left (not (is_array x)) (no_arrays (take p xs)) c) h)
array_behind (x ∷ xs) (suc p) (suc v) t c h = let i = array_behind xs p v t (and_right (not (is_array x)) (no_arrays (take p xs)) c) h in omega (arith, i)

module _ (vars : List Var) (before : List TFunction) (result : Option Scalar) where
  pub declared_below : (v : ℕ) (i : Option TExpr) → is_declared vars before result (slice_get vars v) i ≡ true → v < length vars
  declared_below v i h = by (slice_get vars v) refl h
    where
      by : (o : Option Var) → slice_get vars v ≡ o → is_declared vars before result o i ≡ true → v < length vars
      by None e j = absurd (cc)
      by (Some x) e j = slice_get_within vars v x e

-- ---- a function

module _ (functions : List TFunction) (k : ℕ) (f : TFunction) (typed : is_well_typed functions ≡ true) (found : slice_get functions k ≡ Some f) where
  fits_all : function_fits (take k functions) f ≡ true
  fits_all = fits_after [] functions k f typed found

  pub params_within : f.params ≤ length f.vars
  params_within = at_most f.params (length f.vars) (and_right _ _ (and_left _ _ (and_left _ _ (and_left _ _ (and_left _ _ (and_left _ _ fits_all))))))

  pub params_plain : no_arrays (take f.params f.vars) ≡ true
  params_plain = and_right _ _ (and_left _ _ (and_left _ _ (and_left _ _ (and_left _ _ fits_all))))

  pub others_counted : counts f.params (length f.vars) (declared f.body) ≡ true
  others_counted = and_right _ _ (and_left _ _ (and_left _ _ fits_all))

  pub body_fits : stmt_fits f.vars (take k functions) f.result f.body false ≡ true
  body_fits = and_right _ _ fits_all

-- ---- a call

found_before : {A : Type 0} (xs : List A) (k j : ℕ) (a : A) → slice_get (take k xs) j ≡ Some a → (j < k) × (slice_get xs j ≡ Some a)
found_before xs zero j a h = absurd (cc)
found_before [] (suc k) j a h = absurd (cc)
found_before (x ∷ xs) (suc k) zero a h = (omega arith, h)
found_before (x ∷ xs) (suc k) (suc j) a h = let i = found_before xs k j a h in let l = i.0 in (omega (arith, l), i.1)

-- the function that is called stands before, and takes so many arguments
pub callee_of : (functions : List TFunction) (k j : ℕ) (xs : List Seen) (t : Ty) → is_well_typed functions ≡ true → is_call (slice_get (take k functions) j) xs t ≡ true
    → (j < k) × ((g : TFunction) × (slice_get functions j ≡ Some g) × (length xs ≡ g.params))
callee_of functions k j xs t typed h = by (slice_get (take k functions) j) refl h
  where
    by : (o : Option TFunction) → slice_get (take k functions) j ≡ o → is_call o xs t ≡ true → (j < k) × ((g : TFunction) × (slice_get functions j ≡ Some g) × (length xs ≡ g.params))
    by None e i = absurd (cc)
    by (Some g) e i =
        let d = found_before functions k j g e in
        let many = accepted_many (take g.params g.vars) xs (call_accepted g xs t i) in
        let cut = length-take-le g.params g.vars (params_within functions j g typed d.1) in
        (d.0, (g, d.1, omega (arith, many, cut)))
