-- What a well-typed program says at one place: of the function with a number, of a call, and of a variable that is named.
use Rattle.std.proofs.Common.{◌≡◌, ℕ, zero, suc, ◌<◌, true, List, [], ◌∷◌, ◌++◌, Option, Some, None, take, slice_get, length, refl, sym, ap, ◌∙◌, subst, append-nil, append_assoc}
use Rattle.std.proofs.lemmas.Bool.{and_parts}
use Rattle.std.proofs.lemmas.Option.{slice_get_within}
use Rattle.clc_types.specs.declared.typed.Ty.{Ty}
use Rattle.clc_types.specs.declared.typed.Var.{Var}
use Rattle.clc_types.specs.declared.typed.TFunction.{TFunction}
use Rattle.clc_types.specs.WellTyped.{Seen, is_variable, is_array_of, is_call, function_fits, functions_fit, is_well_typed}

found_first : (a b : TFunction) (fs : List TFunction) → Some a ≡ Some b → function_fits fs a ≡ true → function_fits fs b ≡ true
found_first a b fs h i = let same : a ≡ b = cc in subst (λ z. function_fits fs z ≡ true) same i

fits_after : (before fs : List TFunction) (k : ℕ) (f : TFunction) → functions_fit before fs ≡ true → slice_get fs k ≡ Some f → function_fits (before ++ take k fs) f ≡ true
fits_after before [] k f h e = absurd (cc)
fits_after before (g ∷ gs) zero f h e =
    let d = and_parts (function_fits before g) (functions_fit (before ++ g ∷ []) gs) h in
    subst (λ z. function_fits z f ≡ true) (sym (append-nil before)) (found_first g f before e d.0)
fits_after before (g ∷ gs) (suc k) f h e =
    let d = and_parts (function_fits before g) (functions_fit (before ++ g ∷ []) gs) h in
    subst (λ z. function_fits z f ≡ true) (append_assoc before (g ∷ []) (take k gs)) (fits_after (before ++ g ∷ []) gs k f d.1 e)

-- each function fits after those before it
pub function_at : (fs : List TFunction) (k : ℕ) (f : TFunction) → is_well_typed fs ≡ true → slice_get fs k ≡ Some f → function_fits (take k fs) f ≡ true
function_at fs k f h e = fits_after [] fs k f h e

-- a call is of one of the functions before
pub callee_below : (before : List TFunction) (f : ℕ) (xs : List Seen) (t : Ty) → is_call (slice_get before f) xs t ≡ true → f < length before
callee_below before f xs t h = by (slice_get before f) refl h
  where
    by : (o : Option TFunction) → slice_get before f ≡ o → is_call o xs t ≡ true → f < length before
    by None e i = absurd (cc)
    by (Some g) e i = slice_get_within before f g e

-- a variable that is named is there
pub variable_below : (vars : List Var) (v : ℕ) (t : Ty) → is_variable (slice_get vars v) t ≡ true → v < length vars
variable_below vars v t h = by (slice_get vars v) refl h
  where
    by : (o : Option Var) → slice_get vars v ≡ o → is_variable o t ≡ true → v < length vars
    by None e i = absurd (cc)
    by (Some x) e i = slice_get_within vars v x e

pub array_below : (vars : List Var) (v : ℕ) (t : Ty) → is_array_of (slice_get vars v) t ≡ true → v < length vars
array_below vars v t h = by (slice_get vars v) refl h
  where
    by : (o : Option Var) → slice_get vars v ≡ o → is_array_of o t ≡ true → v < length vars
    by None e i = absurd (cc)
    by (Some x) e i = slice_get_within vars v x e
