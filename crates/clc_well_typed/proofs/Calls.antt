-- Calls: arguments that parameters accept, and built-in functions.
use Rattle.std.proofs.Common.{◌≡◌, ℕ, suc, Bool, true, false, not, ◌&&◌, ◌||◌, eqb, List, [], ◌∷◌, ◌++◌, Option, Some, None, take, slice_get, length, refl, sym, ap, ap₂, ◌∙◌, arith, eqb-true}
use Rattle.std.proofs.lemmas.Bool.{not-false}
use Rattle.std.specs.Prelude.{map}
use Rattle.clc_lexer.specs.declared.token.Token.{Token}
use Rattle.q_lane.specs.declared.kinds.Scalar.{Scalar}
use Rattle.clc_types.specs.declared.type_rule.TypeRule.TheVariants.{S6, S7}
use Rattle.clc_types.specs.declared.typed.Builtin.{Builtin}
use Rattle.clc_types.specs.declared.typed.Builtin.TheVariants as b
use Rattle.clc_types.specs.declared.typed.Ty.TheVariants as ty
use Rattle.clc_types.specs.declared.typed.Var.{Var}
use Rattle.clc_types.specs.declared.typed.Node.TheVariants as n
use Rattle.clc_types.specs.declared.typed.TFunction.{TFunction}
use Rattle.clc_types.specs.declared.forms.Shape.{Shape}
use Rattle.clc_types.specs.declared.forms.Kind.{Kind}
use Rattle.clc_types.specs.declared.forms.Kind.TheVariants as k
use Rattle.clc_types.specs.declared.forms.Place.TheVariants as place
use Rattle.clc_types.specs.declared.forms.Form.{Form}
use Rattle.clc_types.specs.declared.forms.Argument.{Argument}
use Rattle.clc_types.specs.declared.forms.Signature.{Signature}
use Rattle.clc_types.specs.Judged.{violations}
use Rattle.clc_types.specs.Rules.{is_array as is_array_kind, same_scalar, matches, kind_of, ty_of, result_kind, call_kind, fits, number, builtin_params, builtin_needs, is_uint, int_or_uint, scalar_of, all_are, some_uint, one_or_common, number_type, work_of, gives}
use Rattle.clc_types.specs.Typing.{argument, exprs, call_form, builtin_form}
use Rattle.clc_types.specs.WellTyped.{is_number, same_type, accepts, kind_of_type, value_type, all_values, typed_arguments, all_accepted, is_call, seen}
use Rattle.clc_well_typed.proofs.Judging.{append_none, not_violated, yes, yes3, yes4}
use Rattle.clc_well_typed.proofs.Taken.{same_self, scalar_same, scalar_kept}
use Rattle.clc_well_typed.proofs.TypedNodes.{seen_call, seen_builtin}
use Rattle.clc_well_typed.proofs.Forms.{Reads, as_value, Sound, plain_sound}

-- parameters accept arguments, one each
abbrev pub Accepted : List Var → List Argument → Type 0
Accepted [] [] = Unit {0}
Accepted (v ∷ vs) (x ∷ xs) = (is_array_kind x.kind ≡ false) × (accepts (value_type v) (ty_of x.kind) ≡ true) × Accepted vs xs
Accepted _ _ = ⊥

-- a call that the rules let pass
pub record Called (before : List TFunction) (f : ℕ) (args : List Argument) (t : Kind) : Type 0 where
  pub callee : TFunction
  pub found : slice_get before f ≡ Some callee
  pub kernel : callee.kernel ≡ false
  pub fits : Accepted (take callee.params callee.vars) args
  pub typed : ty_of (result_kind callee.result) ≡ ty_of t

result_plain : (r : Option Scalar) → is_array_kind (result_kind r) ≡ false
result_plain None = refl
result_plain (Some s) = refl

call_plain : (s : Option Signature) → is_array_kind (call_kind s) ≡ false
call_plain None = refl
call_plain (Some s) = result_plain s.result

-- ---- types of arguments

-- lists of arguments whose numbers are of the same types
abbrev pub SameNumbers : List Argument → List Argument → Type 0
SameNumbers [] [] = Unit {0}
SameNumbers (x ∷ xs) (y ∷ ys) = (scalar_of x.kind ≡ scalar_of y.kind) × SameNumbers xs ys
SameNumbers _ _ = ⊥

same_some : (xs ys : List Argument) → SameNumbers xs ys → some_uint xs ≡ some_uint ys
same_some [] [] h = refl
same_some [] (y ∷ ys) h = absurd h
same_some (x ∷ xs) [] h = absurd h
same_some (x ∷ xs) (y ∷ ys) h = ap₂ (λ s r. is_uint s || r) h.0 (same_some xs ys h.1)

same_all : (s : Scalar) (xs ys : List Argument) → SameNumbers xs ys → all_are s xs ≡ all_are s ys
same_all s [] [] h = refl
same_all s [] (y ∷ ys) h = absurd h
same_all s (x ∷ xs) [] h = absurd h
same_all s (x ∷ xs) (y ∷ ys) h = ap₂ (λ t r. same_scalar s t && r) h.0 (same_all s xs ys h.1)

one_same : (s : Scalar) (xs ys : List Argument) (c : Bool) → SameNumbers xs ys → one_or_common s xs c ≡ one_or_common s ys c
one_same s xs ys true h = refl
one_same s xs ys false h = ap int_or_uint (same_some xs ys h)

same_number : (xs ys : List Argument) → SameNumbers xs ys → number_type xs ≡ number_type ys
same_number [] [] h = refl
same_number [] (y ∷ ys) h = absurd h
same_number (x ∷ xs) [] h = absurd h
same_number (x ∷ xs) (y ∷ ys) h =
    one_same (scalar_of x.kind) (x ∷ xs) (y ∷ ys) (all_are (scalar_of x.kind) xs) h
    ∙ ap (one_or_common (scalar_of x.kind) (y ∷ ys)) (same_all (scalar_of x.kind) xs ys h.1)
    ∙ ap (λ s. one_or_common s (y ∷ ys) (all_are s ys)) h.0

same_work : (f : Builtin) (xs ys : List Argument) → SameNumbers xs ys → work_of f xs ≡ work_of f ys
same_work b.GetWorkDim xs ys h = refl
same_work b.GetGlobalId xs ys h = refl
same_work b.GetGlobalSize xs ys h = refl
same_work b.GetLocalId xs ys h = refl
same_work b.GetLocalSize xs ys h = refl
same_work b.GetGroupId xs ys h = refl
same_work b.GetNumGroups xs ys h = refl
same_work b.Mul24 xs ys h = ap int_or_uint (same_some xs ys h)
same_work b.Min xs ys h = same_number xs ys h
same_work b.Max xs ys h = same_number xs ys h
same_work b.Clamp xs ys h = same_number xs ys h
same_work b.Abs xs ys h = same_number xs ys h
same_work b.AbsDiff xs ys h = same_number xs ys h
same_work b.MulHi xs ys h = same_number xs ys h
same_work b.Rotate xs ys h = same_number xs ys h
same_work b.Clz xs ys h = same_number xs ys h
same_work b.Popcount xs ys h = same_number xs ys h
same_work b.AddSat xs ys h = same_number xs ys h
same_work b.SubSat xs ys h = same_number xs ys h

-- ---- built-in functions take numbers alone

abbrev AllNumbers : List Shape → Type 0
AllNumbers [] = Unit {0}
AllNumbers (s ∷ ss) = (s ≡ number) × AllNumbers ss

numbers_taken : (f : Builtin) → AllNumbers (builtin_params f)
numbers_taken b.GetWorkDim = tt
numbers_taken b.GetGlobalId = (refl, tt)
numbers_taken b.GetGlobalSize = (refl, tt)
numbers_taken b.GetLocalId = (refl, tt)
numbers_taken b.GetLocalSize = (refl, tt)
numbers_taken b.GetGroupId = (refl, tt)
numbers_taken b.GetNumGroups = (refl, tt)
numbers_taken b.Min = (refl, (refl, tt))
numbers_taken b.Max = (refl, (refl, tt))
numbers_taken b.Clamp = (refl, (refl, (refl, tt)))
numbers_taken b.Abs = (refl, tt)
numbers_taken b.AbsDiff = (refl, (refl, tt))
numbers_taken b.Mul24 = (refl, (refl, tt))
numbers_taken b.MulHi = (refl, (refl, tt))
numbers_taken b.Rotate = (refl, (refl, tt))
numbers_taken b.Clz = (refl, tt)
numbers_taken b.Popcount = (refl, tt)
numbers_taken b.AddSat = (refl, (refl, tt))
numbers_taken b.SubSat = (refl, (refl, tt))

-- each argument is a number
abbrev Numbers : List Argument → Type 0
Numbers [] = Unit {0}
Numbers (x ∷ xs) = ((s : Scalar) × (x.kind ≡ k.Value s)) × Numbers xs

number_matched : (t : Kind) → matches (kind_of 0 number) t ≡ true → (s : Scalar) × (t ≡ k.Value s)
number_matched k.Void h = absurd (cc)
number_matched (k.Value s) h = (s, refl)
number_matched (k.Pointer z c g) h = absurd (cc)
number_matched (k.Array v g) h = absurd (cc)

numbers_passed : (ss : List Shape) (xs : List Argument) → AllNumbers ss → length ss ≡ length xs → fits ss xs ≡ [] → Numbers xs
numbers_passed [] [] a e h = tt
numbers_passed [] (x ∷ xs) a e h = absurd (omega (arith, e))
numbers_passed (s ∷ ss) [] a e h = absurd (omega (arith, e))
numbers_passed (s ∷ ss) (x ∷ xs) a e h =
    let d = append_none (violations x.place ((S7, not (matches (kind_of 0 s) x.kind)) ∷ [])) (fits ss xs) h in
    let m = not-false (matches (kind_of 0 s) x.kind) (not_violated x.place S7 (not (matches (kind_of 0 s) x.kind)) [] d.0).0 in
    (number_matched x.kind (ap (λ z. matches (kind_of 0 z) x.kind) (sym a.0) ∙ m), numbers_passed ss xs a.1 (omega (arith, e)) d.1)

module _ (vars : List Var) (before : List TFunction) (result : Option Scalar) where
  pub record ArgumentSound (x : Argument) : Type 0 where
    pub fine : is_array_kind x.kind ≡ false → Reads x.kind place.Nowhere (seen vars before result x.expr)

  abbrev pub AllSound : List Argument → Type 0
  AllSound [] = Unit {0}
  AllSound (x ∷ xs) = ArgumentSound x × AllSound xs

  pub argument_sound : (q : ℕ) (x : Form) → Sound vars before result x → ArgumentSound (argument q x)
  argument_sound q x h = record { fine = λ p. as_value x.kind x.place (seen vars before result x.expr) (h.fine p) }

  pub all_last : (xs : List Argument) (x : Argument) → AllSound xs → ArgumentSound x → AllSound (xs ++ x ∷ [])
  all_last [] x h i = (i, tt)
  all_last (y ∷ ys) x h i = (h.0, all_last ys x h.1 i)

  accepted_seen : (vs : List Var) (xs : List Argument) → Accepted vs xs → AllSound xs → all_accepted vs (map (seen vars before result) (map (λ x. x.expr) xs)) ≡ true
  accepted_seen [] [] h i = refl
  accepted_seen [] (x ∷ xs) h i = absurd h
  accepted_seen (v ∷ vs) [] h i = absurd h
  accepted_seen (v ∷ vs) (x ∷ xs) h i =
      let r = i.0.fine h.0 in
      yes (yes r.valid (ap (accepts (value_type v)) r.typed ∙ h.1)) (accepted_seen vs xs h.2 i.1)

  pub call_sound : (t : Token) (f : ℕ) (s : Option Signature) (args : List Argument) → Called before f args (call_kind s) → AllSound args → Sound vars before result (call_form t f s args)
  call_sound t f s args c h =
      let xs = map (seen vars before result) (exprs args) in
      plain_sound vars before result t.from (call_kind s) (n.Call f (exprs args)) _ (call_plain s) (seen_call vars before result t.from (call_kind s) f (exprs args))
      (ap (λ z. is_call z xs (ty_of (call_kind s))) c.found
      ∙ yes3 (ap not c.kernel) (accepted_seen (take c.callee.params c.callee.vars) args c.fits h) (ap (λ z. same_type z (ty_of (call_kind s))) c.typed ∙ same_self (ty_of (call_kind s))))

  -- ---- built-in functions

  length_seen : (xs : List Argument) → length (map (seen vars before result) (map (λ x. x.expr) xs)) ≡ length xs
  length_seen [] = refl
  length_seen (x ∷ xs) = ap suc (length_seen xs)

  read_number : (x : Argument) → ((s : Scalar) × (x.kind ≡ k.Value s)) → ArgumentSound x → Reads x.kind place.Nowhere (seen vars before result x.expr)
  read_number x n h = h.fine (ap is_array_kind n.1)

  values_seen : (xs : List Argument) → Numbers xs → AllSound xs → all_values (map (seen vars before result) (map (λ x. x.expr) xs)) ≡ true
  values_seen [] h i = refl
  values_seen (x ∷ xs) h i =
      let r = read_number x h.0 i.0 in
      yes (yes r.valid (ap is_number (r.typed ∙ ap ty_of h.0.1))) (values_seen xs h.1 i.1)

  numbers_seen : (xs : List Argument) → Numbers xs → AllSound xs → SameNumbers (typed_arguments (map (seen vars before result) (map (λ x. x.expr) xs))) xs
  numbers_seen [] h i = tt
  numbers_seen (x ∷ xs) h i =
      let r = read_number x h.0 i.0 in
      (ap (λ z. scalar_of (kind_of_type z)) r.typed ∙ scalar_kept x.kind, numbers_seen xs h.1 i.1)

  pub builtin_sound : (t : Token) (p : ℕ) (f : Builtin) (args : List Argument) → builtin_needs p f args ≡ [] → AllSound args → Sound vars before result (builtin_form t f args)
  builtin_sound t p f args e h =
      let xs = map (seen vars before result) (exprs args) in
      let d = append_none (violations p ((S6, not (eqb (length (builtin_params f)) (length args))) ∷ [])) (fits (builtin_params f) args) e in
      let c = not-false (eqb (length (builtin_params f)) (length args)) (not_violated p S6 (not (eqb (length (builtin_params f)) (length args))) [] d.0).0 in
      let all = numbers_passed (builtin_params f) args (numbers_taken f) (eqb-true (length (builtin_params f)) (length args) c) d.1 in
      let w = work_of f args in
      let g = k.Value (gives f w) in
      plain_sound vars before result t.from g (n.Builtin f w (exprs args)) _ refl (seen_builtin vars before result t.from g f w (exprs args))
      (yes4 (ap (eqb (length (builtin_params f))) (length_seen args) ∙ c) (values_seen args all h)
      (ap (same_scalar w) (same_work f (typed_arguments xs) args (numbers_seen args all h)) ∙ scalar_same w) (same_self (ty.Value (gives f w))))
