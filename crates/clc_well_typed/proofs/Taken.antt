-- What the rules' tests let pass, in terms of types.
use Rattle.std.proofs.Common.{◌≡◌, ℕ, Bool, true, false, not, ◌&&◌, ◌||◌, List, [], ◌∷◌, ◌++◌, refl, ap, ap₂}
use Rattle.std.proofs.lemmas.Bool.{not-false, or_parts}
use Rattle.clc_lexer.specs.declared.marks.Mark.{Mark}
use Rattle.clc_lexer.specs.declared.marks.Mark.TheVariants as m
use Rattle.q_lane.specs.declared.kinds.Scalar.{Scalar}
use Rattle.q_lane.specs.declared.kinds.Scalar.TheVariants.{Char, Uchar, Short, Ushort, Int, Uint}
use Rattle.clc_types.specs.declared.type_rule.TypeRule.TheVariants.{S3, S4, S5, S12}
use Rattle.clc_types.specs.declared.typed.Ty.{Ty}
use Rattle.clc_types.specs.declared.typed.Ty.TheVariants as ty
use Rattle.clc_types.specs.declared.forms.Fault.{Fault}
use Rattle.clc_types.specs.declared.forms.Kind.{Kind}
use Rattle.clc_types.specs.declared.forms.Kind.TheVariants as k
use Rattle.clc_types.specs.declared.forms.Place.{Place}
use Rattle.clc_types.specs.declared.forms.Place.TheVariants as place
use Rattle.clc_types.specs.declared.forms.Space.{Space}
use Rattle.clc_types.specs.declared.forms.Space.TheVariants as space
use Rattle.clc_types.specs.Judged.{violations}
use Rattle.clc_types.specs.Rules.{is_void, is_scalar, is_pointer as is_pointer_kind, is_array as is_array_kind, is_nowhere, is_constant, is_locked, same_scalar, same_space, matches, ty_of, scalar_needed, no_array, fit_needed, operands_needed, is_sum, is_plus, scalar_of, common, promoted, Operator, Sum, Arithmetic, Shift, Truth, Comma, operator_of, sum_kind, result_of, takes_pointer, gets, assigned_needed, value_needed}
use Rattle.clc_types.specs.WellTyped.{is_number, is_pointer, same_flag, same_type, accepts, kind_of_type, is_comma, takes, assigns}
use Rattle.clc_well_typed.proofs.Judging.{append_none, not_violated, yes}

-- ---- types

same_scalar_self : (s : Scalar) → same_scalar s s ≡ true
same_scalar_self Char = refl
same_scalar_self Uchar = refl
same_scalar_self Short = refl
same_scalar_self Ushort = refl
same_scalar_self Int = refl
same_scalar_self Uint = refl

same_flag_self : (b : Bool) → same_flag b b ≡ true
same_flag_self true = refl
same_flag_self false = refl

pub scalar_same : (s : Scalar) → same_scalar s s ≡ true
scalar_same = same_scalar_self

pub same_self : (t : Ty) → same_type t t ≡ true
same_self ty.Void = refl
same_self (ty.Value s) = same_scalar_self s
same_self (ty.Pointer e c) = yes (same_scalar_self e) (same_flag_self c)

pub scalar_kept : (t : Kind) → scalar_of (kind_of_type (ty_of t)) ≡ scalar_of t
scalar_kept k.Void = refl
scalar_kept (k.Value s) = refl
scalar_kept (k.Pointer z c g) = refl
scalar_kept (k.Array v g) = refl

ty_kept : (t : Kind) → ty_of (kind_of_type (ty_of t)) ≡ ty_of t
ty_kept k.Void = refl
ty_kept (k.Value s) = refl
ty_kept (k.Pointer z c g) = refl
ty_kept (k.Array v g) = refl

sum_kept : (a b : Kind) → ty_of (sum_kind (kind_of_type (ty_of a)) (kind_of_type (ty_of b))) ≡ ty_of (sum_kind a b)
sum_kept (k.Pointer z c g) b = refl
sum_kept k.Void k.Void = refl
sum_kept k.Void (k.Value u) = refl
sum_kept k.Void (k.Pointer y d h) = refl
sum_kept k.Void (k.Array w h) = refl
sum_kept (k.Value s) k.Void = refl
sum_kept (k.Value s) (k.Value u) = refl
sum_kept (k.Value s) (k.Pointer y d h) = refl
sum_kept (k.Value s) (k.Array w h) = refl
sum_kept (k.Array v g) k.Void = refl
sum_kept (k.Array v g) (k.Value u) = refl
sum_kept (k.Array v g) (k.Pointer y d h) = refl
sum_kept (k.Array v g) (k.Array w h) = refl

pub result_kept : (op : Operator) (a b : Kind) → ty_of (result_of op (kind_of_type (ty_of a)) (kind_of_type (ty_of b))) ≡ ty_of (result_of op a b)
result_kept Sum a b = sum_kept a b
result_kept Arithmetic a b = ap₂ (λ s u. ty.Value (common s u)) (scalar_kept a) (scalar_kept b)
result_kept Shift a b = ap (λ s. ty.Value (promoted s)) (scalar_kept a)
result_kept Truth a b = refl
result_kept Comma a b = ty_kept b

sum_plain : (a b : Kind) → is_array_kind (sum_kind a b) ≡ false
sum_plain (k.Pointer z c g) b = refl
sum_plain k.Void k.Void = refl
sum_plain k.Void (k.Value u) = refl
sum_plain k.Void (k.Pointer y d h) = refl
sum_plain k.Void (k.Array w h) = refl
sum_plain (k.Value s) k.Void = refl
sum_plain (k.Value s) (k.Value u) = refl
sum_plain (k.Value s) (k.Pointer y d h) = refl
sum_plain (k.Value s) (k.Array w h) = refl
sum_plain (k.Array v g) k.Void = refl
sum_plain (k.Array v g) (k.Value u) = refl
sum_plain (k.Array v g) (k.Pointer y d h) = refl
sum_plain (k.Array v g) (k.Array w h) = refl

result_plain : (op : Operator) (a b : Kind) → is_array_kind b ≡ false → is_array_kind (result_of op a b) ≡ false
result_plain Sum a b h = sum_plain a b
result_plain Arithmetic a b h = refl
result_plain Shift a b h = refl
result_plain Truth a b h = refl
result_plain Comma a b h = h

-- ---- operands

-- a number
pub scalar_found : (p : ℕ) (t : Kind) → scalar_needed p t ≡ [] → (s : Scalar) × (t ≡ k.Value s)
scalar_found p k.Void h = absurd (cc)
scalar_found p (k.Value s) h = (s, refl)
scalar_found p (k.Pointer z c g) h = absurd (cc)
scalar_found p (k.Array v g) h = absurd (cc)

pub plain_found : (p : ℕ) (t : Kind) → no_array p t ≡ [] → is_array_kind t ≡ false
plain_found p t h = (not_violated p S12 (is_array_kind t) [] h).0

-- what an operator of a chain takes
pub record Taken (o : Mark) (a b : Kind) : Type 0 where
  pub left : is_array_kind a ≡ false
  pub right : is_array_kind b ≡ false
  pub takes : takes o (ty_of a) (ty_of b) ≡ true

by_sum : (p : ℕ) (x y : Bool) → violations p ((S12, not x) ∷ []) ++ [] ≡ [] → x || y ≡ true
by_sum p true y h = refl
by_sum p false y h = absurd (cc)

by_plus : (q : ℕ) (x y : Bool) → violations q ((S12, not (x && true)) ∷ []) ≡ [] → x || y ≡ true
by_plus q true y h = refl
by_plus q false y h = absurd (cc)

never : (q : ℕ) (x : Bool) → violations q ((S12, not (x && false)) ∷ []) ≡ [] → ⊥
never q true h = absurd (cc)
never q false h = absurd (cc)

abbrev left_needed : Mark → ℕ → Kind → List Fault
left_needed o p a = violations p ((S3, is_void a) ∷ (S12, is_array_kind a || (is_pointer_kind a && not (is_sum o))) ∷ [])

abbrev right_needed : Mark → Kind → ℕ → Kind → List Fault
right_needed o a q b = violations q ((S3, is_void b) ∷ (S12, is_array_kind b || (is_pointer_kind b && not (is_plus o && is_scalar a))) ∷ [])

taken_other : (o : Mark) (p q : ℕ) (a b : Kind) → left_needed o p a ++ right_needed o a q b ≡ [] → Taken o a b
taken_other o p q k.Void b h = absurd (cc)
taken_other o p q (k.Array v g) b h = absurd (cc)
taken_other o p q (k.Value s) k.Void h = absurd (cc)
taken_other o p q (k.Value s) (k.Value u) h = record { left = refl; right = refl; takes = refl }
taken_other o p q (k.Value s) (k.Pointer y d i) h = record { left = refl; right = refl; takes = by_plus q (is_plus o) (is_comma o) h }
taken_other o p q (k.Value s) (k.Array w i) h = absurd (cc)
taken_other o p q (k.Pointer z c g) k.Void h = let e = (append_none (left_needed o p (k.Pointer z c g)) (right_needed o (k.Pointer z c g) q k.Void) h).1 in absurd (cc)
taken_other o p q (k.Pointer z c g) (k.Value u) h = record { left = refl; right = refl; takes = by_sum p (is_sum o) (is_comma o) h }
taken_other o p q (k.Pointer z c g) (k.Pointer y d i) h = absurd (never q (is_plus o) (append_none (left_needed o p (k.Pointer z c g)) (right_needed o (k.Pointer z c g) q (k.Pointer y d i)) h).1)
taken_other o p q (k.Pointer z c g) (k.Array w i) h = let e = (append_none (left_needed o p (k.Pointer z c g)) (right_needed o (k.Pointer z c g) q (k.Array w i)) h).1 in absurd (cc)

comma_takes : (t u : Ty) → takes m.Comma t u ≡ true
comma_takes ty.Void ty.Void = refl
comma_takes ty.Void (ty.Value u) = refl
comma_takes ty.Void (ty.Pointer h d) = refl
comma_takes (ty.Value s) ty.Void = refl
comma_takes (ty.Value s) (ty.Value u) = refl
comma_takes (ty.Value s) (ty.Pointer h d) = refl
comma_takes (ty.Pointer g c) ty.Void = refl
comma_takes (ty.Pointer g c) (ty.Value u) = refl
comma_takes (ty.Pointer g c) (ty.Pointer h d) = refl

pub taken : (o : Mark) (p q : ℕ) (a b : Kind) → operands_needed o p a q b ≡ [] → Taken o a b
taken m.ShiftLeftAssign p q a b h = taken_other m.ShiftLeftAssign p q a b h
taken m.ShiftRightAssign p q a b h = taken_other m.ShiftRightAssign p q a b h
taken m.PlusPlus p q a b h = taken_other m.PlusPlus p q a b h
taken m.MinusMinus p q a b h = taken_other m.MinusMinus p q a b h
taken m.ShiftLeft p q a b h = taken_other m.ShiftLeft p q a b h
taken m.ShiftRight p q a b h = taken_other m.ShiftRight p q a b h
taken m.LessEqual p q a b h = taken_other m.LessEqual p q a b h
taken m.GreaterEqual p q a b h = taken_other m.GreaterEqual p q a b h
taken m.EqualEqual p q a b h = taken_other m.EqualEqual p q a b h
taken m.BangEqual p q a b h = taken_other m.BangEqual p q a b h
taken m.AndAnd p q a b h = taken_other m.AndAnd p q a b h
taken m.OrOr p q a b h = taken_other m.OrOr p q a b h
taken m.PlusAssign p q a b h = taken_other m.PlusAssign p q a b h
taken m.MinusAssign p q a b h = taken_other m.MinusAssign p q a b h
taken m.StarAssign p q a b h = taken_other m.StarAssign p q a b h
taken m.SlashAssign p q a b h = taken_other m.SlashAssign p q a b h
taken m.PercentAssign p q a b h = taken_other m.PercentAssign p q a b h
taken m.AndAssign p q a b h = taken_other m.AndAssign p q a b h
taken m.OrAssign p q a b h = taken_other m.OrAssign p q a b h
taken m.XorAssign p q a b h = taken_other m.XorAssign p q a b h
taken m.LeftParen p q a b h = taken_other m.LeftParen p q a b h
taken m.RightParen p q a b h = taken_other m.RightParen p q a b h
taken m.LeftBrace p q a b h = taken_other m.LeftBrace p q a b h
taken m.RightBrace p q a b h = taken_other m.RightBrace p q a b h
taken m.LeftBracket p q a b h = taken_other m.LeftBracket p q a b h
taken m.RightBracket p q a b h = taken_other m.RightBracket p q a b h
taken m.Semicolon p q a b h = taken_other m.Semicolon p q a b h
taken m.Comma p q a b h =
    let e = append_none (no_array p a) (no_array q b) h in
    record { left = plain_found p a e.0; right = plain_found q b e.1; takes = comma_takes (ty_of a) (ty_of b) }
taken m.Question p q a b h = taken_other m.Question p q a b h
taken m.Colon p q a b h = taken_other m.Colon p q a b h
taken m.Plus p q a b h = taken_other m.Plus p q a b h
taken m.Minus p q a b h = taken_other m.Minus p q a b h
taken m.Star p q a b h = taken_other m.Star p q a b h
taken m.Slash p q a b h = taken_other m.Slash p q a b h
taken m.Percent p q a b h = taken_other m.Percent p q a b h
taken m.Ampersand p q a b h = taken_other m.Ampersand p q a b h
taken m.Bar p q a b h = taken_other m.Bar p q a b h
taken m.Caret p q a b h = taken_other m.Caret p q a b h
taken m.Tilde p q a b h = taken_other m.Tilde p q a b h
taken m.Bang p q a b h = taken_other m.Bang p q a b h
taken m.Less p q a b h = taken_other m.Less p q a b h
taken m.Greater p q a b h = taken_other m.Greater p q a b h
taken m.Assign p q a b h = taken_other m.Assign p q a b h

pub taken_plain : (o : Mark) (a b : Kind) → is_array_kind b ≡ false → is_array_kind (result_of (operator_of o) a b) ≡ false
taken_plain o a b h = result_plain (operator_of o) a b h

-- ---- variables that get values

-- a variable of the first kind takes a value of the second
pub record Fitting (a b : Kind) : Type 0 where
  pub left : is_array_kind a ≡ false
  pub right : is_array_kind b ≡ false
  pub accepts : accepts (ty_of a) (ty_of b) ≡ true

true_right : (x : Bool) → x && true ≡ x
true_right true = refl
true_right false = refl

pointers_fit : (z y : Space) (c d : Bool) (g h : Scalar) → same_space z y && (same_scalar g h && (c || not d)) ≡ true → same_scalar g h && (is_locked z c || not (is_locked y d)) ≡ true
pointers_fit space.Global space.Global c d g h e = e
pointers_fit space.Global space.Constant c d g h e = absurd (cc)
pointers_fit space.Constant space.Global c d g h e = absurd (cc)
pointers_fit space.Constant space.Constant c d g h e = both_hold (same_scalar g h) (c || not d) e
  where
    both_hold : (x y : Bool) → x && y ≡ true → x && true ≡ true
    both_hold true y e = refl
    both_hold false y e = e

pub fitting : (a b : Kind) → matches a b ≡ true → Fitting a b
fitting k.Void k.Void h = absurd (cc)
fitting k.Void (k.Value u) h = absurd (cc)
fitting k.Void (k.Pointer y d i) h = absurd (cc)
fitting k.Void (k.Array w i) h = absurd (cc)
fitting (k.Value s) k.Void h = absurd (cc)
fitting (k.Value s) (k.Value u) h = record { left = refl; right = refl; accepts = refl }
fitting (k.Value s) (k.Pointer y d i) h = absurd (cc)
fitting (k.Value s) (k.Array w i) h = absurd (cc)
fitting (k.Pointer z c g) k.Void h = absurd (cc)
fitting (k.Pointer z c g) (k.Value u) h = absurd (cc)
fitting (k.Pointer z c g) (k.Pointer y d i) h = record { left = refl; right = refl; accepts = pointers_fit z y c d g i h }
fitting (k.Pointer z c g) (k.Array w i) h = absurd (cc)
fitting (k.Array v g) k.Void h = absurd (cc)
fitting (k.Array v g) (k.Value u) h = absurd (cc)
fitting (k.Array v g) (k.Pointer y d i) h = absurd (cc)
fitting (k.Array v g) (k.Array w i) h = absurd (cc)

-- S3 stands apart from S12 in these tests, and both are needed
past_void : (x y : Bool) → x ≡ false → not x && not y ≡ false → y ≡ true
past_void true y e h = absurd (cc)
past_void false true e h = refl
past_void false false e h = absurd (cc)

pub fit_found : (a : Kind) (q : ℕ) (b : Kind) → fit_needed a q b ≡ [] → Fitting a b
fit_found a q b h =
    let e = not_violated q S3 (is_void b) _ h in
    fitting a b (past_void (is_void b) (matches a b) e.0 (not_violated q S12 (not (is_void b) && not (matches a b)) [] e.1).0)

-- ---- assignments

pub record Assigned (o : Mark) (a : Kind) (at : Place) (b : Kind) : Type 0 where
  pub left : is_array_kind a ≡ false
  pub right : is_array_kind b ≡ false
  pub place : at ≡ place.Writable
  pub assigns : assigns o (ty_of a) (ty_of b) ≡ true

pub writable : (at : Place) → is_nowhere at ≡ false → is_constant at ≡ false → at ≡ place.Writable
writable place.Nowhere h i = absurd (cc)
writable place.Writable h i = refl
writable place.Constant h i = absurd (cc)

-- what the tests of what is assigned to say
record Target (o : Mark) (a : Kind) (at : Place) : Type 0 where
  pub void : is_void a ≡ false
  pub place : at ≡ place.Writable
  pub array : is_array_kind a || (is_pointer_kind a && not (takes_pointer o)) ≡ false

target : (o : Mark) (p : ℕ) (a : Kind) (at : Place) → assigned_needed o p a at ≡ [] → Target o a at
target o p a at h =
    let e0 = not_violated p S3 (is_void a) _ h in
    let e1 = not_violated p S4 (is_nowhere at) _ e0.1 in
    let e2 = not_violated p S5 (is_constant at) _ e1.1 in
    let e3 = not_violated p S12 (is_array_kind a || (is_pointer_kind a && not (takes_pointer o))) [] e2.1 in
    record { void = e0.0; place = writable at e1.0 e2.0; array = e3.0 }

-- a number, or a pointer that the operator takes
numbers : (o : Mark) (a b : Kind) → is_void a ≡ false → is_array_kind a || (is_pointer_kind a && not (takes_pointer o)) ≡ false → is_scalar b ≡ true
    → (is_number (ty_of a) || (is_pointer (ty_of a) && takes_pointer o)) && is_number (ty_of b) ≡ true
numbers o k.Void b v h i = absurd (cc)
numbers o (k.Array w g) b v h i = absurd (cc)
numbers o (k.Value s) (k.Value u) v h i = refl
numbers o (k.Pointer z c g) (k.Value u) v h i = yes (not-false (takes_pointer o) h) refl
numbers o (k.Value s) k.Void v h i = absurd (cc)
numbers o (k.Value s) (k.Pointer y d j) v h i = absurd (cc)
numbers o (k.Value s) (k.Array x j) v h i = absurd (cc)
numbers o (k.Pointer z c g) k.Void v h i = absurd (cc)
numbers o (k.Pointer z c g) (k.Pointer y d j) v h i = absurd (cc)
numbers o (k.Pointer z c g) (k.Array x j) v h i = absurd (cc)

value_plain : (b : Kind) → is_scalar b ≡ true → is_array_kind b ≡ false
value_plain k.Void h = refl
value_plain (k.Value s) h = refl
value_plain (k.Pointer z c g) h = refl
value_plain (k.Array v g) h = absurd (cc)

-- what the tests of the value say
gotten : (o : Mark) (a : Kind) (q : ℕ) (b : Kind) → value_needed o a q b ≡ [] → gets o a b ≡ true
gotten o a q b h =
    let e = not_violated q S3 (is_void b) _ h in
    past_void (is_void b) (gets o a b) e.0 (not_violated q S12 (not (is_void b) && not (gets o a b)) [] e.1).0

pub assigned : (o : Mark) (p q : ℕ) (a : Kind) (at : Place) (b : Kind) → assigned_needed o p a at ≡ [] → value_needed o a q b ≡ [] → Assigned o a at b
assigned m.ShiftLeftAssign p q a at b h i =
    let t = target m.ShiftLeftAssign p a at h in
    let g = gotten m.ShiftLeftAssign a q b i in
    record { left = (or_parts _ _ t.array).0; right = value_plain b g; place = t.place; assigns = numbers m.ShiftLeftAssign a b t.void t.array g }
assigned m.ShiftRightAssign p q a at b h i =
    let t = target m.ShiftRightAssign p a at h in
    let g = gotten m.ShiftRightAssign a q b i in
    record { left = (or_parts _ _ t.array).0; right = value_plain b g; place = t.place; assigns = numbers m.ShiftRightAssign a b t.void t.array g }
assigned m.PlusPlus p q a at b h i =
    let t = target m.PlusPlus p a at h in
    let g = gotten m.PlusPlus a q b i in
    record { left = (or_parts _ _ t.array).0; right = value_plain b g; place = t.place; assigns = numbers m.PlusPlus a b t.void t.array g }
assigned m.MinusMinus p q a at b h i =
    let t = target m.MinusMinus p a at h in
    let g = gotten m.MinusMinus a q b i in
    record { left = (or_parts _ _ t.array).0; right = value_plain b g; place = t.place; assigns = numbers m.MinusMinus a b t.void t.array g }
assigned m.ShiftLeft p q a at b h i =
    let t = target m.ShiftLeft p a at h in
    let g = gotten m.ShiftLeft a q b i in
    record { left = (or_parts _ _ t.array).0; right = value_plain b g; place = t.place; assigns = numbers m.ShiftLeft a b t.void t.array g }
assigned m.ShiftRight p q a at b h i =
    let t = target m.ShiftRight p a at h in
    let g = gotten m.ShiftRight a q b i in
    record { left = (or_parts _ _ t.array).0; right = value_plain b g; place = t.place; assigns = numbers m.ShiftRight a b t.void t.array g }
assigned m.LessEqual p q a at b h i =
    let t = target m.LessEqual p a at h in
    let g = gotten m.LessEqual a q b i in
    record { left = (or_parts _ _ t.array).0; right = value_plain b g; place = t.place; assigns = numbers m.LessEqual a b t.void t.array g }
assigned m.GreaterEqual p q a at b h i =
    let t = target m.GreaterEqual p a at h in
    let g = gotten m.GreaterEqual a q b i in
    record { left = (or_parts _ _ t.array).0; right = value_plain b g; place = t.place; assigns = numbers m.GreaterEqual a b t.void t.array g }
assigned m.EqualEqual p q a at b h i =
    let t = target m.EqualEqual p a at h in
    let g = gotten m.EqualEqual a q b i in
    record { left = (or_parts _ _ t.array).0; right = value_plain b g; place = t.place; assigns = numbers m.EqualEqual a b t.void t.array g }
assigned m.BangEqual p q a at b h i =
    let t = target m.BangEqual p a at h in
    let g = gotten m.BangEqual a q b i in
    record { left = (or_parts _ _ t.array).0; right = value_plain b g; place = t.place; assigns = numbers m.BangEqual a b t.void t.array g }
assigned m.AndAnd p q a at b h i =
    let t = target m.AndAnd p a at h in
    let g = gotten m.AndAnd a q b i in
    record { left = (or_parts _ _ t.array).0; right = value_plain b g; place = t.place; assigns = numbers m.AndAnd a b t.void t.array g }
assigned m.OrOr p q a at b h i =
    let t = target m.OrOr p a at h in
    let g = gotten m.OrOr a q b i in
    record { left = (or_parts _ _ t.array).0; right = value_plain b g; place = t.place; assigns = numbers m.OrOr a b t.void t.array g }
assigned m.PlusAssign p q a at b h i =
    let t = target m.PlusAssign p a at h in
    let g = gotten m.PlusAssign a q b i in
    record { left = (or_parts _ _ t.array).0; right = value_plain b g; place = t.place; assigns = numbers m.PlusAssign a b t.void t.array g }
assigned m.MinusAssign p q a at b h i =
    let t = target m.MinusAssign p a at h in
    let g = gotten m.MinusAssign a q b i in
    record { left = (or_parts _ _ t.array).0; right = value_plain b g; place = t.place; assigns = numbers m.MinusAssign a b t.void t.array g }
assigned m.StarAssign p q a at b h i =
    let t = target m.StarAssign p a at h in
    let g = gotten m.StarAssign a q b i in
    record { left = (or_parts _ _ t.array).0; right = value_plain b g; place = t.place; assigns = numbers m.StarAssign a b t.void t.array g }
assigned m.SlashAssign p q a at b h i =
    let t = target m.SlashAssign p a at h in
    let g = gotten m.SlashAssign a q b i in
    record { left = (or_parts _ _ t.array).0; right = value_plain b g; place = t.place; assigns = numbers m.SlashAssign a b t.void t.array g }
assigned m.PercentAssign p q a at b h i =
    let t = target m.PercentAssign p a at h in
    let g = gotten m.PercentAssign a q b i in
    record { left = (or_parts _ _ t.array).0; right = value_plain b g; place = t.place; assigns = numbers m.PercentAssign a b t.void t.array g }
assigned m.AndAssign p q a at b h i =
    let t = target m.AndAssign p a at h in
    let g = gotten m.AndAssign a q b i in
    record { left = (or_parts _ _ t.array).0; right = value_plain b g; place = t.place; assigns = numbers m.AndAssign a b t.void t.array g }
assigned m.OrAssign p q a at b h i =
    let t = target m.OrAssign p a at h in
    let g = gotten m.OrAssign a q b i in
    record { left = (or_parts _ _ t.array).0; right = value_plain b g; place = t.place; assigns = numbers m.OrAssign a b t.void t.array g }
assigned m.XorAssign p q a at b h i =
    let t = target m.XorAssign p a at h in
    let g = gotten m.XorAssign a q b i in
    record { left = (or_parts _ _ t.array).0; right = value_plain b g; place = t.place; assigns = numbers m.XorAssign a b t.void t.array g }
assigned m.LeftParen p q a at b h i =
    let t = target m.LeftParen p a at h in
    let g = gotten m.LeftParen a q b i in
    record { left = (or_parts _ _ t.array).0; right = value_plain b g; place = t.place; assigns = numbers m.LeftParen a b t.void t.array g }
assigned m.RightParen p q a at b h i =
    let t = target m.RightParen p a at h in
    let g = gotten m.RightParen a q b i in
    record { left = (or_parts _ _ t.array).0; right = value_plain b g; place = t.place; assigns = numbers m.RightParen a b t.void t.array g }
assigned m.LeftBrace p q a at b h i =
    let t = target m.LeftBrace p a at h in
    let g = gotten m.LeftBrace a q b i in
    record { left = (or_parts _ _ t.array).0; right = value_plain b g; place = t.place; assigns = numbers m.LeftBrace a b t.void t.array g }
assigned m.RightBrace p q a at b h i =
    let t = target m.RightBrace p a at h in
    let g = gotten m.RightBrace a q b i in
    record { left = (or_parts _ _ t.array).0; right = value_plain b g; place = t.place; assigns = numbers m.RightBrace a b t.void t.array g }
assigned m.LeftBracket p q a at b h i =
    let t = target m.LeftBracket p a at h in
    let g = gotten m.LeftBracket a q b i in
    record { left = (or_parts _ _ t.array).0; right = value_plain b g; place = t.place; assigns = numbers m.LeftBracket a b t.void t.array g }
assigned m.RightBracket p q a at b h i =
    let t = target m.RightBracket p a at h in
    let g = gotten m.RightBracket a q b i in
    record { left = (or_parts _ _ t.array).0; right = value_plain b g; place = t.place; assigns = numbers m.RightBracket a b t.void t.array g }
assigned m.Semicolon p q a at b h i =
    let t = target m.Semicolon p a at h in
    let g = gotten m.Semicolon a q b i in
    record { left = (or_parts _ _ t.array).0; right = value_plain b g; place = t.place; assigns = numbers m.Semicolon a b t.void t.array g }
assigned m.Comma p q a at b h i =
    let t = target m.Comma p a at h in
    let g = gotten m.Comma a q b i in
    record { left = (or_parts _ _ t.array).0; right = value_plain b g; place = t.place; assigns = numbers m.Comma a b t.void t.array g }
assigned m.Question p q a at b h i =
    let t = target m.Question p a at h in
    let g = gotten m.Question a q b i in
    record { left = (or_parts _ _ t.array).0; right = value_plain b g; place = t.place; assigns = numbers m.Question a b t.void t.array g }
assigned m.Colon p q a at b h i =
    let t = target m.Colon p a at h in
    let g = gotten m.Colon a q b i in
    record { left = (or_parts _ _ t.array).0; right = value_plain b g; place = t.place; assigns = numbers m.Colon a b t.void t.array g }
assigned m.Plus p q a at b h i =
    let t = target m.Plus p a at h in
    let g = gotten m.Plus a q b i in
    record { left = (or_parts _ _ t.array).0; right = value_plain b g; place = t.place; assigns = numbers m.Plus a b t.void t.array g }
assigned m.Minus p q a at b h i =
    let t = target m.Minus p a at h in
    let g = gotten m.Minus a q b i in
    record { left = (or_parts _ _ t.array).0; right = value_plain b g; place = t.place; assigns = numbers m.Minus a b t.void t.array g }
assigned m.Star p q a at b h i =
    let t = target m.Star p a at h in
    let g = gotten m.Star a q b i in
    record { left = (or_parts _ _ t.array).0; right = value_plain b g; place = t.place; assigns = numbers m.Star a b t.void t.array g }
assigned m.Slash p q a at b h i =
    let t = target m.Slash p a at h in
    let g = gotten m.Slash a q b i in
    record { left = (or_parts _ _ t.array).0; right = value_plain b g; place = t.place; assigns = numbers m.Slash a b t.void t.array g }
assigned m.Percent p q a at b h i =
    let t = target m.Percent p a at h in
    let g = gotten m.Percent a q b i in
    record { left = (or_parts _ _ t.array).0; right = value_plain b g; place = t.place; assigns = numbers m.Percent a b t.void t.array g }
assigned m.Ampersand p q a at b h i =
    let t = target m.Ampersand p a at h in
    let g = gotten m.Ampersand a q b i in
    record { left = (or_parts _ _ t.array).0; right = value_plain b g; place = t.place; assigns = numbers m.Ampersand a b t.void t.array g }
assigned m.Bar p q a at b h i =
    let t = target m.Bar p a at h in
    let g = gotten m.Bar a q b i in
    record { left = (or_parts _ _ t.array).0; right = value_plain b g; place = t.place; assigns = numbers m.Bar a b t.void t.array g }
assigned m.Caret p q a at b h i =
    let t = target m.Caret p a at h in
    let g = gotten m.Caret a q b i in
    record { left = (or_parts _ _ t.array).0; right = value_plain b g; place = t.place; assigns = numbers m.Caret a b t.void t.array g }
assigned m.Tilde p q a at b h i =
    let t = target m.Tilde p a at h in
    let g = gotten m.Tilde a q b i in
    record { left = (or_parts _ _ t.array).0; right = value_plain b g; place = t.place; assigns = numbers m.Tilde a b t.void t.array g }
assigned m.Bang p q a at b h i =
    let t = target m.Bang p a at h in
    let g = gotten m.Bang a q b i in
    record { left = (or_parts _ _ t.array).0; right = value_plain b g; place = t.place; assigns = numbers m.Bang a b t.void t.array g }
assigned m.Less p q a at b h i =
    let t = target m.Less p a at h in
    let g = gotten m.Less a q b i in
    record { left = (or_parts _ _ t.array).0; right = value_plain b g; place = t.place; assigns = numbers m.Less a b t.void t.array g }
assigned m.Greater p q a at b h i =
    let t = target m.Greater p a at h in
    let g = gotten m.Greater a q b i in
    record { left = (or_parts _ _ t.array).0; right = value_plain b g; place = t.place; assigns = numbers m.Greater a b t.void t.array g }
assigned m.Assign p q a at b h i =
    let t = target m.Assign p a at h in
    let f = fitting a b (gotten m.Assign a q b i) in
    record { left = f.left; right = f.right; place = t.place; assigns = f.accepts }
