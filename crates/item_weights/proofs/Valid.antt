-- What is well typed has well-typed parts.
use Rattle.std.proofs.Common.{◌≡◌, ℕ, zero, suc, ◌≤◌, Bool, true, List, [], ◌∷◌, Option, Some, None, refl, sym, ap, ◌∙◌, subst, arith}
use Rattle.std.specs.Prelude.{◌&&◌, not, length, take}
use Rattle.std.proofs.lemmas.Bool.{false≢true, and_parts}
use Rattle.clc_lexer.specs.declared.marks.Mark.{Mark}
use Rattle.clc_types.specs.declared.typed.Ty.{Ty}
use Rattle.clc_types.specs.declared.typed.Var.{Var}
use Rattle.clc_types.specs.declared.typed.TFunction.{TFunction}
use Rattle.clc_types.specs.Rules.{result_kind, ty_of}
use Rattle.clc_types.specs.WellTyped.{is_number, same_type, points_to, accepts, is_operator, takes, value_type, Seen, is_value, all_values, combined, chained, all_accepted, is_call}

abbrev pub AreValid : List Seen → Type 0
AreValid [] = Unit {0}
AreValid (x ∷ xs) = (x.valid ≡ true) × AreValid xs

abbrev pub OperandsAreValid : List (Mark × Seen) → Type 0
OperandsAreValid [] = Unit {0}
OperandsAreValid (x ∷ xs) = (x.1.valid ≡ true) × OperandsAreValid xs

pub both_true : (a b : Bool) → (a && b) ≡ true → (a ≡ true) × (b ≡ true)
both_true a b h = and_parts a b h

pub value_valid : (a : Seen) → is_value a ≡ true → a.valid ≡ true
value_valid a h = (and_parts a.valid (is_number a.ty) h).0

pub values_valid : (xs : List Seen) → all_values xs ≡ true → AreValid xs
values_valid [] h = tt
values_valid (x ∷ xs) h = let p = and_parts (is_value x) (all_values xs) h in (value_valid x p.0, values_valid xs p.1)

pub index_valid : (a b : Seen) (t : Ty) → (a.valid && points_to a.ty t && is_value b) ≡ true → (a.valid ≡ true) × (b.valid ≡ true)
index_valid a b t h = let p = and_parts (a.valid && points_to a.ty t) (is_value b) h in ((and_parts a.valid (points_to a.ty t) p.0).0, value_valid b p.1)

pub element_valid : (c : Bool) (b : Seen) → (c && is_value b) ≡ true → b.valid ≡ true
element_valid c b h = value_valid b (and_parts c (is_value b) h).1

pub prefix_valid : (a : Seen) (c e : Bool) → (is_value a && c && e) ≡ true → a.valid ≡ true
prefix_valid a c e h = value_valid a (and_parts (is_value a) c (and_parts (is_value a && c) e h).0).0

pub step_valid : (a : Seen) (c : Bool) → (a.valid && a.place && c) ≡ true → a.valid ≡ true
step_valid a c h = (and_parts a.valid a.place (and_parts (a.valid && a.place) c h).0).0

pub cast_valid : (a : Seen) (c : Bool) → (is_value a && c) ≡ true → a.valid ≡ true
cast_valid a c h = value_valid a (and_parts (is_value a) c h).0

pub first_true : (a c : Bool) → (a && c) ≡ true → a ≡ true
first_true a c h = (and_parts a c h).0

pub cond_valid : (a b d : Seen) (c : Bool) → (is_value a && is_value b && is_value d && c) ≡ true → (a.valid ≡ true) × (b.valid ≡ true) × (d.valid ≡ true)
cond_valid a b d c h =
    let p = and_parts (is_value a && is_value b && is_value d) c h in
    let q = and_parts (is_value a && is_value b) (is_value d) p.0 in
    let r = and_parts (is_value a) (is_value b) q.0 in (value_valid a r.0, value_valid b r.1, value_valid d q.1)

pub assign_valid : (a b : Seen) (c d e : Bool) → (a.valid && a.place && b.valid && c && d && e) ≡ true → (a.valid ≡ true) × (b.valid ≡ true)
assign_valid a b c d e h =
    let p = and_parts (a.valid && a.place && b.valid && c && d) e h in
    let q = and_parts (a.valid && a.place && b.valid && c) d p.0 in
    let r = and_parts (a.valid && a.place && b.valid) c q.0 in
    let s = and_parts (a.valid && a.place) b.valid r.0 in ((and_parts a.valid a.place s.0).0, s.1)

pub chained_valid : (a : Seen) (xs : List (Mark × Seen)) → (chained a xs).valid ≡ true → (a.valid ≡ true) × OperandsAreValid xs
chained_valid a [] h = (h, tt)
chained_valid a (x ∷ xs) h =
    let p = chained_valid (combined a x) xs h in
    let q = and_parts (a.valid && x.1.valid && is_operator x.0) (takes x.0 a.ty x.1.ty) p.0 in
    let r = and_parts (a.valid && x.1.valid) (is_operator x.0) q.0 in
    let s = and_parts a.valid x.1.valid r.0 in (s.0, (s.1, p.1))

accepted_valid : (vs : List Var) (xs : List Seen) → all_accepted vs xs ≡ true → AreValid xs
accepted_valid [] [] h = tt
accepted_valid [] (x ∷ xs) h = absurd (false≢true h)
accepted_valid (v ∷ vs) [] h = absurd (false≢true h)
accepted_valid (v ∷ vs) (x ∷ xs) h =
    let p = and_parts (x.valid && accepts (value_type v) x.ty) (all_accepted vs xs) h in ((and_parts x.valid (accepts (value_type v) x.ty) p.0).0, accepted_valid vs xs p.1)

pub call_valid : (o : Option TFunction) (xs : List Seen) (t : Ty) → is_call o xs t ≡ true → (g : TFunction) × (o ≡ Some g) × AreValid xs
call_valid None xs t h = absurd (false≢true h)
call_valid (Some g) xs t h =
    let p = and_parts (not g.kernel && all_accepted (take g.params g.vars) xs) (same_type (ty_of (result_kind g.result)) t) h in
    (g, refl, accepted_valid (take g.params g.vars) xs (and_parts (not g.kernel) (all_accepted (take g.params g.vars) xs) p.0).1)

accepted_all : (vs : List Var) (xs : List Seen) → all_accepted vs xs ≡ true → length vs ≡ length xs
accepted_all [] [] h = refl
accepted_all [] (x ∷ xs) h = absurd (false≢true h)
accepted_all (v ∷ vs) [] h = absurd (false≢true h)
accepted_all (v ∷ vs) (x ∷ xs) h = ap suc (accepted_all vs xs (and_parts (x.valid && accepts (value_type v) x.ty) (all_accepted vs xs) h).1)

taken : (n : ℕ) (vs : List Var) → n ≤ length vs → length (take n vs) ≡ n
taken zero vs h = refl
taken (suc n) [] h = absurd (omega (arith, h))
taken (suc n) (v ∷ vs) h = ap suc (taken n vs (omega (arith, h)))

-- a call has an argument for each parameter
pub accepted_length : (o : Option TFunction) (xs : List Seen) (t : Ty) → is_call o xs t ≡ true → (g : TFunction) → o ≡ Some g → g.params ≤ length g.vars → length xs ≡ g.params
accepted_length o xs t h g e l =
    let i = subst (λ (z : Option TFunction). is_call z xs t ≡ true) e h in
    let p = and_parts (not g.kernel && all_accepted (take g.params g.vars) xs) (same_type (ty_of (result_kind g.result)) t) i in
    sym (accepted_all (take g.params g.vars) xs (and_parts (not g.kernel) (all_accepted (take g.params g.vars) xs) p.0).1) ∙ taken g.params g.vars l

pub builtin_valid : (a c d : Bool) (xs : List Seen) → (a && all_values xs && c && d) ≡ true → AreValid xs
builtin_valid a c d xs h =
    let p = and_parts (a && all_values xs && c) d h in
    let q = and_parts (a && all_values xs) c p.0 in values_valid xs (and_parts a (all_values xs) q.0).1
