-- What a test of a whole says of its parts.
use Rattle.std.proofs.Common.{◌≡◌, suc, Bool, true, false, List, [], ◌∷◌, Option, Some, None, length, refl, ap}
use Rattle.std.specs.Prelude.{◌&&◌, not, take}
use Rattle.clc_lexer.specs.declared.marks.Mark.{Mark}
use Rattle.clc_types.specs.declared.typed.Ty.{Ty}
use Rattle.clc_types.specs.declared.typed.Var.{Var}
use Rattle.clc_types.specs.declared.typed.TFunction.{TFunction}
use Rattle.clc_types.specs.Rules.{ty_of, result_kind}
use Rattle.clc_types.specs.WellTyped.{Seen, is_value, is_number, all_values, combined, chained, all_accepted, accepts, value_type, is_call, is_operator, takes, same_type}
use Rattle.inline_law.proofs.Growing.{and_left, and_right}

abbrev pub all_valid : List Seen → Bool
all_valid [] = true
all_valid (x ∷ xs) = x.valid && all_valid xs

abbrev pub each_valid : List (Mark × Seen) → Bool
each_valid [] = true
each_valid (x ∷ xs) = x.1.valid && each_valid xs

and_true : (a b : Bool) → a ≡ true → b ≡ true → (a && b) ≡ true
and_true true b h i = i
and_true false b h i = h

pub value_valid : (x : Seen) → is_value x ≡ true → x.valid ≡ true
value_valid x h = and_left x.valid (is_number x.ty) h

pub values_valid : (xs : List Seen) → all_values xs ≡ true → all_valid xs ≡ true
values_valid [] h = refl
values_valid (x ∷ xs) h = and_true x.valid (all_valid xs) (value_valid x (and_left (is_value x) (all_values xs) h)) (values_valid xs (and_right (is_value x) (all_values xs) h))

accepted_valid : (vs : List Var) (xs : List Seen) → all_accepted vs xs ≡ true → all_valid xs ≡ true
accepted_valid [] [] h = refl
accepted_valid [] (x ∷ xs) h = absurd (cc)
accepted_valid (v ∷ vs) [] h = refl
accepted_valid (v ∷ vs) (x ∷ xs) h =
    and_true x.valid (all_valid xs) (and_left _ _ (and_left (x.valid && accepts (value_type v) x.ty) (all_accepted vs xs) h)) (accepted_valid vs xs (and_right (x.valid && accepts (value_type v) x.ty) (all_accepted vs xs) h))

pub accepted_many : (vs : List Var) (xs : List Seen) → all_accepted vs xs ≡ true → length xs ≡ length vs
accepted_many [] [] h = refl
accepted_many [] (x ∷ xs) h = absurd (cc)
accepted_many (v ∷ vs) [] h = absurd (cc)
accepted_many (v ∷ vs) (x ∷ xs) h = ap suc (accepted_many vs xs (and_right (x.valid && accepts (value_type v) x.ty) (all_accepted vs xs) h))

pub call_accepted : (f : TFunction) (xs : List Seen) (t : Ty) → is_call (Some f) xs t ≡ true → all_accepted (take f.params f.vars) xs ≡ true
call_accepted f xs t h =
    and_right (not f.kernel) (all_accepted (take f.params f.vars) xs)
    (and_left (not f.kernel && all_accepted (take f.params f.vars) xs) (same_type (ty_of (result_kind f.result)) t) h)

pub call_valid : (o : Option TFunction) (xs : List Seen) (t : Ty) → is_call o xs t ≡ true → all_valid xs ≡ true
call_valid None xs t h = absurd (cc)
call_valid (Some f) xs t h = accepted_valid (take f.params f.vars) xs (call_accepted f xs t h)

first_valid : (a : Seen) (x : Mark × Seen) → (combined a x).valid ≡ true → a.valid ≡ true
first_valid a x h =
    and_left a.valid x.1.valid (and_left (a.valid && x.1.valid) (is_operator x.0) (and_left (a.valid && x.1.valid && is_operator x.0) (takes x.0 a.ty x.1.ty) h))

second_valid : (a : Seen) (x : Mark × Seen) → (combined a x).valid ≡ true → x.1.valid ≡ true
second_valid a x h =
    and_right a.valid x.1.valid (and_left (a.valid && x.1.valid) (is_operator x.0) (and_left (a.valid && x.1.valid && is_operator x.0) (takes x.0 a.ty x.1.ty) h))

pub chained_first : (a : Seen) (xs : List (Mark × Seen)) → (chained a xs).valid ≡ true → a.valid ≡ true
chained_first a [] h = h
chained_first a (x ∷ xs) h = first_valid a x (chained_first (combined a x) xs h)

pub chained_each : (a : Seen) (xs : List (Mark × Seen)) → (chained a xs).valid ≡ true → each_valid xs ≡ true
chained_each a [] h = refl
chained_each a (x ∷ xs) h = and_true x.1.valid (each_valid xs) (second_valid a x (chained_first (combined a x) xs h)) (chained_each (combined a x) xs h)
