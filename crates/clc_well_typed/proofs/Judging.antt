-- A judgement without a fault: what it says of its parts.
use Rattle.std.proofs.Common.{◌≡◌, ℕ, Bool, true, false, ◌&&◌, List, [], ◌∷◌, ◌++◌, refl, ap, ◌∙◌}
use Rattle.clc_types.specs.declared.type_rule.TypeRule.{TypeRule}
use Rattle.clc_types.specs.declared.forms.Fault.{Fault}
use Rattle.clc_types.specs.Judged.{Judged, Fine, Faulty, both, next, unless, violations}

abbrev fine_or : {A : Type 0} → A → Judged A → A
fine_or a (Fine b) = b
fine_or a (Faulty f fs) = a

pub fine_is : {A : Type 0} (a b : A) → Fine a ≡ Fine b → a ≡ b
fine_is a b h = ap (fine_or a) h

pub next_parts : {A B : Type 0} (j : Judged A) (go : A → Judged B) (y : B) → next j go ≡ Fine y → (x : A) × (j ≡ Fine x) × (go x ≡ Fine y)
next_parts (Fine a) go y h = (a, refl, h)
next_parts (Faulty f fs) go y h = absurd (cc)

pub both_parts : {A B : Type 0} (j : Judged A) (k : Judged B) (x : A × B) → both j k ≡ Fine x → (j ≡ Fine x.0) × (k ≡ Fine x.1)
both_parts {A} {B} (Fine a) (Fine b) x h = (ap (λ z. Fine (fine_or {A = A × B} (a, b) z).0) h, ap (λ z. Fine (fine_or {A = A × B} (a, b) z).1) h)
both_parts (Fine a) (Faulty g gs) x h = absurd (cc)
both_parts (Faulty f fs) (Fine b) x h = absurd (cc)
both_parts (Faulty f fs) (Faulty g gs) x h = absurd (cc)

pub unless_parts : {A : Type 0} (fs : List Fault) (a y : A) → unless fs a ≡ Fine y → (fs ≡ []) × (a ≡ y)
unless_parts [] a y h = (refl, fine_is a y h)
unless_parts (f ∷ fs) a y h = absurd (cc)

pub append_none : (xs ys : List Fault) → xs ++ ys ≡ [] → (xs ≡ []) × (ys ≡ [])
append_none [] ys h = (refl, h)
append_none (x ∷ xs) ys h = absurd (cc)

pub not_violated : (p : ℕ) (r : TypeRule) (b : Bool) (more : List (TypeRule × Bool)) → violations p ((r, b) ∷ more) ≡ [] → (b ≡ false) × (violations p more ≡ [])
not_violated p r true more h = absurd (cc)
not_violated p r false more h = (refl, h)

-- ---- tests that all hold

pub yes : {a b : Bool} → a ≡ true → b ≡ true → a && b ≡ true
yes {a} {b} x y = ap (λ z. z && b) x ∙ y

pub yes3 : {a b c : Bool} → a ≡ true → b ≡ true → c ≡ true → a && b && c ≡ true
yes3 x y z = yes (yes x y) z

pub yes4 : {a b c d : Bool} → a ≡ true → b ≡ true → c ≡ true → d ≡ true → a && b && c && d ≡ true
yes4 x y z w = yes (yes3 x y z) w

pub yes6 : {a b c d i j : Bool} → a ≡ true → b ≡ true → c ≡ true → d ≡ true → i ≡ true → j ≡ true → a && b && c && d && i && j ≡ true
yes6 x y z w v u = yes (yes (yes4 x y z w) v) u

pub yes7 : {a b c d i j l : Bool} → a ≡ true → b ≡ true → c ≡ true → d ≡ true → i ≡ true → j ≡ true → l ≡ true → a && b && c && d && i && j && l ≡ true
yes7 x y z w v u t = yes (yes6 x y z w v u) t
