-- The innermost block comes first.
use Rattle.std.proofs.Common.{◌≡◌, ℕ, List, [], ◌∷◌, ◌++◌, Option, Some, None, refl, sym, ap, ◌∙◌}
use Rattle.clc_types.specs.declared.forms.Named.{Named}
use Rattle.clc_types.specs.Names.{or_else}
use Rattle.std.specs.Prelude.{map}
use Rattle.clc_types.specs.InternalScope.{Entries, found, known}
use Rattle.clc_types.specs.InternalSteps.{front, last_of}

pub or_assoc : (a b c : Option Named) → or_else (or_else a b) c ≡ or_else a (or_else b c)
or_assoc (Some x) b c = refl
or_assoc None b c = refl

pub or_none : (a : Option Named) → or_else a None ≡ a
or_none (Some x) = refl
or_none None = refl

pub known_last : (bs : List Entries) (b : Entries) (x : List ℕ) → known (bs ++ b ∷ []) x ≡ or_else (found b x) (known bs x)
known_last [] b x = sym (or_none (found b x))
known_last (c ∷ cs) b x = ap (λ o. or_else o (found c x)) (known_last cs b x) ∙ or_assoc (found b x) (known cs x) (found c x)

-- what `front` and `last_of` find, where the last block was taken off
pub pop_front : {M : Type 0} (f : M → Entries) (ys : List M) (b : M) → map f ys ≡ front (map f (ys ++ b ∷ []))
pop_front f [] b = refl
pop_front f (y ∷ []) b = refl
pop_front f (y ∷ z ∷ zs) b = ap (λ l. f y ∷ l) (pop_front f (z ∷ zs) b)

pub pop_last : {M : Type 0} (f : M → Entries) (ys : List M) (b : M) (e : Entries) → f b ≡ last_of (map f (ys ++ b ∷ [])) e
pop_last f [] b e = refl
pop_last f (y ∷ ys) b e = pop_last f ys b (f y)

pub front_is : (bs : List Entries) (b : Entries) → front (bs ++ b ∷ []) ≡ bs
front_is [] b = refl
front_is (c ∷ []) b = refl
front_is (c ∷ d ∷ cs) b = ap (λ l. c ∷ l) (front_is (d ∷ cs) b)

pub last_is : (bs : List Entries) (b e : Entries) → last_of (bs ++ b ∷ []) e ≡ b
last_is [] b e = refl
last_is (c ∷ cs) b e = last_is cs b c
