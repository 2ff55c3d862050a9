-- Conflicts of marks that were joined, and the laws of conflicts.
use Rattle.std.proofs.Common.{arith, ◌≡◌, ℕ, List, [], ◌∷◌, ◌++◌, refl, subst, inl, inr, ⊎_elim}
use Rattle.std.specs.Prelude.{◌⊎◌, Option, None, Some}
use Rattle.std.proofs.lemmas.List.Elements.{Contains-append_left, Contains-append_right, Contains-append_cases, Contains-push, Contains-push_cases}
use Rattle.footprint.specs.Marks.{IsIn, Uses, ConflictAt, IsBefore}
use Rattle.footprint.specs.Least.{IsLeast}
use Rattle.footprint.specs.declared.marks.Mark.{Mark}
use Rattle.footprint.specs.declared.marks.Use.{Use}
use Rattle.footprint.specs.declared.marks.Use.TheVariants.{Write}

-- a conflict is one from the other side too
pub conflict_swap : (f g : List Mark) (b x : ℕ) → ConflictAt f g b x → ConflictAt g f b x
conflict_swap f g b x h = (h.1, h.0, h.3, h.2, ⊎_elim inr inl h.4)

-- where marks have all bytes of others, they have their conflicts
pub conflict_more : (f f' g : List Mark) (b x : ℕ) → ((how : Use) → Uses f how b x → Uses f' how b x) → ConflictAt f g b x → ConflictAt f' g b x
conflict_more f f' g b x m h = (h.0, h.1, m h.0 h.2, h.3, h.4)

-- one of the two writes the byte
pub conflict_writes : (f g : List Mark) (b x : ℕ) → ConflictAt f g b x → Uses f Write b x ⊎ Uses g Write b x
conflict_writes f g b x h =
    ⊎_elim
    (λ (e : h.0 ≡ Write). inl (subst (λ u. Uses f u b x) e h.2))
    (λ (e : h.1 ≡ Write). inr (subst (λ u. Uses g u b x) e h.3))
    h.4

-- the conflicts of two lists of marks are those of the one and those of the other
uses_left : (f g : List Mark) (b x : ℕ) (how : Use) → Uses f how b x → Uses (f ++ g) how b x
uses_left f g b x how u = (u.0, Contains-append_left f g u.0 u.1, u.2)

uses_right : (f g : List Mark) (b x : ℕ) (how : Use) → Uses g how b x → Uses (f ++ g) how b x
uses_right f g b x how u = (u.0, Contains-append_right f g u.0 u.1, u.2)

uses_cases : (f g : List Mark) (b x : ℕ) (how : Use) → Uses (f ++ g) how b x → Uses f how b x ⊎ Uses g how b x
uses_cases f g b x how u = ⊎_elim (λ c. inl (u.0, c, u.2)) (λ c. inr (u.0, c, u.2)) (Contains-append_cases f g u.0 u.1)

conflict_left : (f f' g : List Mark) (b x : ℕ) → ConflictAt f g b x → ConflictAt (f ++ f') g b x
conflict_left f f' g b x = conflict_more f (f ++ f') g b x (uses_left f f' b x)

conflict_right : (f f' g : List Mark) (b x : ℕ) → ConflictAt f' g b x → ConflictAt (f ++ f') g b x
conflict_right f f' g b x = conflict_more f' (f ++ f') g b x (uses_right f f' b x)

pub conflict_cases : (f f' g : List Mark) (b x : ℕ) → ConflictAt (f ++ f') g b x → ConflictAt f g b x ⊎ ConflictAt f' g b x
conflict_cases f f' g b x h =
    ⊎_elim (λ u. inl (h.0, h.1, u, h.3, h.4)) (λ u. inr (h.0, h.1, u, h.3, h.4)) (uses_cases f f' b x h.0 h.2)

-- of two places that are least, neither is before the other
pub one_least : (P : ℕ → ℕ → Type 0) (p q : Option (ℕ × ℕ)) → IsLeast P p → IsLeast P q → p ≡ q
one_least P None None h k = refl
one_least P None (Some q) h k = absurd (h q.0 q.1 k.0)
one_least P (Some p) None h k = absurd (k p.0 p.1 h.0)
one_least P (Some p) (Some q) h k =
    let not_before : IsBefore p.0 p.1 q → ⊥ = λ l. k.1 p.0 p.1 l h.0 in
    let not_after : IsBefore q.0 q.1 p → ⊥ = λ l. h.1 q.0 q.1 l k.0 in
    let buffer : p.0 ≡ q.0 = grind arith in
    let byte : p.1 ≡ q.1 = grind arith in
    λ i. Some (buffer i, byte i)

-- from both sides the same place is the first
pub first_swap : (f g : List Mark) (found : Option (ℕ × ℕ)) → IsLeast (ConflictAt f g) found → IsLeast (ConflictAt g f) found
first_swap f g None h = λ b x c. h b x (conflict_swap g f b x c)
first_swap f g (Some p) h = (conflict_swap f g p.0 p.1 h.0, λ b x l c. h.1 b x l (conflict_swap g f b x c))

-- what a single mark has lies in it
pub in_one : (m : Mark) (how : Use) (b x : ℕ) → Uses (m ∷ []) how b x → IsIn m how b x
in_one m how b x u =
    ⊎_elim (λ c. absurd (omega (arith, c.1))) (λ (e : m ≡ u.0). rw e u.2) (Contains-push_cases [] m u.0 u.1)

pub of_one : (m : Mark) (how : Use) (b x : ℕ) → IsIn m how b x → Uses (m ∷ []) how b x
of_one m how b x h = (m, Contains-push [] m, h)

-- what the least conflict says of the marks inside, it says of the footprints
pub least_of : (f g f' g' : List Mark) (found : Option (ℕ × ℕ)) → f ≡ f' → g ≡ g' → IsLeast (ConflictAt f g) found → IsLeast (ConflictAt f' g') found
least_of f g f' g' found s t h = rw (← s, ← t) h
