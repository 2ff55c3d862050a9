-- The order of marks, and what marks use as one more is put in among them.
use Rattle.std.proofs.Common.{arith, ◌≡◌, ℕ, ◌<◌, ◌≤◌, List, [], ◌∷◌, ◌++◌, take, drop, sym, subst, inl, inr, ⊎_elim}
use Rattle.std.specs.Prelude.{◌⊎◌}
use Rattle.std.specs.List.{insert}
use Rattle.std.proofs.lemmas.List.{take-append-drop}
use Rattle.std.proofs.lemmas.List.Elements.{Contains-append_left, Contains-append_right, Contains-append_cases}
use Rattle.footprint.specs.Marks.{IsIn, Uses, Adds}
use Rattle.footprint.specs.Order.{IsNoLater}
use Rattle.footprint.specs.declared.marks.Mark.{Mark}
use Rattle.footprint.specs.declared.marks.Use.{Use}
use Rattle.footprint.specs.declared.marks.Use.TheVariants.{Read}
use Rattle.footprint.proofs.ConflictLaws.{in_one, of_one}

abbrev pub no_mark : Mark
no_mark = record { how = Read; buffer = 0; from = 0; to = 0 }

pub later_trans : (m n o : Mark) → IsNoLater m n → IsNoLater n o → IsNoLater m o
later_trans m n o h k = ⊎_elim
    (λ (l : m.buffer < n.buffer). ⊎_elim
    (λ (s : n.buffer < o.buffer). inl (omega arith))
    (λ s. let e : n.buffer ≡ o.buffer = s.0 in inl (omega arith))
    k)
    (λ l. let e : m.buffer ≡ n.buffer = l.0 in let f : m.from ≤ n.from = l.1 in ⊎_elim
    (λ (s : n.buffer < o.buffer). inl (omega arith))
    (λ s. let d : n.buffer ≡ o.buffer = s.0 in let g : n.from ≤ o.from = s.1 in inr (omega arith, omega arith))
    k)
    h

uses_append_left : (f g : List Mark) (how : Use) (b x : ℕ) → Uses f how b x → Uses (f ++ g) how b x
uses_append_left f g how b x u = (u.0, Contains-append_left f g u.0 u.1, u.2)

uses_append_right : (f g : List Mark) (how : Use) (b x : ℕ) → Uses g how b x → Uses (f ++ g) how b x
uses_append_right f g how b x u = (u.0, Contains-append_right f g u.0 u.1, u.2)

uses_append_cases : (f g : List Mark) (how : Use) (b x : ℕ) → Uses (f ++ g) how b x → Uses f how b x ⊎ Uses g how b x
uses_append_cases f g how b x u = ⊎_elim (λ c. inl (u.0, c, u.2)) (λ c. inr (u.0, c, u.2)) (Contains-append_cases f g u.0 u.1)

-- all of a list is its front and its rest
uses_all : (xs : List Mark) (at : ℕ) (how : Use) (b x : ℕ) → Uses (take at xs ++ drop at xs) how b x → Uses xs how b x
uses_all xs at how b x u = subst (λ (l : List Mark). Uses l how b x) (take-append-drop at xs) u

uses_parts : (xs : List Mark) (at : ℕ) (how : Use) (b x : ℕ) → Uses xs how b x → Uses (take at xs) how b x ⊎ Uses (drop at xs) how b x
uses_parts xs at how b x u =
    uses_append_cases (take at xs) (drop at xs) how b x (subst (λ (l : List Mark). Uses l how b x) (sym (take-append-drop at xs)) u)

-- the list with one put in, as three parts
from_insert : (xs : List Mark) (at : ℕ) (m : Mark) (how : Use) (b x : ℕ) → Uses (insert xs at m) how b x → Uses xs how b x ⊎ IsIn m how b x
from_insert xs at m how b x u = ⊎_elim
    (λ v. inl (uses_all xs at how b x (uses_append_left (take at xs) (drop at xs) how b x v)))
    (λ v. ⊎_elim
    (λ w. inr (in_one m how b x w))
    (λ w. inl (uses_all xs at how b x (uses_append_right (take at xs) (drop at xs) how b x w)))
    (uses_append_cases (m ∷ []) (drop at xs) how b x v))
    (uses_append_cases (take at xs) (m ∷ drop at xs) how b x u)

to_insert : (xs : List Mark) (at : ℕ) (m : Mark) (how : Use) (b x : ℕ) → Uses xs how b x ⊎ IsIn m how b x → Uses (insert xs at m) how b x
to_insert xs at m how b x h = ⊎_elim
    (λ u. ⊎_elim
    (λ v. uses_append_left (take at xs) (m ∷ drop at xs) how b x v)
    (λ v. uses_append_right (take at xs) (m ∷ drop at xs) how b x (uses_append_right (m ∷ []) (drop at xs) how b x v))
    (uses_parts xs at how b x u))
    (λ i. uses_append_right (take at xs) (m ∷ drop at xs) how b x (uses_append_left (m ∷ []) (drop at xs) how b x (of_one m how b x i)))
    h

pub adds_inserted : (xs : List Mark) (at : ℕ) (m : Mark) → Adds m.how m.buffer m.from m.to xs (insert xs at m)
adds_inserted xs at m = λ how b x. (from_insert xs at m how b x, to_insert xs at m how b x)
