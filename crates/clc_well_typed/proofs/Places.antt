-- The declarations of a part of a function's text stand in order, between those before and those after it.
use Rattle.std.proofs.Common.{◌≡◌, ℕ, suc, ◌<◌, ◌≤◌, true, List, [], ◌∷◌, ◌++◌, Some, slice_get, length, refl, sym, ap, ◌∙◌, subst, arith, lt-ltb, le-ltb, eq-eqb, eqb-true, eqb}
use Rattle.std.specs.Prelude.{map, if◌then◌else◌}
use Rattle.std.proofs.lemmas.Bool.{and_parts}
use Rattle.clc_types.specs.Blocks.{Decl, earlier}
use Rattle.clc_types.specs.WellTyped.{counts}
use Rattle.clc_well_typed.proofs.Judging.{yes}

-- from a token on and before another
abbrev pub Ordered : ℕ → ℕ → List Decl → Type 0
Ordered lo hi [] = lo ≤ hi
Ordered lo hi (d ∷ ds) = (lo ≤ d.place) × Ordered (suc d.place) hi ds

abbrev pub Below : ℕ → List Decl → Type 0
Below p [] = Unit {0}
Below p (d ∷ ds) = (d.place < p) × Below p ds

abbrev pub Above : ℕ → List Decl → Type 0
Above p [] = Unit {0}
Above p (d ∷ ds) = (p ≤ d.place) × Above p ds

pub ordered_wider : (lo hi lo' hi' : ℕ) (ds : List Decl) → lo' ≤ lo → hi ≤ hi' → Ordered lo hi ds → Ordered lo' hi' ds
ordered_wider lo hi lo' hi' [] a b h = omega (arith, a, b, h)
ordered_wider lo hi lo' hi' (d ∷ ds) a b h = let c = h.0 in (omega (arith, a, c), ordered_wider (suc d.place) hi (suc d.place) hi' ds (omega arith) b h.1)

pub ordered_append : (lo mid hi : ℕ) (ds es : List Decl) → Ordered lo mid ds → Ordered mid hi es → Ordered lo hi (ds ++ es)
ordered_append lo mid hi [] es h i = ordered_wider mid hi lo hi es h (omega arith) i
ordered_append lo mid hi (d ∷ ds) es h i = (h.0, ordered_append (suc d.place) mid hi ds es h.1 i)

ordered_le : (lo hi : ℕ) (ds : List Decl) → Ordered lo hi ds → lo ≤ hi
ordered_le lo hi [] h = h
ordered_le lo hi (d ∷ ds) h = let a = h.0 in let b = ordered_le (suc d.place) hi ds h.1 in omega (arith, a, b)

pub ordered_below : (lo hi : ℕ) (ds : List Decl) → Ordered lo hi ds → Below hi ds
ordered_below lo hi [] h = tt
ordered_below lo hi (d ∷ ds) h = let a = ordered_le (suc d.place) hi ds h.1 in (omega (arith, a), ordered_below (suc d.place) hi ds h.1)

pub above_lower : (p q : ℕ) (ds : List Decl) → p ≤ q → Above q ds → Above p ds
above_lower p q [] a h = tt
above_lower p q (d ∷ ds) a h = let b = h.0 in (omega (arith, a, b), above_lower p q ds a h.1)

pub ordered_above : (lo hi : ℕ) (ds : List Decl) → Ordered lo hi ds → Above lo ds
ordered_above lo hi [] h = tt
ordered_above lo hi (d ∷ ds) h = let a = h.0 in (a, above_lower lo (suc d.place) ds (omega (arith, a)) (ordered_above (suc d.place) hi ds h.1))

pub below_upper : (p q : ℕ) (ds : List Decl) → p ≤ q → Below p ds → Below q ds
below_upper p q [] a h = tt
below_upper p q (d ∷ ds) a h = let b = h.0 in (omega (arith, a, b), below_upper p q ds a h.1)

pub below_append : (p : ℕ) (ds es : List Decl) → Below p ds → Below p es → Below p (ds ++ es)
below_append p [] es h i = i
below_append p (d ∷ ds) es h i = (h.0, below_append p ds es h.1 i)

pub above_append : (p : ℕ) (ds es : List Decl) → Above p ds → Above p es → Above p (ds ++ es)
above_append p [] es h i = i
above_append p (d ∷ ds) es h i = (h.0, above_append p ds es h.1 i)

earlier_none : (p : ℕ) (ds : List Decl) → Above p ds → earlier ds p ≡ 0
earlier_none p [] h = refl
earlier_none p (d ∷ ds) h = ap (λ b. if b then suc (earlier ds p) else earlier ds p) (le-ltb d.place p h.0) ∙ earlier_none p ds h.1

-- the number of a declaration is that of those before it
pub earlier_is : (p : ℕ) (ds es : List Decl) → Below p ds → Above p es → earlier (ds ++ es) p ≡ length ds
earlier_is p [] es h i = earlier_none p es i
earlier_is p (d ∷ ds) es h i = ap (λ b. if b then suc (earlier (ds ++ es) p) else earlier (ds ++ es) p) (lt-ltb d.place p h.0) ∙ ap suc (earlier_is p ds es h.1 i)

pub at_length : {A B : Type 0} (f : A → B) (xs : List A) (x : A) (ys : List A) → slice_get (map f (xs ++ x ∷ ys)) (length xs) ≡ Some (f x)
at_length f [] x ys = refl
at_length f (y ∷ xs) x ys = at_length f xs x ys

pub length_last : {A : Type 0} (xs : List A) (x : A) → length (xs ++ x ∷ []) ≡ suc (length xs)
length_last [] x = refl
length_last (y ∷ xs) x = ap suc (length_last xs x)

-- ---- numbers that count

pub counts_none : (n m : ℕ) → n ≡ m → counts n m [] ≡ true
counts_none n m h = eq-eqb n m h

pub counts_one : (n m v : ℕ) → v ≡ n → m ≡ suc n → counts n m (v ∷ []) ≡ true
counts_one n m v h i = yes (eq-eqb v n h) (eq-eqb (suc n) m (sym i))

pub counts_append : (n k m : ℕ) (xs ys : List ℕ) → counts n k xs ≡ true → counts k m ys ≡ true → counts n m (xs ++ ys) ≡ true
counts_append n k m [] ys h i = subst (λ z. counts z m ys ≡ true) (sym (eqb-true n k h)) i
counts_append n k m (v ∷ xs) ys h i =
    let d = and_parts (eqb v n) (counts (suc n) k xs) h in
    yes d.0 (counts_append (suc n) k m xs ys d.1 i)
