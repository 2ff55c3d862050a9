-- Faults of parts that stand one after the other: those of the first come first.
use Rattle.std.proofs.Common.{◌≡◌, ℕ, suc, ◌+◌, ◌<◌, ◌≤◌, ◌^◌, Bool, true, false, List, [], ◌∷◌, ◌++◌, Option, Some, None, ◌⊎◌, inl, inr, refl, sym, ap, ◌∙◌, subst, arith}
use Rattle.clc_types.specs.declared.type_rule.TypeRule.{TypeRule}
use Rattle.clc_types.specs.declared.forms.Fault.{Fault}
use Rattle.clc_types.specs.Judged.{Judged, Fine, Faulty, both, next, unless, violations, faults_of, rank, Before, Among, IsLeast}
use Rattle.clc_types.specs.InternalWalk.{Walked, Right, Wrong, after, guarded}

pub record Inside (lo hi : ℕ) (fs : List Fault) : Type 0 where
  pub all : (g : Fault) → Among g fs → (lo ≤ g.token) × (g.token < hi)

pub in_either : (fs gs : List Fault) (g : Fault) → Among g (fs ++ gs) → Among g fs ⊎ Among g gs
in_either [] gs g h = inr h
in_either (f ∷ fs) gs g (inl e) = inl (inl e)
in_either (f ∷ fs) gs g (inr h) = deeper (in_either fs gs g h)
  where
    deeper : Among g fs ⊎ Among g gs → Among g (f ∷ fs) ⊎ Among g gs
    deeper (inl a) = inl (inr a)
    deeper (inr b) = inr b

pub in_left : (fs gs : List Fault) (g : Fault) → Among g fs → Among g (fs ++ gs)
in_left [] gs g h = absurd h
in_left (f ∷ fs) gs g (inl e) = inl e
in_left (f ∷ fs) gs g (inr h) = inr (in_left fs gs g h)

pub inside_none : (lo hi : ℕ) → Inside lo hi []
inside_none lo hi = record { all = λ g h. absurd h }

pub inside_append : (lo hi : ℕ) (fs gs : List Fault) → Inside lo hi fs → Inside lo hi gs → Inside lo hi (fs ++ gs)
inside_append lo hi fs gs h i = record { all = λ g m. by g (in_either fs gs g m) }
  where
    by : (g : Fault) → Among g fs ⊎ Among g gs → (lo ≤ g.token) × (g.token < hi)
    by g (inl a) = h.all g a
    by g (inr a) = i.all g a

pub wider : (lo hi lo' hi' : ℕ) (fs : List Fault) → lo' ≤ lo → hi ≤ hi' → Inside lo hi fs → Inside lo' hi' fs
wider lo hi lo' hi' fs a b h = record { all = λ g m. let k = h.all g m in let k0 = k.0 in let k1 = k.1 in (omega (arith, k0), omega (arith, k1)) }

-- each fault comes before those after it
abbrev pub AllAfter : Fault → List Fault → Type 0
AllAfter f [] = Unit {0}
AllAfter f (g ∷ gs) = Before f g × AllAfter f gs

abbrev pub Sorted : List Fault → Type 0
Sorted [] = Unit {0}
Sorted (f ∷ fs) = AllAfter f fs × Sorted fs

same_before : (f : Fault) → Before f f
same_before f = inr (refl, omega arith)

after_all : (f : Fault) (fs : List Fault) → AllAfter f fs → (g : Fault) → Among g fs → Before f g
after_all f [] h g m = absurd m
after_all f (x ∷ xs) h g (inl e) = subst (Before f) (sym e) h.0
after_all f (x ∷ xs) h g (inr m) = after_all f xs h.1 g m

pub first_least : (f : Fault) (fs : List Fault) → Sorted (f ∷ fs) → IsLeast f (f ∷ fs)
first_least f fs h = record { here = inl refl; least = by }
  where
    by : (g : Fault) → Among g (f ∷ fs) → Before f g
    by g (inl e) = subst (Before f) (sym e) (same_before f)
    by g (inr m) = after_all f fs h.0 g m

after_append : (f : Fault) (fs gs : List Fault) → AllAfter f fs → AllAfter f gs → AllAfter f (fs ++ gs)
after_append f [] gs h i = i
after_append f (x ∷ xs) gs h i = (h.0, after_append f xs gs h.1 i)

after_inside : (f : Fault) (mid hi : ℕ) (gs : List Fault) → f.token < mid → Inside mid hi gs → AllAfter f gs
after_inside f mid hi [] h i = tt
after_inside f mid hi (g ∷ gs) h i =
    let k = (i.all g (inl refl)).0 in
    (inl (omega (arith, h, k)), after_inside f mid hi gs h (record { all = λ x m. i.all x (inr m) }))

pub sorted_append : (lo mid hi : ℕ) (fs gs : List Fault) → Inside lo mid fs → Inside mid hi gs → Sorted fs → Sorted gs → Sorted (fs ++ gs)
sorted_append lo mid hi [] gs a b h i = i
sorted_append lo mid hi (f ∷ fs) gs a b h i =
    (after_append f fs gs h.0 (after_inside f mid hi gs (a.all f (inl refl)).1 b), sorted_append lo mid hi fs gs (record { all = λ x m. a.all x (inr m) }) b h.1 i)

-- the rules of a list rise
abbrev pub AllAbove : TypeRule → List (TypeRule × Bool) → Type 0
AllAbove r [] = Unit {0}
AllAbove r (x ∷ xs) = (rank r ≤ rank x.0) × AllAbove r xs

abbrev pub Rising : List (TypeRule × Bool) → Type 0
Rising [] = Unit {0}
Rising (x ∷ xs) = AllAbove x.0 xs × Rising xs

above_after : (p : ℕ) (r : TypeRule) (xs : List (TypeRule × Bool)) → AllAbove r xs → AllAfter (record { token = p; rule = r }) (violations p xs)
above_after p r [] h = tt
above_after p r ((s, true) ∷ xs) h = (inr (refl, h.0), above_after p r xs h.1)
above_after p r ((s, false) ∷ xs) h = above_after p r xs h.1

pub sorted_violations : (p : ℕ) (xs : List (TypeRule × Bool)) → Rising xs → Sorted (violations p xs)
sorted_violations p [] h = tt
sorted_violations p ((r, true) ∷ xs) h = (above_after p r xs h.0, sorted_violations p xs h.1)
sorted_violations p ((r, false) ∷ xs) h = sorted_violations p xs h.1

pub inside_violations : (p : ℕ) (xs : List (TypeRule × Bool)) → Inside p (p + 1) (violations p xs)
inside_violations p [] = inside_none p (p + 1)
inside_violations p ((r, false) ∷ xs) = inside_violations p xs
inside_violations p ((r, true) ∷ xs) = one_more (inside_violations p xs)
  where
    one_more : Inside p (p + 1) (violations p xs) → Inside p (p + 1) (violations p ((r, true) ∷ xs))
    one_more h = record { all = by }
      where
        by : (g : Fault) → Among g (violations p ((r, true) ∷ xs)) → (p ≤ g.token) × (g.token < p + 1)
        by g (inl e) = let t = ap (λ f. f.token) e in (omega (arith, t), omega (arith, t))
        by g (inr m) = h.all g m

-- the least of the first part's faults is the least of both
pub least_left : (g : Fault) (lo mid hi : ℕ) (fs gs : List Fault) → Inside lo mid fs → Inside mid hi gs → IsLeast g fs → IsLeast g (fs ++ gs)
least_left g lo mid hi fs gs a b h = record { here = in_left fs gs g h.here; least = λ x m. by x (in_either fs gs x m) }
  where
    by : (x : Fault) → Among x fs ⊎ Among x gs → Before g x
    by x (inl m) = h.least x m
    by x (inr m) = let k = (a.all g h.here).1 in let l = (b.all x m).0 in inl (omega (arith, k, l))

-- a part as it is judged, and as the walk meets it: where the next token has the number hi
abbrev pub Same : {A : Type 0} → ℕ → Judged A → Walked A → Type 0
Same hi (Fine a) (Right b q) = (a ≡ b) × (q ≡ hi)
Same hi (Fine a) (Wrong g) = ⊥
Same hi (Faulty f fs) (Right b q) = ⊥
Same hi (Faulty f fs) (Wrong g) = IsLeast g (f ∷ fs)

pub guard_same : {A : Type 0} (hi : ℕ) (fs : List Fault) (a : A) → Sorted fs → Same hi (unless fs a) (guarded fs (Right a hi))
guard_same hi [] a h = (refl, refl)
guard_same hi (f ∷ fs) a h = first_least f fs h

pub after_assoc : {A B C : Type 0} (w : Walked A) (f : A → ℕ → Walked B) (g : B → ℕ → Walked C) → after (after w f) g ≡ after w (λ a q. after (f a q) g)
after_assoc (Right a q) f g = refl
after_assoc (Wrong e) f g = refl

pub next_same : {A B : Type 0} (mid hi : ℕ) (j : Judged A) (w : Walked A) (go : A → Judged B) (z : A → ℕ → Walked B)
    → Same mid j w → ((a : A) → j ≡ Fine a → Same hi (go a) (z a mid)) → Same hi (next j go) (after w z)
next_same mid hi (Fine a) (Right b q) go z h i = subst (λ x. Same hi (go a) (z x q)) h.0 (subst (λ x. Same hi (go a) (z a x)) (sym h.1) (i a refl))
next_same mid hi (Fine a) (Wrong g) go z h i = absurd h
next_same mid hi (Faulty f fs) (Right b q) go z h i = absurd h
next_same mid hi (Faulty f fs) (Wrong g) go z h i = h

second_same : {A B C : Type 0} (end hi : ℕ) (a : A) (k : Judged B) (v : Walked B) (go : A × B → Judged C) (z : B → ℕ → Walked C)
    → Same end k v → ((c : B) → k ≡ Fine c → Same hi (go (a, c)) (z c end)) → Same hi (next (both (Fine a) k) go) (after v z)
second_same end hi a (Fine c) (Right d r) go z h i = subst (λ x. Same hi (go (a, c)) (z x r)) h.0 (subst (λ x. Same hi (go (a, c)) (z c x)) (sym h.1) (i c refl))
second_same end hi a (Fine c) (Wrong g) go z h i = absurd h
second_same end hi a (Faulty f fs) (Right d r) go z h i = absurd h
second_same end hi a (Faulty f fs) (Wrong g) go z h i = h

-- two operands, and then what is made of them
pub two_same : {A B C : Type 0} (lo mid mid' end hi : ℕ) (j : Judged A) (w : Walked A) (k : Judged B) (v : A → ℕ → Walked B)
    (go : A × B → Judged C) (z : A → ℕ → B → ℕ → Walked C)
    → Inside lo mid (faults_of j) → mid ≤ mid' → Inside mid' end (faults_of k) → Same mid j w → ((a : A) → Same end k (v a mid))
    → ((a : A) (c : B) → j ≡ Fine a → k ≡ Fine c → Same hi (go (a, c)) (z a mid c end))
    → Same hi (next (both j k) go) (after w (λ a q. after (v a q) (z a q)))
two_same lo mid mid' end hi (Fine a) (Right b q) k v go z i0 le i1 h i fin =
    subst (λ x. Same hi (next (both (Fine a) k) go) (after (v x q) (z x q))) h.0
    (subst (λ x. Same hi (next (both (Fine a) k) go) (after (v a x) (z a x))) (sym h.1)
    (second_same end hi a k (v a mid) go (z a mid) (i a) (λ c e. fin a c refl e)))
two_same lo mid mid' end hi (Fine a) (Wrong g) k v go z i0 le i1 h i fin = absurd h
two_same lo mid mid' end hi (Faulty f fs) (Right b q) k v go z i0 le i1 h i fin = absurd h
two_same lo mid mid' end hi (Faulty f fs) (Wrong g) (Fine c) v go z i0 le i1 h i fin = h
two_same lo mid mid' end hi (Faulty f fs) (Wrong g) (Faulty x xs) v go z i0 le i1 h i fin = least_left g lo mid' end (f ∷ fs) (x ∷ xs) (wider lo mid lo mid' (f ∷ fs) (omega arith) le i0) i1 h

pub inside_unless : {A : Type 0} (lo hi : ℕ) (fs : List Fault) (a : A) → Inside lo hi fs → Inside lo hi (faults_of (unless fs a))
inside_unless lo hi [] a h = h
inside_unless lo hi (f ∷ fs) a h = h

pub inside_next : {A B : Type 0} (lo hi : ℕ) (j : Judged A) (go : A → Judged B) → Inside lo hi (faults_of j) → ((a : A) → j ≡ Fine a → Inside lo hi (faults_of (go a))) → Inside lo hi (faults_of (next j go))
inside_next lo hi (Fine a) go h i = i a refl
inside_next lo hi (Faulty f fs) go h i = h

abbrev fine_or : {A : Type 0} → A → Judged A → A
fine_or a (Fine b) = b
fine_or a (Faulty f fs) = a

pub both_fine : {A B : Type 0} (j : Judged A) (k : Judged B) (x : A × B) → both j k ≡ Fine x → (j ≡ Fine x.0) × (k ≡ Fine x.1)
both_fine {A} {B} (Fine a) (Fine b) x e = (ap (λ z. Fine (fine_or {A = A × B} (a, b) z).0) e, ap (λ z. Fine (fine_or {A = A × B} (a, b) z).1) e)
both_fine (Fine a) (Faulty g gs) x e = absurd (cc)
both_fine (Faulty f fs) (Fine b) x e = absurd (cc)
both_fine (Faulty f fs) (Faulty g gs) x e = absurd (cc)

pub inside_both : {A B : Type 0} (lo hi : ℕ) (j : Judged A) (k : Judged B) → Inside lo hi (faults_of j) → Inside lo hi (faults_of k) → Inside lo hi (faults_of (both j k))
inside_both lo hi (Fine a) (Fine b) h i = h
inside_both lo hi (Fine a) (Faulty g gs) h i = i
inside_both lo hi (Faulty f fs) (Fine b) h i = h
inside_both lo hi (Faulty f fs) (Faulty g gs) h i = inside_append lo hi (f ∷ fs) (g ∷ gs) h i

pub next_fine : {A : Type 0} (j : Judged A) → next j (λ a. Fine a) ≡ j
next_fine (Fine a) = refl
next_fine (Faulty f fs) = refl
