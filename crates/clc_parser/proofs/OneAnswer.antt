-- A list of tokens is a text or has a first fault, not both, and it has one first fault at most.
use Rattle.std.proofs.Common.{◌≡◌, ◌⊎◌, inl, inr, ℕ, Bool, true, false, List, [], ◌∷◌, ◌++◌, refl, sym, ap, ◌∙◌, subst, length, append_assoc, append-nil}
use Rattle.clc_reading.specs.Reading.{Reason, Wrong, Deep, Spelling, tokens_of, below, AllBelow, Language}
use Rattle.clc_reading.specs.Verdict.{IsViable, IsShallow, IsFault}
use Rattle.clc_lexer.specs.declared.token.Token.{Token}
use Rattle.clc_tree.specs.declared.functions.Tree.{Tree}
use Rattle.clc_parser.specs.SourceTree.{programs, IsText, FaultAt, HasOneAnswer}
use Rattle.clc_parser.proofs.Top.{some_answer}

-- ---- lists of tokens and their spellings

abbrev Cut : {T : Type 0} → Spelling T → List T → List T → Type 0
Cut {T} ms front back = (m k : Spelling T) × (ms ≡ m ++ k) × (tokens_of m ≡ front) × (tokens_of k ≡ back)

cut : {T : Type 0} (ms : Spelling T) (front back : List T) → tokens_of ms ≡ front ++ back → Cut ms front back
cut ms [] back h = ([], ms, refl, refl, h)
cut [] (x ∷ front) back h = absurd (cc)
cut (y ∷ ms) (x ∷ front) back h =
    let first : y.0 ≡ x = cc in
    let rest : tokens_of ms ≡ front ++ back = cc in
    let c = cut ms front back rest in
    (y ∷ c.0, c.1, ap (λ z. y ∷ z) c.2, ap (λ z. z ∷ tokens_of c.0) first ∙ ap (λ z. x ∷ z) c.3, c.4)

-- the same list cut at two places: at one, or the second later, or the first
abbrev Places : {T : Type 0} → List T → List T → List T → List T → Type 0
Places {T} p l q r =
    ((p ≡ q) × (l ≡ r)) ⊎
    (((x : T) × (mid : List T) × (q ≡ p ++ x ∷ mid) × (l ≡ x ∷ (mid ++ r))) ⊎
    ((x : T) × (mid : List T) × (p ≡ q ++ x ∷ mid) × (r ≡ x ∷ (mid ++ l))))

further : {T : Type 0} (y : T) (p l q r : List T) → Places p l q r → Places (y ∷ p) l (y ∷ q) r
further y p l q r (inl (e, f)) = inl (ap (λ z. y ∷ z) e, f)
further y p l q r (inr (inl (x, mid, e, f))) = inr (inl (x, mid, ap (λ z. y ∷ z) e, f))
further y p l q r (inr (inr (x, mid, e, f))) = inr (inr (x, mid, ap (λ z. y ∷ z) e, f))

places : {T : Type 0} (p l q r : List T) → p ++ l ≡ q ++ r → Places p l q r
places [] l [] r h = inl (refl, h)
places [] l (x ∷ q) r h = inr (inl (x, q, refl, h))
places (x ∷ p) l [] r h = inr (inr (x, p, refl, sym h))
places (x ∷ p) l (y ∷ q) r h =
    let same : x ≡ y = cc in
    let rest : p ++ l ≡ q ++ r = cc in
    subst (λ z. Places (x ∷ p) l (z ∷ q) r) same (further x p l q r (places p l q r rest))

below_at : {T : Type 0} (n : ℕ) (m : Spelling T) (x : T) (d : ℕ) (k : Spelling T) → AllBelow n (m ++ (x, d) ∷ k) → below d n ≡ true
below_at n [] x d k h = h.0
below_at n (y ∷ m) x d k h = below_at n m x d k h.1

never : (b : Bool) → b ≡ true → b ≡ false → ⊥
never true h g = cc
never false h g = cc

module _ {T A : Type 0} (n : ℕ) (L : Language T A) where
  -- a token with its depth, where the tokens before it end
  abbrev Met : A → T → List T → Type 0
  Met a x front = (m : Spelling T) × (d : ℕ) × (k : Spelling T) × L.spells a (m ++ (x, d) ∷ k) × (tokens_of m ≡ front)

  met : (a : A) (ms : Spelling T) (front : List T) (x : T) (back : List T) → L.spells a ms → tokens_of ms ≡ front ++ x ∷ back → Met a x front
  met a ms front x back s h = go (cut ms front (x ∷ back) h)
    where
      go : Cut ms front (x ∷ back) → Met a x front
      go (m, [], e, f, g) = absurd (cc)
      go (m, y ∷ k, e, f, g) =
          let same : y.0 ≡ x = cc in
          (m, y.1, k, subst (λ z. L.spells a (m ++ (z, y.1) ∷ k)) same (subst (L.spells a) e s), f)

  -- ---- a text has no fault

  text_none : (a : A) (ms : Spelling T) (why : Reason) (front back : List T) → L.spells a ms → tokens_of ms ≡ front ++ back → AllBelow n ms → IsFault n L why front back → ⊥
  text_none a ms Wrong front [] s e low f = f.2 a ms s (e ∙ append-nil front)
  text_none a ms Wrong front (x ∷ back) s e low f = f.2 (a, ms, back, s, e ∙ sym (append_assoc front (x ∷ []) back))
  text_none a ms Deep front [] s e low f = f.1
  text_none a ms Deep front (x ∷ back) s e low f = go (cut ms front (x ∷ back) e)
    where
      go : Cut ms front (x ∷ back) → ⊥
      go (m, [], c, g, h) = absurd (cc)
      go (m, y ∷ k, c, g, h) =
          let same : y.0 ≡ x = cc in
          let t : L.spells a (m ++ (x, y.1) ∷ k) = subst (λ z. L.spells a (m ++ (z, y.1) ∷ k)) same (subst (L.spells a) c s) in
          never (below y.1 n) (below_at n m y.0 y.1 k (subst (AllBelow n) c low)) (f.1.1 a m k y.1 t g)

  -- ---- one fault at most

  -- some text goes on from before a fault
  reached : (why : Reason) (front back : List T) → IsFault n L why front back → IsViable L front
  reached Wrong front back f = f.0
  reached Deep front [] f = absurd f.1
  reached Deep front (x ∷ back) f = let v = f.1.0 in (v.0, v.1, x ∷ v.2, v.3, v.4 ∙ append_assoc front (x ∷ []) v.2)

  shallow : (why : Reason) (front back : List T) → IsFault n L why front back → IsShallow n L front
  shallow Wrong front back f = f.1
  shallow Deep front back f = f.0

  earlier : (why other : Reason) (front : List T) (x : T) (mid back left : List T) → IsFault n L why front (x ∷ left) → IsFault n L other (front ++ x ∷ mid) back → ⊥
  earlier Wrong other front x mid back left f g =
      let v = reached other (front ++ x ∷ mid) back g in
      f.2 (v.0, v.1, mid ++ v.2, v.3, v.4 ∙ append_assoc front (x ∷ mid) v.2 ∙ sym (append_assoc front (x ∷ []) (mid ++ v.2)))
  earlier Deep other front x mid back left f g =
      let v = reached other (front ++ x ∷ mid) back g in
      go v.0 v.1 v.2 v.3 (cut v.1 (front ++ x ∷ mid) v.2 v.4)
    where
      inside : (a : A) (m k : Spelling T) → L.spells a (m ++ k) → AllBelow n m → Cut m front (x ∷ mid) → ⊥
      inside a m k s low (m1, [], c, h, i) = absurd (cc)
      inside a m k s low (m1, y ∷ k1, c, h, i) =
          let same : y.0 ≡ x = cc in
          let e : m ++ k ≡ m1 ++ y ∷ (k1 ++ k) = ap (λ z. z ++ k) c ∙ append_assoc m1 (y ∷ k1) k in
          let t : L.spells a (m1 ++ (x, y.1) ∷ (k1 ++ k)) = subst (λ z. L.spells a (m1 ++ (z, y.1) ∷ (k1 ++ k))) same (subst (L.spells a) e s) in
          never (below y.1 n) (below_at n m1 y.0 y.1 k1 (subst (AllBelow n) c low)) (f.1.1 a m1 (k1 ++ k) y.1 t h)

      go : (a : A) (ms : Spelling T) (rest : List T) → L.spells a ms → Cut ms (front ++ x ∷ mid) rest → ⊥
      go a ms rest s (m, k, c, h, i) =
          let t = subst (L.spells a) c s in
          inside a m k t (shallow other (front ++ x ∷ mid) back g a m k t h) (cut m front (x ∷ mid) h)

  at_one_place : (why other : Reason) (front back : List T) → IsFault n L why front back → IsFault n L other front back → why ≡ other
  at_one_place Wrong Wrong front back f g = refl
  at_one_place Deep Deep front back f g = refl
  at_one_place Wrong Deep front [] f g = absurd g.1
  at_one_place Wrong Deep front (x ∷ back) f g = absurd (f.2 g.1.0)
  at_one_place Deep Wrong front [] f g = absurd f.1
  at_one_place Deep Wrong front (x ∷ back) f g = absurd (g.2 f.1.0)

  one_fault : (why other : Reason) (p l q r : List T) → IsFault n L why p l → IsFault n L other q r → Places p l q r → (why ≡ other) × (length p ≡ length q)
  one_fault why other p l q r f g (inl (e, h)) =
      (at_one_place why other p l f (subst (λ z. IsFault n L other z l) (sym e) (subst (λ z. IsFault n L other q z) (sym h) g)), ap length e)
  one_fault why other p l q r f g (inr (inl (x, mid, e, h))) =
      absurd (earlier why other p x mid r (mid ++ r) (subst (λ z. IsFault n L why p z) h f) (subst (λ z. IsFault n L other z r) e g))
  one_fault why other p l q r f g (inr (inr (x, mid, e, h))) =
      absurd (earlier other why q x mid l (mid ++ l) (subst (λ z. IsFault n L other q z) h g) (subst (λ z. IsFault n L why z l) e f))

pub one_answer : HasOneAnswer
one_answer = record { some = some_answer; apart = text; first = fault }
  where
    text : (n : ℕ) (tree : Tree) (why : Reason) (k : ℕ) (tokens : List Token) → IsText n tree tokens → FaultAt n why k tokens → ⊥
    text n tree why k tokens t f = text_none n programs tree t.0 why f.0 f.1 t.1 (t.2 ∙ f.2) t.3 f.4

    fault : (n : ℕ) (why other : Reason) (j k : ℕ) (tokens : List Token) → FaultAt n why j tokens → FaultAt n other k tokens → (why ≡ other) × (j ≡ k)
    fault n why other j k tokens f g =
        let o = one_fault n programs why other f.0 f.1 g.0 g.1 f.4 g.4 (places f.0 f.1 g.0 g.1 (sym f.2 ∙ g.2)) in
        (o.0, sym f.3 ∙ o.1 ∙ g.3)
