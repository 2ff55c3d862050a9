-- The first conflict of two lists of marks that are passed in their order.
use Rattle.std.proofs.Common.{arith, ◌≡◌, ℕ, ◌+◌, ◌<◌, ◌≤◌, min, true, false, List, [], ◌∷◌, ◌++◌, length, take, refl, sym, ◌∙◌, subst, ⊎_elim}
use Rattle.std.specs.Prelude.{Contains, None, Some}
use Rattle.std.proofs.lemmas.Bool.{cases_eq, cases_lt}
use Rattle.std.proofs.lemmas.List.{take_more, take_all, length-take, get_or-take, get_or_default}
use Rattle.footprint.specs.Marks.{IsIn, Uses, ConflictAt, IsBefore}
use Rattle.footprint.specs.Least.{IsLeast}
use Rattle.footprint.specs.Order.{IsNoLater, IsOrdered, mark_at}
use Rattle.footprint.specs.Reaches.{reach_with, meets}
use Rattle.footprint.specs.declared.marks.Mark.{Mark}
use Rattle.footprint.specs.declared.marks.Use.{Use}
use Rattle.footprint.specs.declared.reach.Reach.{Reach}
use Rattle.footprint.proofs.ConflictLaws.{conflict_swap, conflict_cases}
use Rattle.footprint.proofs.OrderLaws.{no_mark, later_trans}
use Rattle.footprint.proofs.ReachLaws.{IsReach, reach_none, reach_more, meets_true, meets_false}

-- a mark of a list, by its number
record Numbered (xs : List Mark) (m : Mark) : Type 0 where
  number : ℕ
  within : number < length xs
  is : mark_at xs number ≡ m

number_of : (xs : List Mark) (m : Mark) → Contains xs m → Numbered xs m
number_of xs m c = record { number = c.0; within = c.1; is = get_or_default xs c.0 no_mark m c.1 ∙ c.2 }

contains_at : (xs : List Mark) (k : ℕ) → k < length xs → Contains xs (mark_at xs k)
contains_at xs k l = (k, l, get_or_default xs k (mark_at xs k) no_mark l)

-- a mark of the first i
record NumberedBelow (xs : List Mark) (i : ℕ) (m : Mark) : Type 0 where
  number : ℕ
  below : number < i
  within : number < length xs
  is : mark_at xs number ≡ m

below_of : (xs : List Mark) (i : ℕ) (m : Mark) → Contains (take i xs) m → NumberedBelow xs i m
below_of xs i m c =
    let n = number_of (take i xs) m c in
    let few : length (take i xs) ≡ min i (length xs) = length-take i xs in
    let l = n.within in
    let low : n.number < i = omega (arith, few, l) in
    let high : n.number < length xs = omega (arith, few, l) in
    record { number = n.number; below = low; within = high; is = sym (get_or-take i xs n.number no_mark low) ∙ n.is }

below_contains : (xs : List Mark) (i k : ℕ) (m : Mark) → k < i → k < length xs → mark_at xs k ≡ m → Contains (take i xs) m
below_contains xs i k m l w e =
    let few : length (take i xs) ≡ min i (length xs) = length-take i xs in
    subst (λ (n : Mark). Contains (take i xs) n) (get_or-take i xs k no_mark l ∙ e) (contains_at (take i xs) k (omega (arith, few)))

taken_is_in : (xs : List Mark) (i : ℕ) (m : Mark) → Contains (take i xs) m → Contains xs m
taken_is_in xs i m c = let n = below_of xs i m c in subst (λ (k : Mark). Contains xs k) n.is (contains_at xs n.number n.within)

-- the first i marks of the one and the first j of the other are passed
pub record Swept (a b : List Mark) (i j : ℕ) (in_a in_b : Reach) : Type 0 where
  pub i_in : i ≤ length a
  pub j_in : j ≤ length b
  pub reach_a : IsReach (take i a) in_a
  pub reach_b : IsReach (take j b) in_b
  pub apart : (buffer byte : ℕ) → ConflictAt (take i a) (take j b) buffer byte → ⊥
  pub a_first : (k l : ℕ) → k < i → j ≤ l → l < length b → IsNoLater (mark_at a k) (mark_at b l)
  pub b_first : (k l : ℕ) → k < j → i ≤ l → l < length a → IsNoLater (mark_at b k) (mark_at a l)

no_use : (how : Use) (b x : ℕ) → Uses [] how b x → ⊥
no_use how b x u = let l : u.1.0 < 0 = u.1.1 in omega arith

pub swept_none : (a b : List Mark) → Swept a b 0 0 (record { buffer = 0; read_to = 0; write_to = 0 }) (record { buffer = 0; read_to = 0; write_to = 0 })
swept_none a b = record {
  i_in = omega arith;
  j_in = omega arith;
  reach_a = reach_none;
  reach_b = reach_none;
  apart = λ buffer byte c. no_use c.0 buffer byte c.2;
  a_first = λ k l m n o. absurd (omega (arith, m));
  b_first = λ k l m n o. absurd (omega (arith, m));
}

pub swept_swap : (a b : List Mark) (i j : ℕ) (in_a in_b : Reach) → Swept a b i j in_a in_b → Swept b a j i in_b in_a
swept_swap a b i j in_a in_b h = record {
  i_in = h.j_in;
  j_in = h.i_in;
  reach_a = h.reach_b;
  reach_b = h.reach_a;
  apart = λ buffer byte c. h.apart buffer byte (conflict_swap (take j b) (take i a) buffer byte c);
  a_first = h.b_first;
  b_first = h.a_first;
}

module _ (a b : List Mark) (a_ordered : IsOrdered a) (b_ordered : IsOrdered b) (i j : ℕ) (in_a in_b : Reach) (h : Swept a b i j in_a in_b) (i_there : i < length a)
    (next : j < length b → IsNoLater (mark_at a i) (mark_at b j)) where
  -- no mark that was passed comes after mark i of a
  a_passed : (n : Mark) → Contains (take i a) n → IsNoLater n (mark_at a i)
  a_passed n c = let m = below_of a i n c in let l = m.below in subst (λ (k : Mark). IsNoLater k (mark_at a i)) m.is (a_ordered.order m.number i (omega (arith, l)) i_there)

  b_passed : (n : Mark) → Contains (take j b) n → IsNoLater n (mark_at a i)
  b_passed n c = let m = below_of b j n c in subst (λ (k : Mark). IsNoLater k (mark_at a i)) m.is (h.b_first m.number i m.below (omega arith) i_there)

  pub swept_more : meets in_b (mark_at a i) ≡ false → Swept a b (i + 1) j (reach_with in_a (mark_at a i)) in_b
  swept_more none =
      let m = mark_at a i in
      let more : take (i + 1) a ≡ take i a ++ m ∷ [] = take_more a i no_mark i_there in
      record {
        i_in = omega arith;
        j_in = h.j_in;
        reach_a = subst (λ (l : List Mark). IsReach l (reach_with in_a m)) (sym more) (reach_more (take i a) in_a m h.reach_a a_passed);
        reach_b = h.reach_b;
        apart = λ buffer byte c. ⊎_elim
            (λ d. h.apart buffer byte d)
            (λ d. meets_false (take j b) in_b m h.reach_b b_passed none buffer byte d)
            (conflict_cases (take i a) (m ∷ []) (take j b) buffer byte (subst (λ (l : List Mark). ConflictAt l (take j b) buffer byte) more c));
        a_first = λ k l p q s. ⊎_elim
            (λ (e : k ≡ i). subst (λ (n : ℕ). IsNoLater (mark_at a n) (mark_at b l)) (sym e) (later_trans m (mark_at b j) (mark_at b l) (next (omega arith)) (b_ordered.order j l q s)))
            (λ (n : k ≡ i → ⊥). h.a_first k l (omega arith) q s)
            (cases_eq k i);
        b_first = λ k l p q s. h.b_first k l p (omega arith) s;
      }

  -- a mark of a that begins before mark i was passed
  a_before : (n : Mark) → Contains a n → (IsNoLater (mark_at a i) n → ⊥) → Contains (take i a) n
  a_before n c d =
      let m = number_of a n c in
      ⊎_elim
      (λ (l : m.number < i). below_contains a i m.number n l m.within m.is)
      (λ (l : i ≤ m.number). absurd (d (subst (λ (k : Mark). IsNoLater (mark_at a i) k) m.is (a_ordered.order i m.number l m.within))))
      (cases_lt m.number i)

  b_before : (n : Mark) → Contains b n → (IsNoLater (mark_at a i) n → ⊥) → Contains (take j b) n
  b_before n c d =
      let m = number_of b n c in
      let in_b : m.number < length b = m.within in
      ⊎_elim
      (λ (l : m.number < j). below_contains b j m.number n l m.within m.is)
      (λ (l : j ≤ m.number). absurd (d (subst (λ (k : Mark). IsNoLater (mark_at a i) k) m.is
      (later_trans (mark_at a i) (mark_at b j) (mark_at b m.number) (next (omega arith)) (b_ordered.order j m.number l m.within)))))
      (cases_lt m.number j)

  -- what has a byte before the first byte of a mark begins before that mark
  begins_before : (n : Mark) (how : Use) (b x : ℕ) → IsBefore b x ((mark_at a i).buffer, (mark_at a i).from) → IsIn n how b x → IsNoLater (mark_at a i) n → ⊥
  begins_before n how b x l k later =
      let m = mark_at a i in
      let same : b ≡ n.buffer = k.1 in
      let from : n.from ≤ x = k.2 in
      ⊎_elim
      (λ (s : b < m.buffer). ⊎_elim
      (λ (t : m.buffer < n.buffer). let z : ⊥ = omega arith in z)
      (λ t. let e : m.buffer ≡ n.buffer = t.0 in let z : ⊥ = omega arith in z)
      later)
      (λ s. let e : b ≡ m.buffer = s.0 in let u : x < m.from = s.1 in ⊎_elim
      (λ (t : m.buffer < n.buffer). let z : ⊥ = omega arith in z)
      (λ t. let v : m.from ≤ n.from = t.1 in let z : ⊥ = omega arith in z)
      later)
      l

  none_before : (b' x : ℕ) → IsBefore b' x ((mark_at a i).buffer, (mark_at a i).from) → ConflictAt a b b' x → ⊥
  none_before b' x l c =
      h.apart b' x (
        c.0,
        c.1,
        (c.2.0, a_before c.2.0 c.2.1 (begins_before c.2.0 c.0 b' x l c.2.2), c.2.2),
        (c.3.0, b_before c.3.0 c.3.1 (begins_before c.3.0 c.1 b' x l c.3.2), c.3.2),
        c.4,
      )

  pub swept_found : meets in_b (mark_at a i) ≡ true → IsLeast (ConflictAt a b) (Some ((mark_at a i).buffer, (mark_at a i).from))
  swept_found t =
      let m = mark_at a i in
      let k = meets_true (take j b) in_b m h.reach_b t in
      let there = b_passed k.other k.there in
      let same : m.buffer ≡ k.other.buffer = k.buffer in
      let from : k.other.from ≤ m.from = ⊎_elim (λ (l : k.other.buffer < m.buffer). absurd (omega arith)) (λ p. p.1) there in (
        (
          m.how,
          k.other.how,
          (m, contains_at a i i_there, (refl, refl, omega arith, a_ordered.some i i_there)),
          (k.other, taken_is_in b j k.other k.there, (refl, same, from, k.to)),
          k.one_writes,
        ),
        none_before,
      )

pub swept_all : (a b : List Mark) (i j : ℕ) (in_a in_b : Reach) → Swept a b i j in_a in_b → length a ≤ i → length b ≤ j → IsLeast (ConflictAt a b) None
swept_all a b i j in_a in_b h l k = λ buffer byte c. h.apart buffer byte
    (subst (λ (f : List Mark). ConflictAt f (take j b) buffer byte) (sym (take_all i a l))
    (subst (λ (g : List Mark). ConflictAt a g buffer byte) (sym (take_all j b k)) c))
