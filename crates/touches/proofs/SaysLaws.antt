-- What is kept of a byte stays true as an item reads or writes it.
use Rattle.std.proofs.Common.{arith, ◌≡◌, ℕ, ◌<◌, ◌≤◌, eqb, refl, inl, inr, ⊎_elim}
use Rattle.std.specs.Prelude.{◌⊎◌}
use Rattle.std.proofs.lemmas.Bool.{cond_both, eqb-true, eqb-false}
use Rattle.footprint.specs.declared.marks.Use.{Use}
use Rattle.footprint.specs.declared.marks.Use.TheVariants.{Read, Write}
use Rattle.touches.specs.declared.touch.Touch.{Touch}
use Rattle.touches.specs.declared.touch.Touch.TheVariants.{Untouched, OnlyRead, OneItem, Raced}
use Rattle.touches.specs.Touched.{touched}
use Rattle.touches.specs.Tells.{Says, IsRaced}
use Rattle.touches.specs.First.{IsQuiet}

read_no_write : Read ≡ Write → ⊥
read_no_write e = cc

-- the same items touch and write the byte
pub record AreSame (T W T' W' : ℕ → Type 0) : Type 0 where
  pub touch_to : (i : ℕ) → T i → T' i
  pub touch_from : (i : ℕ) → T' i → T i
  pub write_to : (i : ℕ) → W i → W' i
  pub write_from : (i : ℕ) → W' i → W i

-- item n, the last so far, touches it too
pub record Joins (T W T' W' : ℕ → Type 0) (n : ℕ) (how : Use) : Type 0 where
  pub touch_to : (i : ℕ) → T i → T' i
  pub touch_here : T' n
  pub touch_cases : (i : ℕ) → T' i → T i ⊎ (i ≡ n)
  pub write_to : (i : ℕ) → W i → W' i
  pub write_here : how ≡ Write → W' n
  pub write_cases : (i : ℕ) → W' i → W i ⊎ ((i ≡ n) × (how ≡ Write))
  pub touches_written : (i : ℕ) → W i → T i
  pub is_last : (i : ℕ) → T i → i ≤ n

module _ (T W T' W' : ℕ → Type 0) (s : AreSame T W T' W') where
  pub says_same : (t : Touch) → Says T W t → Says T' W' t
  says_same Untouched h = λ i u. h i (s.touch_from i u)
  says_same (OnlyRead f) h = (s.touch_to f h.0, λ i u. h.1 i (s.touch_from i u), λ i w. h.2 i (s.write_from i w))
  says_same (OneItem f) h = (s.write_to f h.0, λ i u. h.1 i (s.touch_from i u))
  says_same (Raced f g) h = record {
    order = h.order;
    touches_first = s.touch_to f h.touches_first;
    touches_second = s.touch_to g h.touches_second;
    one_writes = ⊎_elim (λ w. inl (s.write_to f w)) (λ w. inr (s.write_to g w)) h.one_writes;
    least = λ i u. h.least i (s.touch_from i u);
    least_other = λ j l u w. h.least_other j l (s.touch_from j u) (⊎_elim (λ v. inl (s.write_from f v)) (λ v. inr (s.write_from j v)) w);
  }

module _ (T W T' W' : ℕ → Type 0) (n : ℕ) where
  -- the byte was only read, and item n writes it
  write_after_reads : (f : ℕ) → Joins T W T' W' n Write → Says T W (OnlyRead f) → Says T' W' (touched (OnlyRead f) n Write)
  write_after_reads f a h =
      cond_both (eqb f n) (OneItem n) (Raced f n) (Says T' W')
      (λ e. let same : f ≡ n = eqb-true f n e in (
        a.write_here refl,
        λ i u. ⊎_elim (λ v. let low : f ≤ i = h.1 i v in let high : i ≤ n = a.is_last i v in let r : i ≡ n = omega arith in r) (λ v. v) (a.touch_cases i u),
      ))
      (λ e. let high : f ≤ n = a.is_last f h.0 in let other : f ≡ n → ⊥ = eqb-false f n e in let order : f < n = omega arith in record {
        order = order;
        touches_first = a.touch_to f h.0;
        touches_second = a.touch_here;
        one_writes = inr (a.write_here refl);
        least = λ i u. ⊎_elim (λ v. h.1 i v) (λ v. let is : i ≡ n = v in let r : f ≤ i = omega arith in r) (a.touch_cases i u);
        least_other = λ j l u w. ⊎_elim
            (λ v. ⊎_elim (λ x. absurd (h.2 f x)) (λ x. let is : f ≡ n = x.0 in absurd (other is)) (a.write_cases f v))
            (λ v. ⊎_elim (λ x. absurd (h.2 j x)) (λ x. let is : j ≡ n = x.0 in let r : n ≤ j = omega arith in r) (a.write_cases j v))
            w;
      })

  -- one item wrote the byte, and item n reads or writes it
  touch_after_write : (f : ℕ) (how : Use) → Joins T W T' W' n how → Says T W (OneItem f) → Says T' W' (touched (OneItem f) n how)
  touch_after_write f how a h =
      cond_both (eqb f n) (OneItem f) (Raced f n) (Says T' W')
      (λ e. let same : f ≡ n = eqb-true f n e in (
        a.write_to f h.0,
        λ i u. ⊎_elim (λ v. h.1 i v) (λ v. let is : i ≡ n = v in let r : i ≡ f = omega arith in r) (a.touch_cases i u),
      ))
      (λ e. let high : f ≤ n = a.is_last f (a.touches_written f h.0) in let other : f ≡ n → ⊥ = eqb-false f n e in let order : f < n = omega arith in record {
        order = order;
        touches_first = a.touch_to f (a.touches_written f h.0);
        touches_second = a.touch_here;
        one_writes = inl (a.write_to f h.0);
        least = λ i u. ⊎_elim (λ v. let is : i ≡ f = h.1 i v in let r : f ≤ i = omega arith in r) (λ v. let is : i ≡ n = v in let r : f ≤ i = omega arith in r) (a.touch_cases i u);
        least_other = λ j l u w. ⊎_elim
            (λ v. let is : j ≡ f = h.1 j v in let r : n ≤ j = omega arith in r)
            (λ v. let is : j ≡ n = v in let r : n ≤ j = omega arith in r)
            (a.touch_cases j u);
      })

  -- two items race at the byte, and item n reads or writes it
  touch_after_race : (f g : ℕ) (how : Use) → Joins T W T' W' n how → IsRaced T W f g → IsRaced T' W' f g
  touch_after_race f g how a h =
      let order : f < g = h.order in
      let high : g ≤ n = a.is_last g h.touches_second in
      record {
        order = h.order;
        touches_first = a.touch_to f h.touches_first;
        touches_second = a.touch_to g h.touches_second;
        one_writes = ⊎_elim (λ w. inl (a.write_to f w)) (λ w. inr (a.write_to g w)) h.one_writes;
        least = λ i u. ⊎_elim (λ v. h.least i v) (λ v. let is : i ≡ n = v in let r : f ≤ i = omega arith in r) (a.touch_cases i u);
        least_other = λ j l u w. ⊎_elim
            (λ v. ⊎_elim
            (λ x. ⊎_elim (λ y. h.least_other j l v (inl y)) (λ y. let is : f ≡ n = y.0 in let r : g ≤ j = omega arith in r) (a.write_cases f x))
            (λ x. ⊎_elim (λ y. h.least_other j l v (inr y)) (λ y. let is : j ≡ n = y.0 in let r : g ≤ j = omega arith in r) (a.write_cases j x))
            w)
            (λ v. let is : j ≡ n = v in let r : g ≤ j = omega arith in r)
            (a.touch_cases j u);
      }

  pub says_touched : (t : Touch) (how : Use) → Joins T W T' W' n how → Says T W t → Says T' W' (touched t n how)
  says_touched Untouched Read a h = (
    a.touch_here,
    λ i u. ⊎_elim (λ v. absurd (h i v)) (λ v. let is : i ≡ n = v in let r : n ≤ i = omega arith in r) (a.touch_cases i u),
    λ i w. ⊎_elim (λ v. h i (a.touches_written i v)) (λ v. read_no_write v.1) (a.write_cases i w),
  )
  says_touched Untouched Write a h = (a.write_here refl, λ i u. ⊎_elim (λ v. absurd (h i v)) (λ v. v) (a.touch_cases i u))
  says_touched (OnlyRead f) Read a h = (
    a.touch_to f h.0,
    λ i u. ⊎_elim (λ v. h.1 i v) (λ v. let is : i ≡ n = v in let high : f ≤ n = a.is_last f h.0 in let r : f ≤ i = omega arith in r) (a.touch_cases i u),
    λ i w. ⊎_elim (λ v. h.2 i v) (λ v. read_no_write v.1) (a.write_cases i w),
  )
  says_touched (OnlyRead f) Write a h = write_after_reads f a h
  says_touched (OneItem f) how a h = touch_after_write f how a h
  says_touched (Raced f g) how a h = touch_after_race f g how a h

-- where no race is kept, there is none
pub quiet_is_apart : (T W : ℕ → Type 0) (t : Touch) → Says T W t → IsQuiet t → (i j : ℕ) → i < j → T i → T j → W i ⊎ W j → ⊥
quiet_is_apart T W Untouched h q i j l u v w = h i u
quiet_is_apart T W (OnlyRead f) h q i j l u v w = ⊎_elim (h.2 i) (h.2 j) w
quiet_is_apart T W (OneItem f) h q i j l u v w =
    let one : i ≡ f = h.1 i u in
    let other : j ≡ f = h.1 j v in
    omega arith
quiet_is_apart T W (Raced f g) h q i j l u v w = absurd q
