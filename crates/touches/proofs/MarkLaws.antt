-- What is kept of a byte stays true as the marks of an item are gone through.
use Rattle.std.proofs.Common.{arith, ◌≡◌, ℕ, ◌<◌, ◌≤◌, ◌&&◌, true, eqb, leb, ltb, List, [], ◌∷◌, ◌++◌, refl, sym, subst, inl, inr, ⊎_elim}
use Rattle.std.specs.Prelude.{◌⊎◌}
use Rattle.std.proofs.lemmas.Bool.{cond_both, and_parts, and_from, eqb-true, leb-true, ltb-true, eq-eqb, le-leb, lt-ltb, both_ways}
use Rattle.std.proofs.lemmas.List.{append-nil, append_assoc}
use Rattle.std.proofs.lemmas.List.Elements.{Contains-append_left, Contains-push, Contains-push_cases}
use Rattle.footprint.specs.Marks.{IsIn, Uses}
use Rattle.footprint.specs.declared.marks.Mark.{Mark}
use Rattle.footprint.specs.declared.marks.Use.{Use}
use Rattle.footprint.specs.declared.marks.Use.TheVariants.{Write}
use Rattle.touches.specs.declared.touch.Touch.{Touch}
use Rattle.touches.specs.Touched.{touched, covers, after_mark, after_marks}
use Rattle.touches.specs.Tells.{Says}
use Rattle.touches.proofs.SaysLaws.{AreSame, Joins, says_same, says_touched}

-- a mark has a byte
record Has (m : Mark) (b x : ℕ) : Type 0 where
  buffer : b ≡ m.buffer
  from : m.from ≤ x
  to : x < m.to

covers_has : (m : Mark) (b x : ℕ) → covers m b x ≡ true → Has m b x
covers_has m b x e =
    let p = and_parts (eqb b m.buffer) (leb m.from x && ltb x m.to) e in
    let q = and_parts (leb m.from x) (ltb x m.to) p.1 in
    record { buffer = eqb-true b m.buffer p.0; from = leb-true m.from x q.0; to = ltb-true x m.to q.1 }

has_covers : (m : Mark) (b x : ℕ) → Has m b x → covers m b x ≡ true
has_covers m b x h =
    and_from (eqb b m.buffer) (leb m.from x && ltb x m.to) (eq-eqb b m.buffer h.buffer)
    (and_from (leb m.from x) (ltb x m.to) (le-leb m.from x h.from) (lt-ltb x m.to h.to))

-- a mark that isn't there uses nothing
pub no_uses : (how : Use) (b x : ℕ) → Uses [] how b x → ⊥
no_uses how b x u = let l : u.1.0 < 0 = u.1.1 in omega arith

-- what marks use, they use with one more
uses_more : (done : List Mark) (m : Mark) (how : Use) (b x : ℕ) → Uses done how b x → Uses (done ++ m ∷ []) how b x
uses_more done m how b x u = (u.0, Contains-append_left done (m ∷ []) u.0 u.1, u.2)

-- and else only what the one more uses
uses_cases : (done : List Mark) (m : Mark) (how : Use) (b x : ℕ) → Uses (done ++ m ∷ []) how b x → Uses done how b x ⊎ IsIn m how b x
uses_cases done m how b x u =
    ⊎_elim (λ c. inl (u.0, c, u.2)) (λ (e : m ≡ u.0). inr (subst (λ k. IsIn k how b x) (sym e) u.2)) (Contains-push_cases done m u.0 u.1)

-- the items before number n touch the byte so, and item n with the marks that are done
module _ (T W : ℕ → Type 0) (n b x : ℕ) where
  abbrev pub TouchedBy : List Mark → ℕ → Type 0
  TouchedBy done i = T i ⊎ ((i ≡ n) × ((how : Use) × Uses done how b x))

  abbrev pub WrittenBy : List Mark → ℕ → Type 0
  WrittenBy done i = W i ⊎ ((i ≡ n) × Uses done Write b x)

module _ (T W : ℕ → Type 0) (n b x : ℕ) (written_touch : (i : ℕ) → W i → T i) (earlier_item : (i : ℕ) → T i → i < n) where
  joins : (done : List Mark) (m : Mark) → Has m b x
      → Joins (TouchedBy T W n b x done) (WrittenBy T W n b x done) (TouchedBy T W n b x (done ++ m ∷ [])) (WrittenBy T W n b x (done ++ m ∷ [])) n m.how
  joins done m has = record {
    touch_to = λ i t. ⊎_elim (λ u. inl u) (λ u. inr (u.0, (u.1.0, uses_more done m u.1.0 b x u.1.1))) t;
    touch_here = inr (refl, (m.how, (m, Contains-push done m, (refl, has.buffer, has.from, has.to))));
    touch_cases = λ i t. ⊎_elim (λ u. inl (inl u)) (λ u. inr u.0) t;
    write_to = λ i w. ⊎_elim (λ u. inl u) (λ u. inr (u.0, uses_more done m Write b x u.1)) w;
    write_here = λ e. inr (refl, (m, Contains-push done m, (sym e, has.buffer, has.from, has.to)));
    write_cases = λ i w. ⊎_elim
        (λ u. inl (inl u))
        (λ u. ⊎_elim (λ v. inl (inr (u.0, v))) (λ v. inr (u.0, sym v.0)) (uses_cases done m Write b x u.1))
        w;
    touches_written = λ i w. ⊎_elim (λ u. inl (written_touch i u)) (λ u. inr (u.0, (Write, u.1))) w;
    is_last = λ i t. ⊎_elim (λ u. let l : i < n = earlier_item i u in let r : i ≤ n = omega arith in r) (λ u. let e : i ≡ n = u.0 in let r : i ≤ n = omega arith in r) t;
  }

  -- a mark that doesn't have the byte changes nothing
  stays : (done : List Mark) (m : Mark) → (Has m b x → ⊥)
      → AreSame (TouchedBy T W n b x done) (WrittenBy T W n b x done) (TouchedBy T W n b x (done ++ m ∷ [])) (WrittenBy T W n b x (done ++ m ∷ []))
  stays done m not = record {
    touch_to = λ i t. ⊎_elim (λ u. inl u) (λ u. inr (u.0, (u.1.0, uses_more done m u.1.0 b x u.1.1))) t;
    touch_from = λ i t. ⊎_elim
        (λ u. inl u)
        (λ u. ⊎_elim (λ v. inr (u.0, (u.1.0, v))) (λ v. absurd (not (record { buffer = v.1; from = v.2; to = v.3 }))) (uses_cases done m u.1.0 b x u.1.1))
        t;
    write_to = λ i w. ⊎_elim (λ u. inl u) (λ u. inr (u.0, uses_more done m Write b x u.1)) w;
    write_from = λ i w. ⊎_elim
        (λ u. inl u)
        (λ u. ⊎_elim (λ v. inr (u.0, v)) (λ v. absurd (not (record { buffer = v.1; from = v.2; to = v.3 }))) (uses_cases done m Write b x u.1))
        w;
  }

  says_mark : (done : List Mark) (m : Mark) (t : Touch) → Says (TouchedBy T W n b x done) (WrittenBy T W n b x done) t
      → Says (TouchedBy T W n b x (done ++ m ∷ [])) (WrittenBy T W n b x (done ++ m ∷ [])) (after_mark m n b x t)
  says_mark done m t h =
      cond_both (covers m b x) (touched t n m.how) t (Says (TouchedBy T W n b x (done ++ m ∷ [])) (WrittenBy T W n b x (done ++ m ∷ [])))
      (λ e. says_touched (TouchedBy T W n b x done) (WrittenBy T W n b x done) (TouchedBy T W n b x (done ++ m ∷ [])) (WrittenBy T W n b x (done ++ m ∷ []))
      n t m.how (joins done m (covers_has m b x e)) h)
      (λ e. says_same (TouchedBy T W n b x done) (WrittenBy T W n b x done) (TouchedBy T W n b x (done ++ m ∷ [])) (WrittenBy T W n b x (done ++ m ∷ []))
      (stays done m (λ has. both_ways (covers m b x) e (has_covers m b x has))) t h)

  pub says_marks : (more done : List Mark) (t : Touch) → Says (TouchedBy T W n b x done) (WrittenBy T W n b x done) t
      → Says (TouchedBy T W n b x (done ++ more)) (WrittenBy T W n b x (done ++ more)) (after_marks more n b x t)
  says_marks [] done t h = subst (λ l. Says (TouchedBy T W n b x l) (WrittenBy T W n b x l) t) (sym (append-nil done)) h
  says_marks (m ∷ more) done t h =
      subst (λ l. Says (TouchedBy T W n b x l) (WrittenBy T W n b x l) (after_marks more n b x (after_mark m n b x t))) (append_assoc done (m ∷ []) more)
      (says_marks more (done ++ m ∷ []) (after_mark m n b x t) (says_mark done m t h))
