-- An exact reader finds the first fault, and a text has one value.
use Rattle.std.proofs.Common.{◌≡◌, ◌⊎◌, inl, inr, ℕ, suc, ◌<◌, ◌≤◌, Bool, true, false, cond, List, [], ◌∷◌, ◌++◌, Some, refl, sym, ap, ◌∙◌, subst, arith, length, length-append, append_assoc, append-nil}
use Rattle.std.proofs.lemmas.List.{append_cancel_right}
use Rattle.clc_reading.specs.Reading.{Reason, Wrong, Deep, Outcome, Got, Stops, Reader, and_then, ended, whole, Spelling, tokens_of, below, AllBelow, Language}
use Rattle.clc_reading.specs.Verdict.{IsViable, IsShallow, IsStuck, IsFault}
use Rattle.clc_reading.proofs.Exact.{first, settle, Cause, Read, Partial, Exact, tokens_of-append, tokens_of_split, cond_true, cond_false}

-- ---- settling

settle_wrong_at : {T A : Type 0} (b : Bool) (o : Outcome T A) (l left : List T) → (o ≡ Stops Wrong left → ⊥) → cond b o (Stops Deep l) ≡ Stops Wrong left → ⊥
settle_wrong_at true o l left ih h = ih h
settle_wrong_at false o l left ih h = cc

settle_wrong : {T A : Type 0} (n : ℕ) (a : A) (ms : Spelling T) (rest left : List T) → settle n a ms rest ≡ Stops Wrong left → ⊥
settle_wrong n a [] rest left h = cc
settle_wrong n a (m ∷ ms) rest left h = settle_wrong_at (below m.1 n) (settle n a ms rest) (m.0 ∷ (tokens_of ms ++ rest)) left (settle_wrong n a ms rest left) h

settle_rest_at : {T A : Type 0} (b : Bool) (o : Outcome T A) (l rest left : List T) (a : A) → (o ≡ Got a left → left ≡ rest) → cond b o (Stops Deep l) ≡ Got a left → left ≡ rest
settle_rest_at true o l rest left a ih h = ih h
settle_rest_at false o l rest left a ih h = absurd (cc)

settle_rest : {T A : Type 0} (n : ℕ) (a b : A) (ms : Spelling T) (rest left : List T) → settle n a ms rest ≡ Got b left → left ≡ rest
settle_rest n a b [] rest left h = cc
settle_rest n a b (m ∷ ms) rest left h = settle_rest_at (below m.1 n) (settle n a ms rest) (m.0 ∷ (tokens_of ms ++ rest)) rest left b (settle_rest n a b ms rest left) h

pub settle_flat : {T A : Type 0} (n : ℕ) (a : A) (ms : Spelling T) (rest : List T) → AllBelow n ms → settle n a ms rest ≡ Got a rest
settle_flat n a [] rest h = refl
settle_flat n a (m ∷ ms) rest h = cond_true _ _ (below m.1 n) h.0 ∙ settle_flat n a ms rest h.1

settle_deep : {T A : Type 0} (n : ℕ) (a : A) (m : Spelling T) (x : T) (d : ℕ) (k : Spelling T) (rest : List T) → AllBelow n m → below d n ≡ false
    → settle n a (m ++ (x, d) ∷ k) rest ≡ Stops Deep (x ∷ (tokens_of k ++ rest))
settle_deep n a [] x d k rest h e = cond_false _ _ (below d n) e
settle_deep n a (y ∷ m) x d k rest h e = cond_true _ _ (below y.1 n) h.0 ∙ settle_deep n a m x d k rest h.1 e

settle_after : {T A : Type 0} (n : ℕ) (a : A) (m k : Spelling T) (rest : List T) → AllBelow n m → settle n a (m ++ k) rest ≡ settle n a k rest
settle_after n a [] k rest h = refl
settle_after n a (y ∷ m) k rest h = cond_true _ _ (below y.1 n) h.0 ∙ settle_after n a m k rest h.1

settle_short_at : {T A : Type 0} (b : Bool) (o : Outcome T A) (l left : List T) (n : ℕ) → (o ≡ Stops Deep left → length left ≤ n) → length l ≤ suc n → cond b o (Stops Deep l) ≡ Stops Deep left → length left ≤ suc n
settle_short_at true o l left n ih le h = let g = ih h in omega arith
settle_short_at false o l left n ih le h = let same : l ≡ left = cc in subst (λ z. length z ≤ suc n) same le

settle_short : {T A : Type 0} (n : ℕ) (a : A) (ms : Spelling T) (rest left : List T) → settle n a ms rest ≡ Stops Deep left → length left ≤ length (tokens_of ms ++ rest)
settle_short n a [] rest left h = absurd (cc)
settle_short n a (m ∷ ms) rest left h = settle_short_at (below m.1 n) (settle n a ms rest) (m.0 ∷ (tokens_of ms ++ rest)) left (length (tokens_of ms ++ rest)) (settle_short n a ms rest left) (omega arith) h

-- all is flat, or there is a first that is not
Split : {T : Type 0} → ℕ → Spelling T → Type 0
Split {T} n ms = AllBelow n ms ⊎ ((m : Spelling T) × (x : T) × (d : ℕ) × (k : Spelling T) × (ms ≡ m ++ (x, d) ∷ k) × AllBelow n m × (below d n ≡ false))

split_at : {T : Type 0} (n : ℕ) (y : T × ℕ) (ms : Spelling T) (b : Bool) → below y.1 n ≡ b → Split n ms → Split n (y ∷ ms)
unfolding Split
split_at n y ms false e s = inr ([], y.0, y.1, ms, refl, tt, e)
split_at n y ms true e (inl s) = inl (e, s)
split_at n y ms true e (inr (m, x, d, k, is, flat, deep)) = inr (y ∷ m, x, d, k, ap (λ z. y ∷ z) is, (e, flat), deep)

split : {T : Type 0} (n : ℕ) (ms : Spelling T) → Split n ms
unfolding Split
split n [] = inl tt
split n (y ∷ ms) = split_at n y ms (below y.1 n) refl (split n ms)

module _ {T A : Type 0} (n : ℕ) (p : Reader T A) (L : Language T A) (P : Exact n p L) (closed : (a : A) → L.halts a []) where
  -- a deep token of some text stops reading each text that begins so
  deep_stops : (a : A) (m : Spelling T) (x : T) (d : ℕ) (k : Spelling T) (r : List T) → L.spells a (m ++ (x, d) ∷ k) → AllBelow n m → below d n ≡ false
      → p (tokens_of m ++ x ∷ r) ≡ Stops Deep (x ∷ r)
  deep_stops a m x d k r s flat deep =
      let h : p (tokens_of (m ++ (x, d) ∷ k) ++ []) ≡ Stops Deep (x ∷ (tokens_of k ++ [])) = P.complete a (m ++ (x, d) ∷ k) [] s (closed a) ∙ settle_deep n a m x d k [] flat deep in
      let w = P.stops (tokens_of (m ++ (x, d) ∷ k) ++ []) Deep (x ∷ (tokens_of k ++ [])) h in
      let e : tokens_of w.done ++ (x ∷ (tokens_of k ++ [])) ≡ tokens_of m ++ (x ∷ (tokens_of k ++ [])) = sym w.split ∙ tokens_of_split m ((x, d) ∷ k) [] in
      let same : tokens_of w.done ≡ tokens_of m = append_cancel_right (tokens_of w.done) (tokens_of m) (x ∷ (tokens_of k ++ [])) e in
      ap (λ z. p (z ++ x ∷ r)) (sym same) ∙ w.again (x ∷ r) refl

  shallow_by : (pre left : List T) (why : Reason) (a : A) (m k : Spelling T) → L.spells a (m ++ k) → tokens_of m ≡ pre → Split n m
      → ((x : T) (r : List T) → length left < length (x ∷ r) → p (pre ++ left) ≡ Stops Deep (x ∷ r) → ⊥) → AllBelow n m
  unfolding Split
  shallow_by pre left why a m k s e (inl flat) never = flat
  shallow_by pre left why a m k s e (inr (m1, x, d, k1, is, flat, deep)) never =
      let s1 : L.spells a (m1 ++ (x, d) ∷ (k1 ++ k)) = subst (L.spells a) (ap (λ z. z ++ k) is ∙ append_assoc m1 ((x, d) ∷ k1) k) s in
      let h = deep_stops a m1 x d (k1 ++ k) (tokens_of k1 ++ left) s1 flat deep in
      let e1 : pre ++ left ≡ tokens_of m1 ++ x ∷ (tokens_of k1 ++ left) = ap (λ z. z ++ left) (sym e ∙ ap tokens_of is) ∙ tokens_of_split m1 ((x, d) ∷ k1) left in
      let longer : length left < length (x ∷ (tokens_of k1 ++ left)) = omega (arith, length-append (tokens_of k1) left) in
      absurd (never x (tokens_of k1 ++ left) longer (ap p e1 ∙ h))

  shallow : (pre left : List T) → ((x : T) (r : List T) → length left < length (x ∷ r) → p (pre ++ left) ≡ Stops Deep (x ∷ r) → ⊥) → IsShallow n L pre
  shallow pre left never a m k s e = shallow_by pre left Wrong a m k s e (split n m) never

  -- ---- the faults of the reader itself

  viable_of : (ts : List T) (why : Reason) (left : List T) (w : Partial n p L ts why left) → IsViable L (tokens_of w.done)
  viable_of ts why left w = (w.value, w.done ++ w.more, tokens_of w.more, w.spells, tokens_of-append w.done w.more)

  stuck_of : (ts left : List T) (w : Partial n p L ts Wrong left) → IsStuck L (tokens_of w.done) left
  stuck_of ts [] w = λ a ms s e. settle_wrong n a ms [] [] (sym (P.complete a ms [] s (closed a)) ∙ ap (λ z. p (z ++ [])) e ∙ w.again [] refl)
  stuck_of ts (x ∷ left) w = λ v.
      let e1 : tokens_of v.1 ++ [] ≡ tokens_of w.done ++ x ∷ v.2 = append-nil (tokens_of v.1) ∙ v.4 ∙ append_assoc (tokens_of w.done) (x ∷ []) v.2 in
      settle_wrong n v.0 v.1 [] (x ∷ v.2) (sym (P.complete v.0 v.1 [] v.3 (closed v.0)) ∙ ap p e1 ∙ w.again (x ∷ v.2) refl)

  deep_viable : (x : T) (left : List T) (a : A) (done more : Spelling T) → L.spells a (done ++ more) → Cause n Deep (x ∷ left) more → IsViable L (tokens_of done ++ x ∷ [])
  deep_viable x left a done [] s c = absurd c
  deep_viable x left a done (y ∷ k) s c =
      (a, done ++ y ∷ k, tokens_of k, s, tokens_of-append done (y ∷ k) ∙ ap (λ z. tokens_of done ++ z ∷ tokens_of k) (sym c.0) ∙ sym (append_assoc (tokens_of done) (x ∷ []) (tokens_of k)))

  not_deep : (a : A) (m : Spelling T) (x : T) (d : ℕ) (k : Spelling T) (b : Bool) → below d n ≡ b → AllBelow n m → settle n a (m ++ (x, d) ∷ k) [] ≡ Stops Deep (x ∷ (tokens_of k ++ [])) → b ≡ false
  not_deep a m x d k false e flat h = refl
  not_deep a m x d k true e flat h =
      let g : settle n a k [] ≡ Stops Deep (x ∷ (tokens_of k ++ [])) = sym (settle_after n a m ((x, d) ∷ k) [] flat ∙ cond_true _ _ (below d n) e) ∙ h in
      let short = settle_short n a k [] (x ∷ (tokens_of k ++ [])) g in
      absurd (omega arith)

  deep_same : (x : T) (left : List T) (done : Spelling T) → ((left' : List T) → first left' ≡ Some x → p (tokens_of done ++ left') ≡ Stops Deep left') → IsShallow n L (tokens_of done)
      → (a : A) (m k : Spelling T) (d : ℕ) → L.spells a (m ++ (x, d) ∷ k) → tokens_of m ≡ tokens_of done → below d n ≡ false
  deep_same x left done again flat a m k d s e =
      let h : p (tokens_of (m ++ (x, d) ∷ k) ++ []) ≡ Stops Deep (x ∷ (tokens_of k ++ [])) = ap p (tokens_of_split m ((x, d) ∷ k) [] ∙ ap (λ z. z ++ (x ∷ (tokens_of k ++ []))) e) ∙ again (x ∷ (tokens_of k ++ [])) refl in
      not_deep a m x d k (below d n) refl (flat a m ((x, d) ∷ k) s e) (sym (P.complete a (m ++ (x, d) ∷ k) [] s (closed a)) ∙ h)

  fault_of : (ts : List T) (why : Reason) (left : List T) (w : Partial n p L ts why left) → IsFault n L why (tokens_of w.done) left
  fault_of ts Wrong left w = (
    viable_of ts Wrong left w,
    shallow (tokens_of w.done) left (λ x r lt g. let bad : ◌≡◌ {A = Outcome T A} (Stops Wrong left) (Stops Deep (x ∷ r)) = sym (w.again left refl) ∙ g in cc),
    stuck_of ts left w,
  )
  fault_of ts Deep [] w = absurd (w.cause)
  fault_of ts Deep (x ∷ left) w =
      let flat = shallow (tokens_of w.done) (x ∷ left) (λ y r lt g.
      let bad : ◌≡◌ {A = Outcome T A} (Stops Deep (x ∷ left)) (Stops Deep (y ∷ r)) = sym (w.again (x ∷ left) refl) ∙ g in
      let same : x ∷ left ≡ y ∷ r = cc in
      omega (arith, ap length same)) in
      (flat, (deep_viable x left w.value w.done w.more w.spells w.cause, deep_same x left w.done w.again flat))

  -- ---- what is left over

  over_of : (ts : List T) (a : A) (x : T) (r : List T) (w : Read n p L ts a (x ∷ r)) → IsFault n L Wrong (tokens_of w.spelling) (x ∷ r)
  over_of ts a x r w = (
    (a, w.spelling, [], w.spells, sym (append-nil (tokens_of w.spelling))),
    shallow (tokens_of w.spelling) (x ∷ r) (λ y l lt g. let bad : ◌≡◌ {A = Outcome T A} (Got a (x ∷ r)) (Stops Deep (y ∷ l)) = sym (w.again (x ∷ r) refl) ∙ g in cc),
    (λ v.
        let e1 : tokens_of v.1 ++ [] ≡ tokens_of w.spelling ++ x ∷ v.2 = append-nil (tokens_of v.1) ∙ v.4 ∙ append_assoc (tokens_of w.spelling) (x ∷ []) v.2 in
        let bad : x ∷ v.2 ≡ [] = settle_rest n v.0 a v.1 [] (x ∷ v.2) (sym (P.complete v.0 v.1 [] v.3 (closed v.0)) ∙ ap p e1 ∙ w.again (x ∷ v.2) refl) in
        cc),
  )

  -- ---- the whole text

  whole_fault_at : (ts : List T) (why : Reason) (left : List T) (o : Outcome T A) → p ts ≡ o → and_then o ended ≡ Stops why left
      → (pre : List T) × (ts ≡ pre ++ left) × IsFault n L why pre left
  whole_fault_at ts why left (Stops w l) e h = let x = P.stops ts why left (e ∙ h) in (tokens_of x.done, x.split, fault_of ts why left x)
  whole_fault_at ts why left (Got a []) e h = absurd (cc)
  whole_fault_at ts Deep left (Got a (x ∷ r)) e h = absurd (cc)
  whole_fault_at ts Wrong left (Got a (x ∷ r)) e h =
      let w = P.got ts a (x ∷ r) e in
      let same : x ∷ r ≡ left = cc in
      subst (λ l. (pre : List T) × (ts ≡ pre ++ l) × IsFault n L Wrong pre l) same (tokens_of w.spelling, w.split, over_of ts a x r w)

  pub whole_fault : (ts : List T) (why : Reason) (left : List T) → whole p ts ≡ Stops why left → (pre : List T) × (ts ≡ pre ++ left) × IsFault n L why pre left
  whole_fault ts why left h = whole_fault_at ts why left (p ts) refl h

  whole_got_at : (ts : List T) (a : A) (rest : List T) (o : Outcome T A) → p ts ≡ o → and_then o ended ≡ Got a rest
      → (ms : Spelling T) × L.spells a ms × (ts ≡ tokens_of ms) × AllBelow n ms
  whole_got_at ts a rest (Stops w l) e h = absurd (cc)
  whole_got_at ts a rest (Got b (x ∷ r)) e h = absurd (cc)
  whole_got_at ts a rest (Got b []) e h =
      let same : b ≡ a = cc in
      let w = P.got ts a [] (e ∙ ap (λ z. Got z []) same) in
      (w.spelling, w.spells, w.split ∙ append-nil (tokens_of w.spelling), w.flat)

  pub whole_got : (ts : List T) (a : A) (rest : List T) → whole p ts ≡ Got a rest → (ms : Spelling T) × L.spells a ms × (ts ≡ tokens_of ms) × AllBelow n ms
  whole_got ts a rest h = whole_got_at ts a rest (p ts) refl h

  pub one_value : (a b : A) (m k : Spelling T) → L.spells a m → L.spells b k → tokens_of m ≡ tokens_of k → AllBelow n m → AllBelow n k → a ≡ b
  one_value a b m k s r e flat flat' =
      let h : ◌≡◌ {A = Outcome T A} (Got a []) (Got b []) =
      sym (settle_flat n a m [] flat) ∙ sym (P.complete a m [] s (closed a)) ∙ ap (λ z. p (z ++ [])) e ∙ P.complete b k [] r (closed b) ∙ settle_flat n b k [] flat' in
      cc
