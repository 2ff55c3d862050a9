-- A clean run of one QPU alone, shown forward: word after word from a state on, for all contents that an acquire may find.
use Rattle.std.proofs.Common.{◌≡◌, ℕ, zero, suc, ◌+◌, List, [], ◌∷◌, length, refl, sym, ap, ◌∙◌, subst, arith, Bool, false}
use Rattle.std.specs.Prelude.{◌⊎◌, Some, None, if◌then◌else◌}
use Rattle.vpm_words.specs.Access.{Site, Given, Private, Setup, Take, Give, ReadRow, WriteRow, StartLoad, StartStore, AwaitLoad, AwaitStore, overlaid}
use Rattle.qpu_machine.specs.SoloRun.{Want, Rests, Breaks, Wants, want, Sharing, Solo, does, solo, IsGiven, AreGiven, IsFine, AreAlike, IsClean, LoadsByte, StoresByte, KeepsApart, Change, Reads, Writes, Changes}

-- a word touches no shared byte where no section is to change one
pub keeps_apart : (x : Sharing) (w : Want) (s : Solo) → ((a : ℕ) → LoadsByte w a ⊎ StoresByte w a → x.is_shared a ≡ false) → KeepsApart x w s None
keeps_apart x Rests s h = h
keeps_apart x (Breaks rule) s h = h
keeps_apart x (Wants (Private late)) s h = h
keeps_apart x (Wants (Setup late)) s h = h
keeps_apart x (Wants Take) s h = h
keeps_apart x (Wants Give) s h = h
keeps_apart x (Wants (ReadRow row late)) s h = h
keeps_apart x (Wants (WriteRow row words late)) s h = h
keeps_apart x (Wants (StartLoad es late)) s h = h
keeps_apart x (Wants (StartStore es late)) s h = h
keeps_apart x (Wants AwaitLoad) s h = h
keeps_apart x (Wants AwaitStore) s h = h

-- where no byte is shared, an acquire leaves the memory as it is
pub nothing_overlaid : (x : ℕ → Bool) → ((a : ℕ) → x a ≡ false) → (at : ℕ) (given bytes : List ℕ) → overlaid x at given bytes ≡ bytes
nothing_overlaid x none at given [] = refl
nothing_overlaid x none at [] (b ∷ bs) = refl
nothing_overlaid x none at (m ∷ ms) (b ∷ bs) =
    ap (λ (t : Bool). (if t then m else b) ∷ overlaid x (suc at) ms bs) (none at) ∙ ap (λ l. b ∷ l) (nothing_overlaid x none (suc at) ms bs)

-- contents count only where the word is an acquire; size is that of the memory
module _ (x : Sharing) (code : List ℕ) (g : Site) (size : ℕ) where
  -- the next word
  abbrev pub next : Given → Solo → Solo
  next v s = does x code g (want code g s.qpu) v s

  -- P holds before so many words, and before the one after them
  abbrev pub HoldsFor : (Solo → Type 0) → ℕ → Solo → Type 0
  HoldsFor P zero s = P s
  HoldsFor P (suc n) s = P s × ((v : Given) → IsGiven size v → HoldsFor P n (next v s))

  -- so many words of two runs are alike, and the ones after them
  abbrev pub AlikeFor : ℕ → Solo → Solo → Type 0
  AlikeFor zero s t = AreAlike x code g s t
  AlikeFor (suc n) s t = AreAlike x code g s t × ((u v : Given) → IsGiven size u → IsGiven size v → AlikeFor n (next u s) (next v t))

  -- P holds before each of m words, and Q after them: what is shown of a stretch of words
  abbrev pub Through : (Solo → Type 0) → ℕ → (Solo → Type 0) → Solo → Type 0
  Through P zero q s = q s
  Through P (suc m) q s = P s × ((v : Given) → IsGiven size v → Through P m q (next v s))

  -- m words of two runs are alike, and then Q holds of both
  abbrev pub AlikeThrough : ℕ → (Solo → Solo → Type 0) → Solo → Solo → Type 0
  AlikeThrough zero q s t = q s t
  AlikeThrough (suc m) q s t = AreAlike x code g s t × ((u v : Given) → IsGiven size u → IsGiven size v → AlikeThrough m q (next u s) (next v t))

  -- ---- what P may be

  -- the next word is fine
  abbrev pub FineHere : Solo → Type 0
  FineHere s = IsFine x g.number (want code g s.qpu) s

  -- its transfer reads, writes and changes bytes of these sets alone
  pub record Within (reads writes : ℕ → Type 0) (changes : ℕ → Change → Type 0) (s : Solo) : Type 0 where
    pub loads : (a : ℕ) → s.change ≡ None → LoadsByte (want code g s.qpu) a → reads a
    pub stores : (a : ℕ) → s.change ≡ None → StoresByte (want code g s.qpu) a → writes a
    pub changed : (a : ℕ) (c : Change) → s.change ≡ Some c → LoadsByte (want code g s.qpu) a ⊎ StoresByte (want code g s.qpu) a → changes a c

  -- so many words are fine, and the one after them
  abbrev pub FineFor : ℕ → Solo → Type 0
  FineFor n s = HoldsFor FineHere n s

  -- ---- stretches one after the other; a loop is an induction on n over a stretch of its body

  -- a word of which it is known what it wants
  pub known_word : (P : Solo → Type 0) (m : ℕ) (q : Solo → Type 0) (s : Solo) (w : Want) → want code g s.qpu ≡ w → P s
      → ((v : Given) → IsGiven size v → Through P m q (does x code g w v s)) → Through P (suc m) q s
  known_word P m q s w e here h = (here, λ v ok. subst (λ z. Through P m q (does x code g z v s)) (sym e) (h v ok))

  pub fewer_hold : (P : Solo → Type 0) (n : ℕ) (s : Solo) → HoldsFor P (suc n) s → HoldsFor P n s
  fewer_hold P zero s h = h.0
  fewer_hold P (suc n) s h = (h.0, λ v ok. fewer_hold P n (next v s) (h.1 v ok))

  pub fewer_alike : (n : ℕ) (s t : Solo) → AlikeFor (suc n) s t → AlikeFor n s t
  fewer_alike zero s t h = h.0
  fewer_alike (suc n) s t h = (h.0, λ u v a b. fewer_alike n (next u s) (next v t) (h.1 u v a b))

  -- a stretch, and then n words
  pub through_hold : (P : Solo → Type 0) (m n : ℕ) (q : Solo → Type 0) (s : Solo) → ((t : Solo) → q t → HoldsFor P n t) → Through P m q s → HoldsFor P n s
  through_hold P zero n q s h t = h s t
  through_hold P (suc m) zero q s h t = t.0
  through_hold P (suc m) (suc n) q s h t = (t.0, λ v ok. through_hold P m n q (next v s) (λ y z. fewer_hold P n y (h y z)) (t.1 v ok))

  pub through_alike : (m n : ℕ) (q : Solo → Solo → Type 0) (s t : Solo) → ((y z : Solo) → q y z → AlikeFor n y z) → AlikeThrough m q s t → AlikeFor n s t
  through_alike zero n q s t h a = h s t a
  through_alike (suc m) zero q s t h a = a.0
  through_alike (suc m) (suc n) q s t h a =
      (a.0, λ u v i j. through_alike m n q (next u s) (next v t) (λ y z b. fewer_alike n y z (h y z b)) (a.1 u v i j))

  -- a stretch, and then another
  pub through_both : (P : Solo → Type 0) (m n both : ℕ) → both ≡ m + n → (p q : Solo → Type 0) (s : Solo) → ((t : Solo) → p t → Through P n q t) → Through P m p s
      → Through P both q s
  through_both P zero n both e p q s h t = let same : n ≡ both = omega arith in subst (λ k. Through P k q s) same (h s t)
  through_both P (suc m) n zero e p q s h t = absurd (omega arith)
  through_both P (suc m) n (suc both) e p q s h t = (t.0, λ v ok. through_both P m n both (omega arith) p q (next v s) h (t.1 v ok))

  pub alike_both : (m n both : ℕ) → both ≡ m + n → (p q : Solo → Solo → Type 0) (s t : Solo) → ((y z : Solo) → p y z → AlikeThrough n q y z) → AlikeThrough m p s t
      → AlikeThrough both q s t
  alike_both zero n both e p q s t h a = let same : n ≡ both = omega arith in subst (λ k. AlikeThrough k q s t) same (h s t a)
  alike_both (suc m) n zero e p q s t h a = absurd (omega arith)
  alike_both (suc m) n (suc both) e p q s t h a = (a.0, λ u v i j. alike_both m n both (omega arith) p q (next u s) (next v t) h (a.1 u v i j))

  -- what holds after a stretch holds after some contents
  pub through_reaches : (v : Given) → IsGiven size v → (P : Solo → Type 0) (m : ℕ) (q : Solo → Type 0) (start : Solo) (vs : List Given) → AreGiven size vs
      → Through P m q (solo x code g start vs) → (us : List Given) × AreGiven size us × q (solo x code g start us)
  unfolding solo
  through_reaches v ok P zero q start vs given t = (vs, given, t)
  through_reaches v ok P (suc m) q start vs given t = through_reaches v ok P m q start (v ∷ vs) (ok, given) (t.1 v ok)

  -- ---- a run that has ended

  pub rests_hold : (P : Solo → Type 0) (n : ℕ) (s : Solo) → want code g s.qpu ≡ Rests → P s → HoldsFor P n s
  rests_hold P zero s e h = h
  rests_hold P (suc n) s e h = (h, λ v ok. subst (λ w. HoldsFor P n (does x code g w v s)) (sym e) (rests_hold P n s e h))

  pub rests_alike : (n : ℕ) (s t : Solo) → want code g s.qpu ≡ Rests → want code g t.qpu ≡ Rests → AreAlike x code g s t → AlikeFor n s t
  rests_alike zero s t e f a = a
  rests_alike (suc n) s t e f a = (
    a,
    λ u v i j. subst (λ w. AlikeFor n (does x code g w u s) (next v t)) (sym e)
        (subst (λ w. AlikeFor n s (does x code g w v t)) (sym f) (rests_alike n s t e f a)),
  )

  -- ---- from a start on

  pub hold_from : (P : Solo → Type 0) (start : Solo) → ((n : ℕ) → HoldsFor P n start) → (vs : List Given) → AreGiven size vs → (n : ℕ) → HoldsFor P n (solo x code g start vs)
  unfolding solo
  hold_from P start h [] ok n = h n
  hold_from P start h (v ∷ vs) ok n = (hold_from P start h vs ok.1 (suc n)).1 v ok.0

  pub alike_from : (start : Solo) → ((n : ℕ) → AlikeFor n start start) → (us vs : List Given) → AreGiven size us → AreGiven size vs
      → length us ≡ length vs → (n : ℕ) → AlikeFor n (solo x code g start us) (solo x code g start vs)
  unfolding solo
  alike_from start h [] [] a b l n = h n
  alike_from start h [] (v ∷ vs) a b l n = absurd (omega arith)
  alike_from start h (u ∷ us) [] a b l n = absurd (omega arith)
  alike_from start h (u ∷ us) (v ∷ vs) a b l n = (alike_from start h us vs a.1 b.1 (omega arith) (suc n)).1 u v a.0 b.0

module _ (x : Sharing) (code : List ℕ) (g : Site) (start : Solo) where
  abbrev size : ℕ
  size = length start.memory

  -- a run is clean where any number of its words is fine and alike, and some contents lead to its end
  pub clean_from : ((n : ℕ) → FineFor x code g size n start) → ((n : ℕ) → AlikeFor x code g size n start start)
      → (vs : List Given) × AreGiven size vs × (want code g (solo x code g start vs).qpu ≡ Rests) → IsClean x code g start
  clean_from fine alike ends =
      record {
        fine = λ vs ok. hold_from x code g size (FineHere x code g size) start fine vs ok 0;
        alike = λ us vs a b l. alike_from x code g size start alike us vs a b l 0;
        ends = ends;
      }

  -- its footprint lies in the sets in which any number of its words stays
  module _ (reads writes : ℕ → Type 0) (changes : ℕ → Change → Type 0)
      (h : (n : ℕ) → HoldsFor x code g size (Within x code g size reads writes changes) n start) where
    within : (vs : List Given) → AreGiven size vs → Within x code g size reads writes changes (solo x code g start vs)
    within vs ok = hold_from x code g size (Within x code g size reads writes changes) start h vs ok 0

    pub reads_within : (a : ℕ) → Reads x code g start a → reads a
    reads_within a r = (within r.contents r.valid).loads a r.plain r.here

    pub writes_within : (a : ℕ) → Writes x code g start a → writes a
    writes_within a w = (within w.contents w.valid).stores a w.plain w.here

    pub changes_within : (a : ℕ) (c : Change) → Changes x code g start a c → changes a c
    changes_within a c h = (within h.contents h.valid).changed a c h.change h.here

-- ---- a run whose words don't hang on contents

-- what holds after so many words, whatever the contents: each word is fine then, and two runs are alike. After enough words it has ended
pub record Stages (x : Sharing) (code : List ℕ) (g : Site) (start : Solo) (at : ℕ → Solo → Type 0) : Type 0 where
  pub begins : at 0 start
  pub fine : (n : ℕ) (s : Solo) → at n s → IsFine x g.number (want code g s.qpu) s
  pub alike : (n : ℕ) (s t : Solo) → at n s → at n t → AreAlike x code g s t
  pub goes : (n : ℕ) (s : Solo) (v : Given) → IsGiven (length start.memory) v → at n s → at (suc n) (does x code g (want code g s.qpu) v s)
  pub last : ℕ
  pub rests : (s : Solo) → at last s → want code g s.qpu ≡ Rests

module _ (x : Sharing) (code : List ℕ) (g : Site) (start : Solo) (at : ℕ → Solo → Type 0) (h : Stages x code g start at) where
  -- after these contents it holds
  pub stage_at : (vs : List Given) → AreGiven (length start.memory) vs → at (length vs) (solo x code g start vs)
  unfolding solo
  stage_at [] ok = h.begins
  stage_at (v ∷ vs) ok = h.goes (length vs) (solo x code g start vs) v ok.0 (stage_at vs ok.1)

  -- the same contents over and over
  copies : ℕ → Given → List Given
  copies zero v = []
  copies (suc n) v = v ∷ copies n v

  copies_given : (n : ℕ) (v : Given) → IsGiven (length start.memory) v → AreGiven (length start.memory) (copies n v)
  unfolding copies
  copies_given zero v ok = tt
  copies_given (suc n) v ok = (ok, copies_given n v ok)

  copies_many : (n : ℕ) (v : Given) → length (copies n v) ≡ n
  unfolding copies
  copies_many zero v = refl
  copies_many (suc n) v = ap suc (copies_many n v)

  -- such a run is clean, if there are contents at all
  pub stages_clean : (v : Given) → IsGiven (length start.memory) v → IsClean x code g start
  stages_clean v ok =
      record {
        fine = λ vs given. h.fine (length vs) (solo x code g start vs) (stage_at vs given);
        alike = λ us vs a b l. h.alike (length us) (solo x code g start us) (solo x code g start vs) (stage_at us a)
            (subst (λ n. at n (solo x code g start vs)) (sym l) (stage_at vs b));
        ends = (
          copies h.last v,
          copies_given h.last v ok,
          h.rests (solo x code g start (copies h.last v))
              (subst (λ n. at n (solo x code g start (copies h.last v))) (copies_many h.last v) (stage_at (copies h.last v) (copies_given h.last v ok))),
        );
      }
