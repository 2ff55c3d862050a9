-- A launch has one verdict at most.
use Rattle.std.proofs.Common.{arith, ◌≡◌, ℕ, suc, ◌+◌, ◌<◌, List, [], ◌∷◌, length, refl, sym, ap, ◌∙◌, subst, inl, inr, ⊎_elim}
use Rattle.std.specs.Prelude.{◌⊎◌}
use Rattle.std.proofs.lemmas.Bool.{cases_order}
use Rattle.launch_meaning.specs.declared.ends.Ended.{Ended}
use Rattle.launch_meaning.specs.declared.ends.ItemEnd.{ItemEnd}
use Rattle.launch_meaning.specs.declared.ends.ItemEnd.TheVariants.{Ends, Bounds as ItemBounds, Spent as ItemSpent}
use Rattle.launch_meaning.specs.declared.verdict.Clash.{Clash}
use Rattle.launch_meaning.specs.declared.verdict.Verdict.{Verdict}
use Rattle.launch_meaning.specs.declared.verdict.Verdict.TheVariants.{Safe, Race, Bounds, Spent}
use Rattle.launch_meaning.specs.LaunchMeaning.{Item, AreRun, left_by, turns_of, IsRace, IsLess, IsLeastRace, IsVerdict}
use Rattle.launch_meaning.specs.Laws.{SaySame}

one_end : (e : ItemEnd) (x y : Ended) → e ≡ Ends x → e ≡ Ends y → x ≡ y
one_end e x y p q = cc

no_bounds : (e : ItemEnd) (x : Ended) (at : ℕ) → e ≡ Ends x → e ≡ ItemBounds at → ⊥
no_bounds e x at p q = cc

no_spent : (e : ItemEnd) (x : Ended) → e ≡ Ends x → e ≡ ItemSpent → ⊥
no_spent e x p q = cc

no_two_stops : (e : ItemEnd) (at : ℕ) → e ≡ ItemBounds at → e ≡ ItemSpent → ⊥
no_two_stops e at p q = cc

one_bound : (e : ItemEnd) (a b : ℕ) → e ≡ ItemBounds a → e ≡ ItemBounds b → a ≡ b
one_bound e a b p q = cc

module _ (item : Item) (turns : ℕ) where
  -- as many items are run in one way
  one_run : (first : ℕ) (buffers : List (List ℕ)) (xs ys : List Ended) → length xs ≡ length ys
      → AreRun item turns first buffers xs → AreRun item turns first buffers ys → xs ≡ ys
  one_run first buffers [] [] l r s = refl
  one_run first buffers [] (y ∷ ys) l r s = absurd (omega (arith, l))
  one_run first buffers (x ∷ xs) [] l r s = absurd (omega (arith, l))
  one_run first buffers (x ∷ xs) (y ∷ ys) l r s =
      let same : x ≡ y = one_end (item first buffers turns) x y r.0 s.0 in
      let rest : xs ≡ ys =
      one_run (suc first) x.buffers xs ys (omega (arith, l)) r.1
      (subst (λ (e : Ended). AreRun item turns (suc first) e.buffers ys) (sym same) s.1) in
      cc

  -- where more items are run, the next one comes to its end
  next_ends : (first : ℕ) (buffers : List (List ℕ)) (xs ys : List Ended) (n : ℕ) → n ≡ first + length xs → length xs < length ys
      → AreRun item turns first buffers xs → AreRun item turns first buffers ys → (one : Ended) × (item n (left_by buffers xs) turns ≡ Ends one)
  next_ends first buffers [] [] n is l r s = absurd (omega (arith, l))
  next_ends first buffers [] (y ∷ ys) n is l r s =
      let same : n ≡ first = omega (arith, is) in
      (y, subst (λ (k : ℕ). item k buffers turns ≡ Ends y) (sym same) s.0)
  next_ends first buffers (x ∷ xs) [] n is l r s = absurd (omega (arith, l))
  next_ends first buffers (x ∷ xs) (y ∷ ys) n is l r s =
      let same : x ≡ y = one_end (item first buffers turns) x y r.0 s.0 in
      next_ends (suc first) x.buffers xs ys n (omega (arith, is)) (omega (arith, l)) r.1
      (subst (λ (e : Ended). AreRun item turns (suc first) e.buffers ys) (sym same) s.1)

-- an item that doesn't come to its end
IsStop : ItemEnd → Type 0
IsStop e = (one : Ended) → e ≡ Ends one → ⊥

bounds_stop : (e : ItemEnd) (at : ℕ) → e ≡ ItemBounds at → IsStop e
unfolding IsStop
bounds_stop e at p = λ one q. no_bounds e one at q p

spent_stop : (e : ItemEnd) → e ≡ ItemSpent → IsStop e
unfolding IsStop
spent_stop e p = λ one q. no_spent e one q p

-- all items before number n come to their ends
record Reaches (item : Item) (turns : ℕ) (buffers : List (List ℕ)) (n : ℕ) (ended : List Ended) : Type 0 where
  many : length ended ≡ n
  run : AreRun item turns 0 buffers ended

module _ (item : Item) (turns : ℕ) (buffers : List (List ℕ)) where
  -- no more items are run than up to one that stops
  no_further : (n m : ℕ) (xs ys : List Ended) → Reaches item turns buffers n xs → Reaches item turns buffers m ys → n < m
      → IsStop (item n (left_by buffers xs) turns) → ⊥
  unfolding IsStop
  no_further n m xs ys r s l stop =
      let x : length xs ≡ n = r.many in
      let y : length ys ≡ m = s.many in
      let next = next_ends item turns 0 buffers xs ys n (omega (arith, x)) (omega (arith, x, y)) r.run s.run in
      stop next.0 next.1

  same_ended : (n m : ℕ) (xs ys : List Ended) → n ≡ m → Reaches item turns buffers n xs → Reaches item turns buffers m ys → xs ≡ ys
  same_ended n m xs ys e r s =
      let x : length xs ≡ n = r.many in
      let y : length ys ≡ m = s.many in
      one_run item turns 0 buffers xs ys (omega (arith, x, y)) r.run s.run

  -- two items that stop are one
  same_stop : (n m : ℕ) (xs ys : List Ended) → Reaches item turns buffers n xs → Reaches item turns buffers m ys
      → IsStop (item n (left_by buffers xs) turns) → IsStop (item m (left_by buffers ys) turns) → n ≡ m
  same_stop n m xs ys r s p q =
      ⊎_elim
      (λ (e : n ≡ m). e)
      (λ d. ⊎_elim (λ (l : n < m). absurd (no_further n m xs ys r s l p)) (λ (l : m < n). absurd (no_further m n ys xs s r l q)) d)
      (cases_order n m)

  same_end : (n m : ℕ) (xs ys : List Ended) → n ≡ m → xs ≡ ys → item n (left_by buffers xs) turns ≡ item m (left_by buffers ys) turns
  same_end n m xs ys e f = cc

-- one of two clashes is less, or they are the same
cases_less : (c d : Clash) → (c ≡ d) ⊎ (IsLess c d ⊎ IsLess d c)
cases_less c d =
    ⊎_elim
    (λ (e : c.buffer ≡ d.buffer). ⊎_elim
    (λ (f : c.byte ≡ d.byte). ⊎_elim
    (λ (g : c.first ≡ d.first). ⊎_elim
    (λ (h : c.second ≡ d.second). inl (λ i. record { buffer = e i; byte = f i; first = g i; second = h i }))
    (λ k. inr (⊎_elim (λ l. inl (inr (e, inr (f, inr (g, l))))) (λ l. inr (inr (sym e, inr (sym f, inr (sym g, l))))) k))
    (cases_order c.second d.second))
    (λ k. inr (⊎_elim (λ l. inl (inr (e, inr (f, inl l)))) (λ l. inr (inr (sym e, inr (sym f, inl l)))) k))
    (cases_order c.first d.first))
    (λ k. inr (⊎_elim (λ l. inl (inr (e, inl l))) (λ l. inr (inr (sym e, inl l))) k))
    (cases_order c.byte d.byte))
    (λ k. inr (⊎_elim (λ l. inl (inl l)) (λ l. inr (inl l)) k))
    (cases_order c.buffer d.buffer)

one_least : (ended : List Ended) (c d : Clash) → IsLeastRace ended c → IsLeastRace ended d → c ≡ d
one_least ended c d h k =
    ⊎_elim
    (λ (e : c ≡ d). e)
    (λ s. ⊎_elim (λ l. absurd (k.1 c l h.0)) (λ l. absurd (h.1 d l k.0)) s)
    (cases_less c d)

module _ (item : Item) (items : ℕ) (buffers : List (List ℕ)) (turns : ℕ) where
  abbrev reaches : (n : ℕ) (xs : List Ended) → length xs ≡ n → AreRun item turns 0 buffers xs → Reaches item turns buffers n xs
  reaches n xs l r = record { many = l; run = r }

  pub one_verdict : (v w : Verdict) → IsVerdict item items buffers turns v → IsVerdict item items buffers turns w → SaySame v w
  one_verdict (Bounds i a) (Bounds j b) h k =
      let r = reaches i h.0 h.1 h.3 in
      let s = reaches j k.0 k.1 k.3 in
      let e = same_stop item turns buffers i j h.0 k.0 r s (bounds_stop (item i (left_by buffers h.0) turns) a h.4) (bounds_stop (item j (left_by buffers k.0) turns) b k.4) in
      let f = same_ended item turns buffers i j h.0 k.0 e r s in
      let at : a ≡ b = one_bound (item i (left_by buffers h.0) turns) a b h.4 (same_end item turns buffers i j h.0 k.0 e f ∙ k.4) in
      cc
  one_verdict (Spent i) (Spent j) h k =
      let r = reaches i h.0 h.1 h.3 in
      let s = reaches j k.0 k.1 k.3 in
      let e = same_stop item turns buffers i j h.0 k.0 r s (spent_stop (item i (left_by buffers h.0) turns) h.4) (spent_stop (item j (left_by buffers k.0) turns) k.4) in
      ap (λ (n : ℕ). Spent n) e
  one_verdict (Bounds i a) (Spent j) h k =
      let r = reaches i h.0 h.1 h.3 in
      let s = reaches j k.0 k.1 k.3 in
      let e = same_stop item turns buffers i j h.0 k.0 r s (bounds_stop (item i (left_by buffers h.0) turns) a h.4) (spent_stop (item j (left_by buffers k.0) turns) k.4) in
      let f = same_ended item turns buffers i j h.0 k.0 e r s in
      absurd (no_two_stops (item i (left_by buffers h.0) turns) a h.4 (same_end item turns buffers i j h.0 k.0 e f ∙ k.4))
  one_verdict (Spent i) (Bounds j b) h k =
      let r = reaches i h.0 h.1 h.3 in
      let s = reaches j k.0 k.1 k.3 in
      let e = same_stop item turns buffers i j h.0 k.0 r s (spent_stop (item i (left_by buffers h.0) turns) h.4) (bounds_stop (item j (left_by buffers k.0) turns) b k.4) in
      let f = same_ended item turns buffers i j h.0 k.0 e r s in
      absurd (no_two_stops (item i (left_by buffers h.0) turns) b (same_end item turns buffers i j h.0 k.0 e f ∙ k.4) h.4)
  one_verdict (Bounds i a) (Race b x f g) h k =
      absurd (no_further item turns buffers i items h.0 k.0 (reaches i h.0 h.1 h.3) (reaches items k.0 k.1 k.2) h.2 (bounds_stop (item i (left_by buffers h.0) turns) a h.4))
  one_verdict (Bounds i a) (Safe t after) h k =
      absurd (no_further item turns buffers i items h.0 k.0 (reaches i h.0 h.1 h.3) (reaches items k.0 k.1.many k.1.run) h.2 (bounds_stop (item i (left_by buffers h.0) turns) a h.4))
  one_verdict (Spent i) (Race b x f g) h k =
      absurd (no_further item turns buffers i items h.0 k.0 (reaches i h.0 h.1 h.3) (reaches items k.0 k.1 k.2) h.2 (spent_stop (item i (left_by buffers h.0) turns) h.4))
  one_verdict (Spent i) (Safe t after) h k =
      absurd (no_further item turns buffers i items h.0 k.0 (reaches i h.0 h.1 h.3) (reaches items k.0 k.1.many k.1.run) h.2 (spent_stop (item i (left_by buffers h.0) turns) h.4))
  one_verdict (Race b x f g) (Bounds i a) k h =
      absurd (no_further item turns buffers i items h.0 k.0 (reaches i h.0 h.1 h.3) (reaches items k.0 k.1 k.2) h.2 (bounds_stop (item i (left_by buffers h.0) turns) a h.4))
  one_verdict (Race b x f g) (Spent i) k h =
      absurd (no_further item turns buffers i items h.0 k.0 (reaches i h.0 h.1 h.3) (reaches items k.0 k.1 k.2) h.2 (spent_stop (item i (left_by buffers h.0) turns) h.4))
  one_verdict (Safe t after) (Bounds i a) k h =
      absurd (no_further item turns buffers i items h.0 k.0 (reaches i h.0 h.1 h.3) (reaches items k.0 k.1.many k.1.run) h.2 (bounds_stop (item i (left_by buffers h.0) turns) a h.4))
  one_verdict (Safe t after) (Spent i) k h =
      absurd (no_further item turns buffers i items h.0 k.0 (reaches i h.0 h.1 h.3) (reaches items k.0 k.1.many k.1.run) h.2 (spent_stop (item i (left_by buffers h.0) turns) h.4))
  one_verdict (Race b x f g) (Race b' x' f' g') h k =
      let same = same_ended item turns buffers items items h.0 k.0 refl (reaches items h.0 h.1 h.2) (reaches items k.0 k.1 k.2) in
      let c : Clash = record { buffer = b; byte = x; first = f; second = g } in
      let d : Clash = record { buffer = b'; byte = x'; first = f'; second = g' } in
      let e : c ≡ d = one_least k.0 c d (subst (λ (l : List Ended). IsLeastRace l c) same h.3) k.3 in
      ap (λ (r : Clash). Race r.buffer r.byte r.first r.second) e
  one_verdict (Race b x f g) (Safe t after) h k =
      let same = same_ended item turns buffers items items h.0 k.0 refl (reaches items h.0 h.1 h.2) (reaches items k.0 k.1.many k.1.run) in
      let c : Clash = record { buffer = b; byte = x; first = f; second = g } in
      absurd (k.1.apart c (subst (λ (l : List Ended). IsRace l c) same h.3.0))
  one_verdict (Safe t after) (Race b x f g) k h =
      let same = same_ended item turns buffers items items h.0 k.0 refl (reaches items h.0 h.1 h.2) (reaches items k.0 k.1.many k.1.run) in
      let c : Clash = record { buffer = b; byte = x; first = f; second = g } in
      absurd (k.1.apart c (subst (λ (l : List Ended). IsRace l c) same h.3.0))
  one_verdict (Safe t after) (Safe u after') h k =
      let same = same_ended item turns buffers items items h.0 k.0 refl (reaches items h.0 h.1.many h.1.run) (reaches items k.0 k.1.many k.1.run) in
      (h.2 ∙ (ap turns_of same ∙ sym k.2), h.3 ∙ (ap (λ (l : List Ended). left_by buffers l) same ∙ sym k.3))
