-- Changes of many QPUs that commute, in any order.
use Rattle.std.proofs.Common.{◌≡◌, ◌≢◌, ℕ, zero, suc, ◌^◌, ◌<◌, ◌≤◌, List, [], ◌∷◌, ⊎_elim, ◌⊎◌, inl, inr, refl, sym, ap, ◌∙◌, subst, arith, eq-eqb, ne_eqb}
use Rattle.std.specs.Prelude.{if◌then◌else◌, ⊤}
use Rattle.std.proofs.lemmas.Bool.{cases_eq}
use Rattle.qpu_machine.specs.SoloRun.{changed, Made}
use Rattle.solo_law.specs.Sharing.{changed_by, Commute, own, without_numbers}
use Rattle.solo_law.proofs.Changes.{AreSmall, CommuteAll, all_skip, all_more, changed_by_all}

own_mine : (k : ℕ) (m : ℕ × Made) (ms : List (ℕ × Made)) → m.0 ≡ k → own k (m ∷ ms) ≡ m.1 ∷ own k ms
own_mine k m ms e = ap (λ t. if t then m.1 ∷ own k ms else own k ms) (eq-eqb m.0 k e)

own_other : (k : ℕ) (m : ℕ × Made) (ms : List (ℕ × Made)) → m.0 ≢ k → own k (m ∷ ms) ≡ own k ms
own_other k m ms e = ap (λ t. if t then m.1 ∷ own k ms else own k ms) (ne_eqb m.0 k e)

nothing_made : (at n b : ℕ) → changed_by_all at (λ k. []) n b ≡ b
nothing_made at zero b = refl
nothing_made at (suc n) b = nothing_made at n b

module _ (P : ℕ → Made → Type 0) (n at : ℕ) (fit : (j k : ℕ) (m o : Made) → j ≢ k → P j m → P k o → m.address ≡ at → o.address ≡ at → Commute o.change m.change) where
  abbrev pub AllOf : ℕ → List Made → Type 0
  AllOf k [] = ⊤
  AllOf k (m ∷ ms) = P k m × (m.change.operand < 2 ^ 32) × AllOf k ms

  abbrev pub All : List (ℕ × Made) → Type 0
  All [] = ⊤
  All (m ∷ ms) = (m.0 < n) × P m.0 m.1 × (m.1.change.operand < 2 ^ 32) × All ms

  small_own : (j : ℕ) (ms : List (ℕ × Made)) → All ms → AreSmall (own j ms)
  small_own j [] h = tt
  small_own j (m ∷ ms) h =
      let r = small_own j ms h.3 in
      ⊎_elim
      (λ e. subst AreSmall (sym (own_mine j m ms e)) (h.2, r))
      (λ e. subst AreSmall (sym (own_other j m ms e)) r)
      (cases_eq m.0 j)

  commute_own : (m : ℕ × Made) → P m.0 m.1 → m.1.address ≡ at → (j : ℕ) → j ≢ m.0 → (ms : List (ℕ × Made)) → All ms → CommuteAll at m.1.change (own j ms)
  commute_own m p em j ne [] h = tt
  commute_own m p em j ne (o ∷ ms) h =
      let r = commute_own m p em j ne ms h.3 in
      ⊎_elim
      (λ e. subst (CommuteAll at m.1.change) (sym (own_mine j o ms e))
      (λ eo. fit m.0 j m.1 o.1 (λ z. ne (sym z)) p (subst (λ i. P i o.1) e h.1) em eo, r))
      (λ e. subst (CommuteAll at m.1.change) (sym (own_other j o ms e)) r)
      (cases_eq o.0 j)

  pub any_order : (ms : List (ℕ × Made)) (b : ℕ) → All ms → b < 2 ^ 32 → changed_by at (without_numbers ms) b ≡ changed_by_all at (λ k. own k ms) n b
  any_order [] b h l = sym (nothing_made at n b)
  any_order (m ∷ ms) b h l =
      let r = any_order ms b h.3 l in
      let other : (j : ℕ) → j ≢ m.0 → own j (m ∷ ms) ≡ own j ms = λ j ne. own_other j m ms (λ z. ne (sym z)) in
      ⊎_elim
      (λ e.
      ap (λ t. if t then changed m.1.change (changed_by at (without_numbers ms) b) else changed_by at (without_numbers ms) b) (eq-eqb m.1.address at e)
      ∙ ap (changed m.1.change) r
      ∙ sym (all_more at (λ k. own k ms) (λ k. own k (m ∷ ms)) m.0 m.1 n b h.0 (own_mine m.0 m ms refl) other e (λ j lt ne. commute_own m h.1 e j ne ms h.3) (λ j lt. small_own j ms h.3) l))
      (λ e.
      ap (λ t. if t then changed m.1.change (changed_by at (without_numbers ms) b) else changed_by at (without_numbers ms) b) (ne_eqb m.1.address at e)
      ∙ r
      ∙ sym (all_skip at (λ k. own k ms) (λ k. own k (m ∷ ms)) m.0 m.1 n b (own_mine m.0 m ms refl) other e))
      (cases_eq m.1.address at)

  pub all_of : (ms : List (ℕ × Made)) → ((k : ℕ) → n ≤ k → own k ms ≡ []) → ((k : ℕ) → k < n → AllOf k (own k ms)) → All ms
  all_of [] t h = tt
  all_of (m ∷ ms) t h =
      let below : m.0 < n =
      ⊎_elim (λ l. l) (λ ge. let e : m.1 ∷ own m.0 ms ≡ [] = sym (own_mine m.0 m ms refl) ∙ t m.0 ge in absurd cc) (lt_or m.0 n) in
      let mine = subst (AllOf m.0) (own_mine m.0 m ms refl) (h m.0 below) in
      let rest_out : (k : ℕ) → n ≤ k → own k ms ≡ [] = λ k ge. sym (own_other k m ms (λ e. omega (arith, below, ge, e))) ∙ t k ge in
      let rest : (k : ℕ) → k < n → AllOf k (own k ms) =
      λ k lt.
      ⊎_elim
      (λ e. subst (λ i. AllOf i (own i ms)) e mine.2)
      (λ e. subst (AllOf k) (own_other k m ms e) (h k lt))
      (cases_eq m.0 k) in
      (below, mine.0, mine.1, all_of ms rest_out rest)
    where
      lt_or : (a b : ℕ) → (a < b) ⊎ (b ≤ a)
      lt_or a zero = inr (omega arith)
      lt_or zero (suc b) = inl (omega arith)
      lt_or (suc a) (suc b) = ⊎_elim (λ l. inl (omega (arith, l))) (λ g. inr (omega (arith, g))) (lt_or a b)
