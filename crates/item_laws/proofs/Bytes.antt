-- Bytes that are written, and the numbers that bytes spell.
use Rattle.std.proofs.Common.{◌≡◌, ℕ, zero, suc, ◌+◌, ◌*◌, ◌/◌, ◌%◌, ◌^◌, ◌<◌, ◌≤◌, inl, inr, refl, sym, ap, ◌∙◌, arith}
use Rattle.std.specs.Prelude.{if◌then◌else◌}
use Rattle.std.proofs.lemmas.Bool.{eq-eqb, ne_eqb, cases_eq}
use Rattle.item_ir.specs.Memory.{with_at, bytes_at, with_bytes}

with_at-same : (f : ℕ → ℕ) (k x : ℕ) → with_at f k x k ≡ x
with_at-same f k x = ap (λ b. if b then x else f k) (eq-eqb k k refl)

with_at-other : (f : ℕ → ℕ) (k x j : ℕ) → (j ≡ k → ⊥) → with_at f k x j ≡ f j
with_at-other f k x j ne = ap (λ b. if b then x else f j) (ne_eqb j k ne)

-- two memories that agree on n bytes spell the same number there
pub bytes_same : (f g : ℕ → ℕ) (n a : ℕ) → ((j : ℕ) → a ≤ j → j < a + n → f j ≡ g j) → bytes_at f n a ≡ bytes_at g n a
bytes_same f g zero a h = refl
bytes_same f g (suc n) a h =
    let first : f a ≡ g a = h a (omega arith) (omega arith) in
    let others : bytes_at f n (suc a) ≡ bytes_at g n (suc a) = bytes_same f g n (suc a) (λ j p q. h j (omega (arith, p)) (omega (arith, q))) in
    λ i. first i + 2 ^ 8 * others i

pub below_kept : (f : ℕ → ℕ) (n a x j : ℕ) → j < a → with_bytes f n a x j ≡ f j
below_kept f zero a x j h = refl
below_kept f (suc n) a x j h =
    below_kept (with_at f a (x % 2 ^ 8)) n (suc a) (x / 2 ^ 8) j (omega (arith, h)) ∙ with_at-other f a (x % 2 ^ 8) j (λ e. omega (arith, h, e))

pub above_kept : (f : ℕ → ℕ) (n a x j : ℕ) → a + n ≤ j → with_bytes f n a x j ≡ f j
above_kept f zero a x j h = refl
above_kept f (suc n) a x j h =
    above_kept (with_at f a (x % 2 ^ 8)) n (suc a) (x / 2 ^ 8) j (omega (arith, h)) ∙ with_at-other f a (x % 2 ^ 8) j (λ e. omega (arith, h, e))

-- the bytes that are written don't depend on the memory
pub written_same : (f g : ℕ → ℕ) (n a x j : ℕ) → a ≤ j → j < a + n → with_bytes f n a x j ≡ with_bytes g n a x j
written_same f g zero a x j p q = absurd (omega (arith, p, q))
written_same f g (suc n) a x j p q =
    elim (cases_eq j a) [
      | inl e ↦ at_first e
      | inr ne ↦ written_same (with_at f a (x % 2 ^ 8)) (with_at g a (x % 2 ^ 8)) n (suc a) (x / 2 ^ 8) j (past ne) (omega (arith, q))
    ]
  where
    past : (j ≡ a → ⊥) → suc a ≤ j
    past ne = omega (arith, p, ne)

    first : (h : ℕ → ℕ) → j ≡ a → with_bytes (with_at h a (x % 2 ^ 8)) n (suc a) (x / 2 ^ 8) j ≡ x % 2 ^ 8
    first h e = below_kept (with_at h a (x % 2 ^ 8)) n (suc a) (x / 2 ^ 8) j (omega (arith, e)) ∙ ap (with_at h a (x % 2 ^ 8)) e ∙ with_at-same h a (x % 2 ^ 8)

    at_first : j ≡ a → with_bytes f (suc n) a x j ≡ with_bytes g (suc n) a x j
    at_first e = first f e ∙ sym (first g e)
