-- What a cut count says of the true one.
use Rattle.std.proofs.Common.{◌≡◌, ℕ, ◌<◌, ◌≤◌, ap, ◌∙◌, subst, arith}
use Rattle.clc_counts.specs.declared.tally.Tally.{Tally}
use Rattle.clc_counts.specs.declared.limits.LimitFault.TheVariants as f
use Rattle.clc_counts.specs.Counts.{cut, cap}
use Rattle.clc_counts.specs.Limits.{IsWithin, Exceeds}

within : (n m : ℕ) → m < 4294967295 → cut n ≤ m → n ≤ m
within n m l h = omega (arith, l, h)

uncut : (n m : ℕ) → m < 4294967295 → cut n ≤ m → cut n ≡ n
uncut n m l h = omega (arith, l, h)

beyond : (n m : ℕ) → m < cut n → m < n
beyond n m h = omega (arith, h)

same : (a b : Tally) → a.nodes ≡ b.nodes → a.elements ≡ b.elements → a ≡ b
same a b p q = λ i. record { nodes = p i; elements = q i }

pub within_limits : (s t : Tally) → t ≡ cap s → t.nodes ≤ 16384 → t.elements ≤ 1024 → (t ≡ s) × IsWithin s
within_limits s t e few small =
    let n : t.nodes ≡ cut s.nodes = ap (λ z. z.nodes) e in
    let m : t.elements ≡ cut s.elements = ap (λ z. z.elements) e in
    let few_cut : cut s.nodes ≤ 16384 = subst (λ z. z ≤ 16384) n few in
    let small_cut : cut s.elements ≤ 1024 = subst (λ z. z ≤ 1024) m small in (
      same t s (n ∙ uncut s.nodes 16384 (omega arith) few_cut) (m ∙ uncut s.elements 1024 (omega arith) small_cut),
      (within s.nodes 16384 (omega arith) few_cut, within s.elements 1024 (omega arith) small_cut),
    )

pub too_many_nodes : (s t : Tally) → t ≡ cap s → 16384 < t.nodes → Exceeds s (f.N1 t.nodes)
too_many_nodes s t e h =
    let n : t.nodes ≡ cut s.nodes = ap (λ z. z.nodes) e in
    (beyond s.nodes 16384 (subst (λ z. 16384 < z) n h), n)

pub too_many_elements : (s t : Tally) → t ≡ cap s → t.nodes ≤ 16384 → 1024 < t.elements → Exceeds s (f.N2 t.elements)
too_many_elements s t e few h =
    let n : t.nodes ≡ cut s.nodes = ap (λ z. z.nodes) e in
    let m : t.elements ≡ cut s.elements = ap (λ z. z.elements) e in
    (within s.nodes 16384 (omega arith) (subst (λ z. z ≤ 16384) n few), beyond s.elements 1024 (subst (λ z. 1024 < z) m h), m)
