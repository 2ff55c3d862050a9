-- Laws of rotation.
use Rattle.std.proofs.Common.{◌≡◌, ℕ, ◌+◌, ◌-◌, ◌*◌, ◌/◌, ◌%◌, ◌<◌, List, length, inl, inr, sym, ap, ◌∙◌, arith}
use Rattle.std.proofs.Math.Nat.{mod-add-mod, add-mod, add-mod_right, add-mul-mod_self_right, mod-eq_of_lt}
use Rattle.std.proofs.lemmas.Nat.{mod_below}
use Rattle.std.proofs.lemmas.Bool.{cases_lt}
use Rattle.q_lane.specs.Vectors.{lane, rotated}
use Rattle.q_lane.proofs.VectorLaws.{get_or-lanes, lanes-is, lanes-same}

-- the way back from where lane i went
returned : (n k i : ℕ) → i < n → ((i + k) % n + (n - k % n)) % n ≡ i
returned n k i h =
    let e : (i + k) + (n - k % n) ≡ i + (k / n + 1) * n = omega arith in
    mod-add-mod (i + k) n (n - k % n) ∙ ap (λ (x : ℕ). x % n) e ∙ add-mul-mod_self_right i (k / n + 1) n ∙ mod-eq_of_lt h

-- lane i goes to lane (i + k) mod n
pub rotated-moves : (n : ℕ) (xs : List ℕ) (k i : ℕ) → i < n → lane (rotated n xs k) ((i + k) % n) ≡ lane xs i
rotated-moves n xs k i h =
    get_or-lanes n (λ (j : ℕ). lane xs ((j + (n - k % n)) % n)) ((i + k) % n) 0 (mod_below (i + k) n (omega arith))
    ∙ ap (lane xs) (returned n k i h)

-- two ways back in a row
summed : (n k m i : ℕ) → 0 < n → (i + (n - m % n) + (n - k % n)) % n ≡ (i + (n - (k + m) % n)) % n
summed n k m i h =
    let p : k % n < n = mod_below k n h in
    let q : m % n < n = mod_below m n h in
    let s : (k + m) % n ≡ (k % n + m % n) % n = add-mod k m n in
    elim (cases_lt (k % n + m % n) n) [
      | inl l ↦
          let r : (k + m) % n ≡ k % n + m % n = s ∙ mod-eq_of_lt l in
          let e : i + (n - m % n) + (n - k % n) ≡ (i + (n - (k + m) % n)) + n = omega arith in
          ap (λ (x : ℕ). x % n) e ∙ add-mod_right (i + (n - (k + m) % n)) n
      | inr l ↦
          let t : k % n + m % n ≡ (k % n + m % n - n) + n = omega arith in
          let b : k % n + m % n - n < n = omega arith in
          let r : (k + m) % n ≡ k % n + m % n - n = s ∙ ap (λ (x : ℕ). x % n) t ∙ add-mod_right (k % n + m % n - n) n ∙ mod-eq_of_lt b in
          let e : i + (n - m % n) + (n - k % n) ≡ i + (n - (k + m) % n) = omega arith in
          ap (λ (x : ℕ). x % n) e
    ]

-- a rotation by k and then by m is one by k + m
pub rotated-rotated : (n : ℕ) (xs : List ℕ) (k m : ℕ) → rotated n (rotated n xs k) m ≡ rotated n xs (k + m)
rotated-rotated n xs k m =
    lanes-same n (λ i. lane (rotated n xs k) ((i + (n - m % n)) % n)) (λ i. lane xs ((i + (n - (k + m) % n)) % n)) 0
    (λ i h.
    get_or-lanes n (λ (j : ℕ). lane xs ((j + (n - k % n)) % n)) ((i + (n - m % n)) % n) 0 (mod_below (i + (n - m % n)) n (omega arith))
    ∙ ap (lane xs) (mod-add-mod (i + (n - m % n)) n (n - k % n) ∙ summed n k m i (omega arith)))

still : (n k i : ℕ) → i < n → k % n ≡ 0 → (i + (n - k % n)) % n ≡ i
still n k i l z =
    let e : i + (n - k % n) ≡ i + n = omega arith in
    ap (λ (x : ℕ). x % n) e ∙ add-mod_right i n ∙ mod-eq_of_lt l

-- a rotation by 0, by n or by any multiple of n is nothing
pub rotated-whole : (n : ℕ) (xs : List ℕ) (k : ℕ) → length xs ≡ n → k % n ≡ 0 → rotated n xs k ≡ xs
rotated-whole n xs k h z =
    sym (lanes-is n (λ (i : ℕ). lane xs ((i + (n - k % n)) % n)) xs 0 h
    (λ i l. ap (lane xs) (sym (still n k i l z))))
