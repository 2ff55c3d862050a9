-- The numbers from one on, with the first of them put behind a list.
use Rattle.std.proofs.Common.{◌≡◌, ℕ, suc, ◌+◌, ◌-◌, ◌<◌, ◌≤◌, List, [], ◌∷◌, ◌++◌, refl, sym, ap, ◌∙◌, arith}
use Rattle.std.proofs.lemmas.List.{append-nil}
use Rattle.clc_inline.specs.Inlining.{numbers}

behind : (xs : List ℕ) (x : ℕ) (ys : List ℕ) → (xs ++ x ∷ []) ++ ys ≡ xs ++ x ∷ ys
behind [] x ys = refl
behind (y ∷ xs) x ys = ap (λ z. y ∷ z) (behind xs x ys)

first_number : (from i count : ℕ) → i < count → numbers (from + i) (count - i) ≡ (from + i) ∷ numbers (from + (i + 1)) (count - (i + 1))
first_number from i count h =
    let e : count - i ≡ suc (count - (i + 1)) = omega (arith, h) in
    let f : suc (from + i) ≡ from + (i + 1) = omega arith in
    ap (numbers (from + i)) e ∙ ap (λ z. (from + i) ∷ numbers z (count - (i + 1))) f

pub numbers_more : (list : List ℕ) (from i count n : ℕ) → i < count → n ≡ from + i → list ++ numbers (from + i) (count - i) ≡ numbers from count
    → (list ++ n ∷ []) ++ numbers (from + (i + 1)) (count - (i + 1)) ≡ numbers from count
numbers_more list from i count n h e all =
    behind list n (numbers (from + (i + 1)) (count - (i + 1)))
    ∙ ap (λ m. list ++ m ∷ numbers (from + (i + 1)) (count - (i + 1))) e
    ∙ ap (λ z. list ++ z) (sym (first_number from i count h))
    ∙ all

pub numbers_done : (list : List ℕ) (from i count : ℕ) → count ≤ i → list ++ numbers (from + i) (count - i) ≡ numbers from count → list ≡ numbers from count
numbers_done list from i count h all =
    let e : count - i ≡ 0 = omega (arith, h) in
    sym (append-nil list) ∙ ap (λ z. list ++ z) (sym (ap (numbers (from + i)) e)) ∙ all

pub numbers_start : (from count : ℕ) → [] ++ numbers (from + 0) (count - 0) ≡ numbers from count
numbers_start from count =
    let e : from + 0 ≡ from = omega arith in
    let f : count - 0 ≡ count = omega arith in
    ap (λ z. numbers z (count - 0)) e ∙ ap (numbers from) f
