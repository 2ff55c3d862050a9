-- A test of all numbers below a bound.
use Rattle.std.specs.Prelude.{◌≡◌, ℕ, zero, suc, ◌+◌, ◌<◌, Bool, true, false, ◌||◌, refl}
use Rattle.std.proofs.Common.{arith, sym, subst, add-one, inl, inr}
use Rattle.std.proofs.lemmas.Bool.{cases_eq}
use Rattle.tight_words.specs.Code.{any_below}

or_right : (a : Bool) → (a || true) ≡ true
or_right true = refl
or_right false = refl

pub found : (n : ℕ) (test : ℕ → Bool) (k : ℕ) → k < n → test k ≡ true → any_below n test ≡ true
found zero test k h e = absurd (let no : ⊥ = omega arith in no)
found (suc n) test k h e =
    elim (cases_eq k n) [
      | inl same ↦ let t : test n ≡ true = subst (λ (i : ℕ). test i ≡ true) same e in rw t (or_right (any_below n test))
      | inr other ↦ let less : k < n = omega arith in rw (found n test k less e) refl
    ]

pub none_more : (n : ℕ) (test : ℕ → Bool) → any_below n test ≡ false → test n ≡ false → any_below (n + 1) test ≡ false
none_more n test h e = rw (add-one, h, e) refl

or_parts : (a b : Bool) → (a || b) ≡ false → (a ≡ false) × (b ≡ false)
or_parts true b h = absurd (cc)
or_parts false b h = (refl, h)

pub none_below : (n : ℕ) (test : ℕ → Bool) → any_below n test ≡ false → (k : ℕ) → k < n → test k ≡ false
none_below zero test h k l = absurd (let no : ⊥ = omega arith in no)
none_below (suc n) test h k l =
    elim (cases_eq k n) [
      | inl same ↦ subst (λ (i : ℕ). test i ≡ false) (sym same) (or_parts (any_below n test) (test n) h).1
      | inr other ↦ let less : k < n = omega arith in none_below n test (or_parts (any_below n test) (test n) h).0 k less
    ]

pub some_below : (n : ℕ) (test : ℕ → Bool) → any_below n test ≡ true → (k : ℕ) × (k < n) × (test k ≡ true)
some_below zero test h = absurd (cc)
some_below (suc n) test h =
    elim (any_below n test) as (λ b. any_below n test ≡ b → (b || test n) ≡ true → (k : ℕ) × (k < suc n) × (test k ≡ true)) [
      | true ↦ λ e t. let r = some_below n test e in (r.0, (let l : r.0 < n = r.1 in omega arith), r.2)
      | false ↦ λ e t. (n, omega arith, t)
    ] refl h

pub none_of : (n : ℕ) (test : ℕ → Bool) → ((k : ℕ) → k < n → test k ≡ false) → any_below n test ≡ false
none_of zero test h = refl
none_of (suc n) test h =
    rw (none_of n test (λ k l. h k (omega arith)), h n (omega arith)) refl

pub or_false : (a b : Bool) → (a || b) ≡ false → (a ≡ false) × (b ≡ false)
or_false a b h = or_parts a b h
