-- A text of a table tells what it is the text of: values of a short list, and numbers below a bound, by computation.
use Rattle.std.proofs.Common.{zero, suc, ◌≡◌, ◌∙◌, ℕ, ◌<◌, Bool, true, false, List, [], ◌∷◌, inl, inr, sym, ap, arith}
use Rattle.std.specs.Prelude.{Option, Some, None, ◌==◌, ◌||◌, ◌&&◌, not, if◌then◌else◌, bytes_eq}
use Rattle.std.proofs.lemmas.Bool.{and_parts, cases_lt, eqb-true}

-- the first of these with this text
unfoldable pub with_text : {A : Type 0} → (A → List ℕ) → List A → List ℕ → Option A
with_text text [] t = None
with_text text (x ∷ xs) t = if bytes_eq t (text x) then Some x else with_text text xs t

-- values that are found by their texts differ in them
pub same_value : {A : Type 0} (text : A → List ℕ) (xs : List A) (x y : A)
    → with_text text xs (text x) ≡ Some x → with_text text xs (text y) ≡ Some y → text x ≡ text y → x ≡ y
same_value text xs x y p q e = let r : Some x ≡ Some y = sym p ∙ ap (with_text text xs) e ∙ q in cc

-- a number with its text
pub record Entry : Type 0 where
  pub number : ℕ
  pub text : List ℕ

-- the numbers below n, the highest first
unfoldable pub entries : (ℕ → List ℕ) → ℕ → List Entry
entries text zero = []
entries text (suc n) = record { number = n; text = text n } ∷ entries text n

-- the number of the first entry with this text
unfoldable pub number_with : List Entry → List ℕ → ℕ
number_with [] t = 0
number_with (e ∷ es) t = if bytes_eq t e.text then e.number else number_with es t

-- each entry that passes is found by its text, which is fine
unfoldable pub tell : (ℕ → Bool) → (List ℕ → Bool) → List Entry → List Entry → Bool
tell pass fine all [] = true
tell pass fine all (e ∷ es) = (not (pass e.number) || ((number_with all e.text == e.number) && fine e.text)) && tell pass fine all es

holds_if : (p q : Bool) → (not p || q) ≡ true → p ≡ true → q ≡ true
holds_if true q h e = h
holds_if false q h e = cc

-- what such a table says of one number
pub told : (pass : ℕ → Bool) (fine : List ℕ → Bool) (all : List Entry) (text : ℕ → List ℕ) (n k : ℕ)
    → tell pass fine all (entries text n) ≡ true → k < n → pass k ≡ true → (number_with all (text k) ≡ k) × (fine (text k) ≡ true)
unfolding tell entries
told pass fine all text zero k h below p = absurd (omega arith)
told pass fine all text (suc n) k h below p =
    let parts = and_parts (not (pass n) || ((number_with all (text n) == n) && fine (text n))) (tell pass fine all (entries text n)) h in
    elim (cases_lt k n) [
      | inl less ↦ told pass fine all text n k parts.1 less p
      | inr top ↦
          let e : k ≡ n = omega arith in
          let here = and_parts (number_with all (text n) == n) (fine (text n)) (holds_if (pass n) _ parts.0 (rw e at p)) in
          rw e (eqb-true (number_with all (text n)) n here.0, here.1)
    ]

-- numbers that a table tells differ in their texts
pub same_number : (all : List Entry) (text : ℕ → List ℕ) (x y : ℕ) → number_with all (text x) ≡ x → number_with all (text y) ≡ y → text x ≡ text y → x ≡ y
same_number all text x y p q e = sym p ∙ ap (number_with all) e ∙ q
