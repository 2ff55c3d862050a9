-- A list cut at each element that passes a test.
use Rattle.std.proofs.Common.{zero, suc, ◌≡◌, ◌≢◌, ℕ, ◌+◌, ◌-◌, ◌<◌, ◌≤◌, eqb, Bool, true, false, cond, List, [], ◌∷◌, ◌++◌, length, get_or, take, drop, sym, refl, ap, ◌∙◌, arith}
use Rattle.std.proofs.Math.Seq.{take-length}
use Rattle.std.proofs.lemmas.List.{length-drop}
use Rattle.std.proofs.lemmas.List.Splits.{slice_split_first, length-slice_split}
use Rattle.std.proofs.lemmas.List.Sums.{position_or_len_is, passes_at_first, split_at_first}
use Rattle.std.proofs.lemmas.Bool.Decides.{Decides-eqb}
use Rattle.std.specs.List.{slice_split, onto_first, position_or_len, before_first, after_first}

past_step : (p : ℕ → Bool) (x : ℕ) (xs : List ℕ) (b : Bool) → p x ≡ b → length (x ∷ xs) ≤ position_or_len p (x ∷ xs) → (length xs ≤ position_or_len p xs → slice_split p xs ≡ xs ∷ []) → slice_split p (x ∷ xs) ≡ (x ∷ xs) ∷ []
past_step p x xs true e h ih = absurd (omega (arith, rw e at h))
past_step p x xs false e h ih = rw (e, ih (omega (arith, rw e at h)))

-- where nothing passes the list is the one part
pub slice_split-past : (p : ℕ → Bool) (xs : List ℕ) → length xs ≤ position_or_len p xs → slice_split p xs ≡ xs ∷ []
slice_split-past p [] h = refl
slice_split-past p (x ∷ xs) h = past_step p x xs (p x) refl h (slice_split-past p xs)

not_true : (b : Bool) → (b ≡ true → ⊥) → b ≡ false
not_true true h = absurd (h refl)
not_true false h = refl

-- the place that a search finds
pub place_is : (at : ℕ) (xs : List ℕ) (n : ℕ) → n ≤ length xs → ((k : ℕ) → k < n → get_or xs k 0 ≢ at) → (n < length xs → get_or xs n 0 ≡ at) → n ≡ position_or_len (λ (x : ℕ). eqb x at) xs
place_is at xs n h before here =
    sym (position_or_len_is (λ (x : ℕ). eqb x at) xs n 0 h
    (λ k l. not_true _ (λ e. before k l ((Decides-eqb _ _).0 e)))
    (λ l. (Decides-eqb _ _).1 (here l)))

take_whole : (n : ℕ) (xs : List ℕ) → n ≡ length xs → take n xs ≡ xs
take_whole n xs e = rw e (take-length xs)

-- a list is what stands before the first that passes, and after it the rest
pub split_before : (p : ℕ → Bool) (xs : List ℕ) (n : ℕ) → n ≡ position_or_len p xs → n < length xs → slice_split p xs ≡ take n xs ∷ slice_split p (take (length xs - (n + 1)) (drop (n + 1) xs))
split_before p xs n e h = let whole = take_whole (length xs - (n + 1)) (drop (n + 1) xs) (simp length-drop (omega arith)) in rw (whole, e) (slice_split_first p xs 0 (omega arith))

pub parts_before : (at : ℕ) (xs : List ℕ) (n : ℕ) → n ≡ position_or_len (λ (x : ℕ). eqb x at) xs → n < length xs → xs ≡ take n xs ++ at ∷ take (length xs - (n + 1)) (drop (n + 1) xs)
parts_before at xs n e h =
    let whole = take_whole (length xs - (n + 1)) (drop (n + 1) xs) (simp length-drop (omega arith)) in
    let passes = passes_at_first (λ (x : ℕ). eqb x at) xs 0 (omega arith) in
    let same : get_or xs (position_or_len (λ (x : ℕ). eqb x at) xs) 0 ≡ at = (Decides-eqb _ _).0 passes in
    rw (whole, e) (split_at_first (λ (x : ℕ). eqb x at) xs 0 (omega arith) ∙ rw same)

-- there is a first part
pub some_part : (p : ℕ → Bool) (xs : List ℕ) → 1 ≤ length (slice_split p xs)
some_part p xs = omega (arith, length-slice_split p xs)
