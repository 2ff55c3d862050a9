-- Laws of lists that are given element by element, and of what is made of them. No law needs to know the length of a list.
use Rattle.std.proofs.Common.{◌≡◌, ℕ, ◌<◌, List, length, get_or, if◌then◌else◌, ◌==◌, refl, ◌∙◌, arith}
use Rattle.std.proofs.lemmas.List.FromFn.{length-map-range_with_len, get_or-map-range_with_len, fill_by_all}
use Rattle.q_lane.specs.declared.operations.BinOp.{BinOp}
use Rattle.q_lane.specs.Numbers.{applied}
use Rattle.q_lane.specs.Vectors.{lanes, lane, mapped, selected}

pub length-lanes : {A : Type 0} (n : ℕ) (f : ℕ → A) → length (lanes n f) ≡ n
unfolding lanes
length-lanes n f = length-map-range_with_len f 0 n

pub get_or-lanes : {A : Type 0} (n : ℕ) (f : ℕ → A) (i : ℕ) (d : A) → i < n → get_or (lanes n f) i d ≡ f i
unfolding lanes
get_or-lanes n f i d h = get_or-map-range_with_len f 0 n i i d h (omega arith)

-- a list of n elements whose element i is f i
pub lanes-is : {A : Type 0} (n : ℕ) (f : ℕ → A) (xs : List A) (d : A) → length xs ≡ n → ((i : ℕ) → i < n → get_or xs i d ≡ f i) → xs ≡ lanes n f
unfolding lanes
lanes-is n f xs d h p = fill_by_all f xs n d h p

-- a list of n elements is given by its elements
pub lanes-elements : {A : Type 0} (n : ℕ) (xs : List A) (d : A) → length xs ≡ n → xs ≡ lanes n (λ i. get_or xs i d)
lanes-elements n xs d h = lanes-is n (λ i. get_or xs i d) xs d h (λ i p. refl)

-- what has the same elements is the same
pub lanes-same : {A : Type 0} (n : ℕ) (f g : ℕ → A) (d : A) → ((i : ℕ) → i < n → f i ≡ g i) → lanes n f ≡ lanes n g
lanes-same n f g d p = lanes-is n g (lanes n f) d (length-lanes n f) (λ i h. get_or-lanes n f i d h ∙ p i h)

-- a choice between two operations, lane by lane
pub selected-mapped : (n : ℕ) (m : List ℕ) (o p : BinOp) (a b c d : List ℕ)
    → selected n m (mapped n o a b) (mapped n p c d)
    ≡ lanes n (λ i. if lane m i == 0 then applied p (lane c i) (lane d i) else applied o (lane a i) (lane b i))
selected-mapped n m o p a b c d =
    lanes-same n (λ i. if lane m i == 0 then lane (mapped n p c d) i else lane (mapped n o a b) i)
    (λ i. if lane m i == 0 then applied p (lane c i) (lane d i) else applied o (lane a i) (lane b i)) 0
    (λ i h. rw (get_or-lanes n (λ (j : ℕ). applied p (lane c j) (lane d j)) i 0 h, get_or-lanes n (λ (j : ℕ). applied o (lane a j) (lane b j)) i 0 h) refl)
