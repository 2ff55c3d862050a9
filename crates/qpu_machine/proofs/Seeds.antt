-- Numbers that come one after another from a seed: those after the first m are the numbers of the generator's state after m.
use Rattle.std.proofs.Common.{◌≡◌, ℕ, suc, zero, ◌+◌, ◌*◌, ◌<◌, List, [], ◌∷◌, map, replicate, length, get_or, slice_set, refl, sym, ◌∙◌, ap, arith, inl, inr}
use Rattle.std.proofs.lemmas.Bool.{cases_eq}
use Rattle.std.proofs.lemmas.List.{get_or-set_other}
use Rattle.std.proofs.lemmas.Grind.{get_or-set_at}
use Rattle.q_lane.specs.declared.lanes.Lanes.{Lanes}
use Rattle.q_lane.specs.Vectors.{lanes}
use Rattle.q_lane.proofs.VectorLaws.{lanes-same}
use Rattle.qpu_machine.specs.Schedules.{next_seed, seed_after, drawn, draw}
use Rattle.qpu_machine.specs.Opening.{zeros, drawn_lanes, drawn_file, drawn_regs, drawn_vpm}

-- n more after m
pub seed_after-add : (x m n k : ℕ) → m + n ≡ k → seed_after (seed_after x m) n ≡ seed_after x k
unfolding seed_after
seed_after-add x zero n k e = let same : n ≡ k = omega (arith, e) in ap (seed_after x) same
seed_after-add x (suc m) n zero e = absurd (omega (arith, e))
seed_after-add x (suc m) n (suc k) e = seed_after-add (next_seed x) m n k (omega (arith, e))

seed_after-one : (x : ℕ) → seed_after x 1 ≡ next_seed x
unfolding seed_after
seed_after-one x = refl

pub seed_after-none : (x : ℕ) → seed_after x 0 ≡ x
unfolding seed_after
seed_after-none x = refl

-- one more after n
pub seed_after-more : (x n : ℕ) → next_seed (seed_after x n) ≡ seed_after x (n + 1)
seed_after-more x n = sym (seed_after-one (seed_after x n)) ∙ seed_after-add x n 1 (n + 1) refl

-- the number that the state after n gives next is number n
pub draw-next : (x n : ℕ) → drawn (next_seed (seed_after x n)) ≡ draw x n
draw-next x n = ap (λ y. drawn y) (seed_after-more x n)

pub draw-after : (x m n k : ℕ) → m + n ≡ k → draw (seed_after x m) n ≡ draw x k
draw-after x m n k e = ap (λ y. drawn y) (seed_after-add x m (n + 1) (k + 1) (omega (arith, e)))

pub drawn_words-after : (x m n k : ℕ) → m + n ≡ k → lanes 16 (λ i. draw (seed_after x m) (n + i)) ≡ lanes 16 (λ i. draw x (k + i))
drawn_words-after x m n k e =
    lanes-same 16 (λ i. draw (seed_after x m) (n + i)) (λ i. draw x (k + i)) 0 (λ i h. draw-after x m (n + i) (k + i) (omega (arith, e)))

-- the next sixteen
pub drawn_words-next : (x m k : ℕ) → m ≡ k → lanes 16 (λ i. draw (seed_after x m) i) ≡ lanes 16 (λ i. draw x (k + i))
drawn_words-next x m k e = lanes-same 16 (λ i. draw (seed_after x m) i) (λ i. draw x (k + i)) 0 (λ i h. draw-after x m i (k + i) (omega (arith, e)))

pub drawn_lanes-after : (x m n k : ℕ) → m + n ≡ k → drawn_lanes (seed_after x m) n ≡ drawn_lanes x k
drawn_lanes-after x m n k e = ap {B = Lanes 16} (λ words. record { words = words }) (drawn_words-after x m n k e)

pub drawn_file-after : (x m n k count : ℕ) → m + n ≡ k → drawn_file (seed_after x m) n count ≡ drawn_file x k count
unfolding lanes
drawn_file-after x m n k count e =
    lanes-same count (λ r. drawn_lanes (seed_after x m) (n + 16 * r)) (λ r. drawn_lanes x (k + 16 * r)) zeros
    (λ r h. drawn_lanes-after x m (n + 16 * r) (k + 16 * r) (omega (arith, e)))

pub drawn_regs-after : (x m n k : ℕ) → m + n ≡ k → drawn_regs (seed_after x m) n ≡ drawn_regs x k
unfolding drawn_regs
drawn_regs-after x m n k e =
    rw (
      drawn_file-after x m n k 32 e,
      drawn_file-after x m (n + 512) (k + 512) 32 (omega (arith, e)),
      drawn_file-after x m (n + 1024) (k + 1024) 4 (omega (arith, e)),
      drawn_lanes-after x m (n + 1088) (k + 1088) (omega (arith, e)),
      draw-after x m (n + 1104) (k + 1104) (omega (arith, e)),
      draw-after x m (n + 1105) (k + 1105) (omega (arith, e)),
    ) refl

pub drawn_vpm-after : (x m n k : ℕ) → m + n ≡ k → drawn_vpm (seed_after x m) n ≡ drawn_vpm x k
unfolding drawn_vpm lanes
drawn_vpm-after x m n k e =
    lanes-same 64 (λ y. lanes 16 (λ i. draw (seed_after x m) (n + 16 * y + i))) (λ y. lanes 16 (λ i. draw x (k + 16 * y + i))) []
    (λ y h. drawn_words-after x m (n + 16 * y) (k + 16 * y) (omega (arith, e)))

-- an array that is filled in order
pub filled-more : {X : Type 0} (f : ℕ → X) (xs : List X) (i : ℕ) (x d : X) → i < length xs → ((k : ℕ) → k < i → get_or xs k d ≡ f k) → x ≡ f i
    → (k : ℕ) → k < i + 1 → get_or (slice_set xs i x) k d ≡ f k
filled-more f xs i x d long before e k h =
    elim (cases_eq k i) [
      | inl same ↦ get_or-set_at xs i k x d same long ∙ e ∙ ap f (sym same)
      | inr other ↦ get_or-set_other xs i k x d other ∙ before k (omega (arith, h, other))
    ]

-- as many that are alike
pub replicate-map : {A B : Type 0} (f : A → B) (x : A) (n : ℕ) → replicate n (f x) ≡ map f (replicate n x)
replicate-map f x zero = refl
replicate-map f x (suc n) = ap (λ rest. f x ∷ rest) (replicate-map f x n)
