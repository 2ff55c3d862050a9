-- Vectors: lists that are given element by element, so that each has its length whatever the lists that it was made of.
use Rattle.std.specs.Prelude.{ℕ, ◌+◌, ◌-◌, ◌%◌, List, map, get_or, ◌==◌, if◌then◌else◌}
use Rattle.std.specs.List.{range_with_len}
use Rattle.q_lane.specs.declared.operations.BinOp.{BinOp}
use Rattle.q_lane.specs.Numbers.{applied}

-- the list of n elements with element i at i
unfoldable pub lanes : {A : Type 0} → ℕ → (ℕ → A) → List A
lanes n f = map f (range_with_len 0 n)

-- element i of a vector
abbrev pub lane : List ℕ → ℕ → ℕ
lane xs i = get_or xs i 0

-- an operation lane by lane
abbrev pub mapped : ℕ → BinOp → List ℕ → List ℕ → List ℕ
mapped n op a b = lanes n (λ i. applied op (lane a i) (lane b i))

-- a where the mask isn't 0, else b
abbrev pub selected : ℕ → List ℕ → List ℕ → List ℕ → List ℕ
selected n mask a b = lanes n (λ i. if lane mask i == 0 then lane b i else lane a i)

-- lane i goes to lane (i + k) mod n
abbrev pub rotated : ℕ → List ℕ → ℕ → List ℕ
rotated n xs k = lanes n (λ i. lane xs ((i + (n - k % n)) % n))
