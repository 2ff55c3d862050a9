-- Sizes of a launch are at least 1.
use Rattle.std.proofs.Common.{◌≡◌, ℕ, ◌<◌, ◌≤◌, List, get_or, ⊎_elim, arith}
use Rattle.std.proofs.lemmas.Bool.{cases_lt}
use Rattle.launch_file.specs.Launches.{AreSizes}

pub sizes_some : (dims : ℕ) (sizes : List ℕ) → AreSizes dims sizes → dims ≤ 3 → (i : ℕ) → 1 ≤ get_or sizes i 1
sizes_some dims sizes a few i =
    ⊎_elim (λ (h : i < 3). a.some i h) (λ (h : 3 ≤ i). let e : get_or sizes i 1 ≡ 1 = a.past i (omega arith) in omega (arith, e)) (cases_lt i 3)
