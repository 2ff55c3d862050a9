-- A list with one value given anew.
use Rattle.std.proofs.Common.{◌≡◌, ◌≢◌, ℕ, zero, suc, ◌<◌, List, [], ◌∷◌, length, refl, ap, arith}
use Rattle.std.specs.Prelude.{slice_get, slice_set}
use Rattle.std.specs.declared.option.Option.TheVariants.{Some}

pub get_set : {X : Type 0} (xs : List X) (k : ℕ) (v : X) → k < length xs → slice_get (slice_set xs k v) k ≡ Some v
get_set [] k v lt = absurd (omega arith)
get_set (x ∷ xs) zero v lt = refl
get_set (x ∷ xs) (suc k) v lt = get_set xs k v (omega arith)

pub get_set_other : {X : Type 0} (xs : List X) (k j : ℕ) (v : X) → j ≢ k → slice_get (slice_set xs k v) j ≡ slice_get xs j
get_set_other [] k j v n = refl
get_set_other (x ∷ xs) zero zero v n = absurd (n refl)
get_set_other (x ∷ xs) zero (suc j) v n = refl
get_set_other (x ∷ xs) (suc k) zero v n = refl
get_set_other (x ∷ xs) (suc k) (suc j) v n = get_set_other xs k j v (λ e. n (ap suc e))
