-- The count of a list that grows.
use Rattle.std.proofs.Common.{◌≡◌, List, [], ◌∷◌, refl}
use Rattle.std.specs.Prelude.{Option, Some, None}
use Rattle.qpu_rules.specs.Uses.{listed, only, count_of, sole, added}
use Rattle.vpm_words.specs.declared.state.Access.{Access}

pub count_of_listed : (o : Option Access) (xs : List Access) → count_of (listed o xs) ≡ added o (count_of xs)
count_of_listed None xs = refl
count_of_listed (Some a) [] = refl
count_of_listed (Some a) (x ∷ []) = refl
count_of_listed (Some a) (x ∷ (y ∷ ys)) = refl

pub sole_of_count : (xs : List Access) → sole (count_of xs) ≡ only xs
sole_of_count [] = refl
sole_of_count (a ∷ []) = refl
sole_of_count (a ∷ (b ∷ others)) = refl
