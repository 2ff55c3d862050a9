-- What `guarded` does, by the first of its faults.
use Rattle.std.proofs.Common.{◌≡◌, List, [], ◌∷◌, ◌++◌, Some, None, refl, ap}
use Rattle.std.specs.Prelude.{unwrap_or}
use Rattle.clc_types.specs.declared.forms.Fault.{Fault}
use Rattle.clc_types.specs.InternalAnswers.{first}
use Rattle.clc_types.specs.InternalWalk.{Walked, Wrong, guarded}

pub guarded_stops : {A : Type 0} → (fs : List Fault) (f : Fault) (go : Walked A) → first fs ≡ Some f → guarded fs go ≡ Wrong f
guarded_stops [] f go e = absurd (cc)
guarded_stops (g ∷ gs) f go e = ap (λ o. Wrong (unwrap_or o f)) e

pub guarded_goes : {A : Type 0} → (fs : List Fault) (go : Walked A) → first fs ≡ None → guarded fs go ≡ go
guarded_goes [] go e = refl
guarded_goes (g ∷ gs) go e = absurd (cc)

-- the first fault of the first tests is the first of all
pub first_left : (fs gs : List Fault) (f : Fault) → first fs ≡ Some f → first (fs ++ gs) ≡ Some f
first_left [] gs f e = absurd (cc)
first_left (g ∷ fs) gs f e = e
