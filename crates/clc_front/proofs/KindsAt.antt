-- The kinds of the parameters of a function that is there, and of one that isn't.
use Rattle.std.proofs.Common.{◌≡◌, ℕ, zero, suc, ◌<◌, ◌≤◌, List, [], ◌∷◌, length, get_or, refl, sym, ap, arith}
use Rattle.clc_types.specs.declared.typed.TFunction.{TFunction}
use Rattle.clc_front.specs.Kinds.{kinds_of, kinds_at}

pub kinds_there : (fs : List TFunction) (k : ℕ) (f : TFunction) → k < length fs → f ≡ get_or fs k f → kinds_at fs k ≡ kinds_of f
kinds_there [] k f within e = absurd (omega (arith, within))
kinds_there (x ∷ fs) zero f within e = ap kinds_of (sym e)
kinds_there (x ∷ fs) (suc k) f within e = kinds_there fs k f (omega (arith, within)) e

pub kinds_past : (fs : List TFunction) (k : ℕ) → length fs ≤ k → kinds_at fs k ≡ []
kinds_past [] k past = refl
kinds_past (x ∷ fs) zero past = absurd (omega (arith, past))
kinds_past (x ∷ fs) (suc k) past = kinds_past fs k (omega (arith, past))
