-- What a `?` hands on, and what a list of functions that was found says.
use Rattle.std.proofs.Common.{◌≡◌, Ok, Err, Result, List, sym, ap, subst}
use Rattle.std.specs.Result.{IsErrAnd}
use Rattle.clc_types.specs.declared.typed.TFunction.{TFunction}
use Rattle.clc_types.specs.declared.typed.Typed.{Typed}
use Rattle.clc_types.specs.declared.typed.TypeFault.{TypeFault}
use Rattle.clc_types.specs.Judged.{Judged, Fine, Faulty}
use Rattle.clc_types.specs.Programs.{Judges}
use Rattle.clc_check.specs.Checked.{functions_in}

pub handed_on : (j : Judged (List TFunction)) (r : Result Typed TypeFault) (e : TypeFault) → IsErrAnd r (λ y. y ≡ e) → Judges j (Err e) → Judges j (functions_in r)
handed_on j (Ok a) e x h = absurd x
handed_on j (Err y) e x h = subst (λ z. Judges j (Err z)) (sym x) h

pub found_fine : (j : Judged (List TFunction)) (functions : List TFunction) → Judges j (Ok functions) → j ≡ Fine functions
found_fine (Fine a) functions h = ap Fine h
found_fine (Faulty f fs) functions h = absurd h
