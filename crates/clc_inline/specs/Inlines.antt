-- The body that a kernel is given, within its limits.
use Rattle.std.specs.Prelude.{◌≡◌, ℕ, List, Result, Ok, Err, slice_get}
use Rattle.clc_types.specs.declared.typed.TFunction.{TFunction}
use Rattle.clc_counts.specs.declared.limits.LimitFault.{LimitFault}
use Rattle.clc_counts.specs.Counts.{tally_of}
use Rattle.clc_counts.specs.Limits.{IsWithin, Exceeds}
use Rattle.clc_inline.specs.declared.whole.Body.{Body}
use Rattle.clc_inline.specs.Inlining.{just, inlined, params_in}

-- what a kernel within its limits is inlined to, with its parameters and its number of nodes
pub record IsInlined (functions : List TFunction) (kernel : ℕ) (body : Body) : Type 0 where
  pub made : just body.body body.vars.items ≡ inlined functions kernel
  pub params : body.params ≡ params_in (slice_get functions kernel)
  pub nodes : body.nodes ≡ (tally_of functions kernel).nodes
  pub within : IsWithin (tally_of functions kernel)

abbrev pub Inlines : List TFunction → (kernel : ℕ) → Result Body LimitFault → Type 0
Inlines functions kernel (Ok body) = IsInlined functions kernel body
Inlines functions kernel (Err fault) = Exceeds (tally_of functions kernel) fault
