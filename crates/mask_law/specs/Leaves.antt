-- The law of masking for ids and for accesses.
use Rattle.std.specs.Prelude.{◌≡◌, ℕ, false}
use Rattle.q_lane.specs.declared.kinds.Scalar.{Scalar}
use Rattle.q_functions.specs.declared.functions.WorkFunction.{WorkFunction}
use Rattle.item_ir.specs.declared.form.Val.{Val}
use Rattle.item_ir.specs.declared.form.Def.TheVariants as d
use Rattle.item_ir.specs.declared.form.Stmt.TheVariants.{Let, Store, SetElement, Clear}
use Rattle.mask_law.specs.Leave.{IsMasked}
use Rattle.mask_law.specs.Define.{is_same_to_all}

abbrev pub IdsMasked : Type 0
IdsMasked = (x : Val) (which : WorkFunction) (dim : Val) → is_same_to_all which ≡ false → IsMasked (Let x (d.Work which dim))

abbrev pub LoadsMasked : Type 0
LoadsMasked = (x : Val) (t : Scalar) (a : Val) → IsMasked (Let x (d.Load t a))

abbrev pub ElementsMasked : Type 0
ElementsMasked = (x : Val) (r : ℕ) (i : Val) → IsMasked (Let x (d.Element r i))

abbrev pub SetElementsMasked : Type 0
SetElementsMasked = (r : ℕ) (i x : Val) → IsMasked (SetElement r i x)

abbrev pub ClearsMasked : Type 0
ClearsMasked = (r : ℕ) → IsMasked (Clear r)

abbrev pub StoresMasked : Type 0
StoresMasked = (t : Scalar) (a x : Val) → IsMasked (Store t a x)
