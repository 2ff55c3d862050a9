-- The law of masking for values that no access gives.
use Rattle.std.specs.Prelude.{◌≡◌, Bool, true, false}
use Rattle.q_functions.specs.declared.functions.WorkFunction.{WorkFunction}
use Rattle.q_functions.specs.declared.functions.WorkFunction.TheVariants.{GlobalId, LocalId, GroupId}
use Rattle.item_ir.specs.declared.form.Val.{Val}
use Rattle.item_ir.specs.declared.form.Def.{Def}
use Rattle.item_ir.specs.declared.form.Def.TheVariants as d
use Rattle.item_ir.specs.declared.form.Stmt.TheVariants.{Let}
use Rattle.mask_law.specs.Leave.{IsMasked}

abbrev pub is_same_to_all : WorkFunction → Bool
is_same_to_all GlobalId = false
is_same_to_all LocalId = false
is_same_to_all GroupId = false
is_same_to_all which = true

-- neither an id nor an access
abbrev pub is_plain : Def → Bool
is_plain (d.Work which dim) = is_same_to_all which
is_plain (d.Load t a) = false
is_plain (d.Element r i) = false
is_plain e = true

abbrev pub Defines : Type 0
Defines = (x : Val) (e : Def) → is_plain e ≡ true → IsMasked (Let x e)
