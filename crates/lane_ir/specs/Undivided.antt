-- Definitions that are no division.
use Rattle.std.specs.Prelude.{Bool, true, false}
use Rattle.q_lane.specs.declared.operations.BinOp.TheVariants as op
use Rattle.q_functions.specs.declared.functions.WorkFunction.{WorkFunction}
use Rattle.q_functions.specs.declared.functions.WorkFunction.TheVariants.{NumGroups}
use Rattle.item_ir.specs.declared.form.Def.{Def}
use Rattle.item_ir.specs.declared.form.Def.TheVariants as def

-- no quotient, no remainder, and no number of groups
abbrev pub is_divided : op.the_data → Bool
is_divided (op.Div s) = false
is_divided (op.Rem s) = false
is_divided o = true

abbrev pub is_count_free : WorkFunction → Bool
is_count_free NumGroups = false
is_count_free which = true

abbrev pub is_free : Def → Bool
is_free (def.Bin o a b) = is_divided o
is_free (def.Work which d) = is_count_free which
is_free d = true
