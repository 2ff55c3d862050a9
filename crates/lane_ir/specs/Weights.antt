-- How many plain operations a definition becomes: of its text, and done at most each time that it is met. A plain operation is one that the
-- processor does itself.
use Rattle.std.specs.Prelude.{ℕ, ◌+◌, ◌*◌, true, false}
use Rattle.q_lane.specs.declared.operations.BinOp.{BinOp}
use Rattle.q_lane.specs.declared.operations.BinOp.TheVariants.{Div, Rem, Min, Max, Less, Equal}
use Rattle.q_lane.specs.declared.operations.UnOp.{UnOp}
use Rattle.q_lane.specs.declared.operations.UnOp.TheVariants.{Popcount, Narrow}
use Rattle.q_functions.specs.declared.functions.WorkFunction.{WorkFunction}
use Rattle.q_functions.specs.declared.functions.WorkFunction.TheVariants.{NumGroups}
use Rattle.item_ir.specs.declared.form.Def.{Def}
use Rattle.item_ir.specs.declared.form.Def.TheVariants.{Const, Param, Work, Get, Bin, One, Built, Choose, Load, Element, Flat, Items}

-- of a quotient or a remainder: those of a round, of which at most 32 are done, those of its text, and those done
abbrev pub round_ops : ℕ
round_ops = 24

abbrev pub division_ops : ℕ
division_ops = 40

abbrev pub division_done : ℕ
division_done = 40 + 32 * 24

abbrev pub two_ops : BinOp → ℕ
two_ops (Div s) = 40
two_ops (Rem s) = 40
two_ops (Min false) = 8
two_ops (Max false) = 8
two_ops (Less true) = 8
two_ops (Less false) = 8
two_ops Equal = 4
two_ops op = 1

abbrev pub one_ops : UnOp → ℕ
one_ops Popcount = 72
one_ops (Narrow t) = 5
one_ops op = 1

-- the operations done
abbrev pub two_done : BinOp → ℕ
two_done (Div s) = division_done
two_done (Rem s) = division_done
two_done op = two_ops op

abbrev pub work_done : WorkFunction → ℕ
work_done NumGroups = 2 + division_done
work_done which = 8

abbrev pub done : Def → ℕ
done (Const x) = 1
done (Param p) = 1
done (Work which d) = work_done which
done (Get x) = 1
done (Bin op a b) = two_done op
done (One op a) = one_ops op
done (Built n t args) = 96
done (Choose c a b) = 1
done (Load t a) = 1
done (Element a i) = 1
done Flat = 1
done Items = 1

-- a test of a loop
abbrev pub test_done : ℕ
test_done = 1
