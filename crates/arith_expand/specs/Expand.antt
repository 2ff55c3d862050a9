-- Quotients and remainders as statements of a batch. The divisor is shifted up to the dividend's length by their leading zeros; a round tries it
-- one place lower, and takes it from what is left where that isn't less. A lane is done once its count is 0, and stays as it is.
use Rattle.std.specs.Prelude.{ℕ, ◌+◌, true, false, List, [], ◌∷◌, ◌++◌}
use Rattle.q_lane.specs.declared.operations.BinOp.TheVariants as op
use Rattle.q_lane.specs.declared.operations.UnOp.TheVariants as one_op
use Rattle.item_ir.specs.declared.form.Val.{Val}
use Rattle.q_functions.specs.declared.functions.WorkFunction.{WorkFunction}
use Rattle.q_functions.specs.declared.functions.WorkFunction.TheVariants.{GlobalSize, LocalSize, NumGroups}
use Rattle.item_ir.specs.declared.form.Def.{Def}
use Rattle.item_ir.specs.declared.form.Def.TheVariants as def
pub use Rattle.lane_ir.specs.Undivided.{is_divided, is_count_free, is_free}
use Rattle.lane_ir.specs.Recipe.{statements, defining}
use Rattle.lane_ir.specs.declared.form.LaneStmt.{LaneStmt}
use Rattle.lane_ir.specs.declared.form.LaneStmt.TheVariants.{Let, WhileAny}
use Rattle.lane_ir.specs.declared.recipe.Source.{Source}
use Rattle.lane_ir.specs.declared.recipe.Source.TheVariants.{Argument, Temp}
use Rattle.lane_ir.specs.declared.recipe.Act.{Act}
use Rattle.lane_ir.specs.declared.recipe.Act.TheVariants.{Const, Two, One, Choose, Size}
use Rattle.lane_ir.specs.declared.recipe.Step.{Step}

-- The temporaries: 0 the divisor, 1 what is left of the dividend, 2 the quotient so far, 3 the count of rounds, 4 one, 5 zero, 6 to 12 of a
-- round, 13 and 14 the signs of the dividend and of the divisor
abbrev pub step : ℕ → Act → Step
step to act = record { to = to; act = act }

abbrev pub divisor : Source
divisor = Temp 0

abbrev pub left : Source
left = Temp 1

abbrev pub quotient : Source
quotient = Temp 2

abbrev pub count : Source
count = Temp 3

abbrev pub one : Source
one = Temp 4

abbrev pub zero : Source
zero = Temp 5

abbrev pub dividend_sign : Source
dividend_sign = Temp 13

abbrev pub divisor_sign : Source
divisor_sign = Temp 14

-- both words as they are
abbrev pub unsigned_words : List Step
unsigned_words = step 4 (Const 1) ∷ step 5 (Const 0) ∷ step 0 (Two op.Add (Argument 1) zero) ∷ step 1 (Two op.Add (Argument 0) zero) ∷ []

-- both words' magnitudes
abbrev pub magnitudes : List Step
magnitudes =
    step 4 (Const 1) ∷ step 5 (Const 0) ∷ step 6 (Const 31) ∷ step 13 (Two op.Shr (Argument 0) (Temp 6)) ∷ step 14 (Two op.Shr (Argument 1) (Temp 6))
    ∷ step 7 (One one_op.Neg (Argument 1)) ∷ step 0 (Choose divisor_sign (Temp 7) (Argument 1))
    ∷ step 7 (One one_op.Neg (Argument 0)) ∷ step 1 (Choose dividend_sign (Temp 7) (Argument 0)) ∷ []

-- the global and the local size of a dimension
abbrev pub sizes : List Step
sizes = step 4 (Const 1) ∷ step 5 (Const 0) ∷ step 0 (Size LocalSize (Argument 0)) ∷ step 1 (Size GlobalSize (Argument 0)) ∷ []

-- the count of rounds
abbrev pub counting : List Step
counting =
    step 6 (One one_op.Clz divisor) ∷ step 7 (One one_op.Clz left) ∷ step 6 (Two op.Sub (Temp 6) (Temp 7)) ∷ step 6 (Two op.Add (Temp 6) one)
    ∷ step 6 (Two (op.Max true) (Temp 6) zero) ∷ step 3 (Choose divisor (Temp 6) zero) ∷ step 2 (Const 0) ∷ []

abbrev pub round : List Step
round =
    step 6 (Two op.Sub count one) ∷ step 7 (Two op.Shl divisor (Temp 6)) ∷ step 8 (Two (op.Less false) left (Temp 7)) ∷ step 9 (Two op.Sub left (Temp 7))
    ∷ step 10 (Two op.Shl one (Temp 6)) ∷ step 11 (Two op.Add quotient (Temp 10)) ∷ step 12 (Choose (Temp 8) zero count)
    ∷ step 1 (Choose (Temp 12) (Temp 9) left) ∷ step 2 (Choose (Temp 12) (Temp 11) quotient) ∷ step 3 (Choose count (Temp 6) count) ∷ []

-- the quotient with its sign, and what is left with the dividend's
abbrev pub signing : List Step
signing = step 6 (Two op.Sub dividend_sign divisor_sign) ∷ step 7 (One one_op.Neg quotient) ∷ []

abbrev pub signing_left : List Step
signing_left = step 7 (One one_op.Neg left) ∷ []

-- k is the first temporary value
abbrev pub division : ℕ → List Val → List Step → List Step → Act → ℕ → List LaneStmt
division k args first then last v =
    statements k args (first ++ counting) ++ (WhileAny [] (record { 0 = k + 3 }) (statements k args round) ∷ defining k args then last v)

abbrev pub expanded_two : ℕ → ℕ → op.the_data → Val → Val → List LaneStmt
expanded_two k v (op.Div false) a b = division k (a ∷ b ∷ []) unsigned_words [] (Two op.Add quotient zero) v
expanded_two k v (op.Div true) a b = division k (a ∷ b ∷ []) magnitudes signing (Choose (Temp 6) (Temp 7) quotient) v
expanded_two k v (op.Rem false) a b = division k (a ∷ b ∷ []) unsigned_words [] (Two op.Add left zero) v
expanded_two k v (op.Rem true) a b = division k (a ∷ b ∷ []) magnitudes signing_left (Choose dividend_sign (Temp 7) left) v
expanded_two k v o a b = Let (record { 0 = v }) (def.Bin o a b) ∷ []

abbrev pub expanded_work : ℕ → ℕ → WorkFunction → Val → List LaneStmt
expanded_work k v NumGroups d = division k (d ∷ []) sizes [] (Two op.Add quotient zero) v
expanded_work k v which d = Let (record { 0 = v }) (def.Work which d) ∷ []

-- what stands for the definition of value v: a quotient, a remainder and a number of groups are divided out, all else stays
abbrev pub expanded : ℕ → ℕ → Def → List LaneStmt
expanded k v (def.Bin o a b) = expanded_two k v o a b
expanded k v (def.Work which d) = expanded_work k v which d
expanded k v d = Let (record { 0 = v }) d ∷ []
