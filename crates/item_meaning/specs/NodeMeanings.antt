-- What each form of expression does with what its parts do. The parts are runs: a definition over a tree says only which parts a node has.
use Rattle.std.specs.Prelude.{ℕ, zero, suc, ◌+◌, Bool, true, false, if◌then◌else◌, List, [], ◌∷◌, map, length, slice_index_or}
use Rattle.clc_lexer.specs.declared.marks.Mark.{Mark}
use Rattle.clc_lexer.specs.declared.marks.Mark.TheVariants as m
use Rattle.q_lane.specs.declared.kinds.Scalar.{Scalar}
use Rattle.q_functions.specs.NumberFunctions.{bytes_of, number_function}
use Rattle.q_functions.specs.WorkFunctions.{work_function}
use Rattle.q_functions.specs.declared.functions.NumberFunction.{NumberFunction}
use Rattle.q_functions.specs.declared.functions.NumberFunction.TheVariants as n
use Rattle.q_functions.specs.declared.functions.WorkFunction.{WorkFunction}
use Rattle.q_functions.specs.declared.functions.WorkFunction.TheVariants as w
use Rattle.q_functions.specs.declared.work.Work.{Work}
use Rattle.clc_types.specs.declared.typed.Builtin.{Builtin}
use Rattle.clc_types.specs.declared.typed.Builtin.TheVariants as b
use Rattle.clc_types.specs.declared.typed.Ty.{Ty}
use Rattle.clc_types.specs.declared.typed.Ty.TheVariants as ty
use Rattle.item_meaning.specs.declared.values.Value.{Value}
use Rattle.item_meaning.specs.declared.values.Value.TheVariants.{Num, Null, At}
use Rattle.item_meaning.specs.ItemState.{State, Run, Goes, Bounds, Spent, then_do, node, nodes, by_truth}
use Rattle.item_meaning.specs.Operators.{scalar_of, prefixed, on_word, truth, forward, combined, converted, operator_in, moved}
use Rattle.item_meaning.specs.Places.{Place, Variable, Cell, Behind, Nowhere, read, write}

-- what evaluating a part does: an expression, a place, a list of arguments
abbrev pub Part : Type 0 → Type 0
Part A = State → Run A

-- ---- places

abbrev pub variable_place : (var : ℕ) → Part Place
variable_place v s = node s (λ t. Goes (Variable v) t)

-- an index begins before its base, and the base before the index's own expression
abbrev pub index_place : (at size : ℕ) → Part Value → Part Value → Part Place
index_place at size base index s =
    node s (λ t. then_do (base t) (λ p u. then_do (index u) (λ n w. Goes (Behind at (forward size p n)) w)))

-- the array's name is a node too
abbrev pub cell_place : (at var : ℕ) → Part Value → Part Place
cell_place at v index s = nodes 2 s (λ t. then_do (index t) (λ n u. Goes (Cell at v n) u))

abbrev pub pointed_place : (at : ℕ) → Part Value → Part Place
pointed_place at pointer s = node s (λ t. then_do (pointer t) (λ p u. Goes (Behind at p) u))

-- a place that stands as a value is read
abbrev pub read_from : Ty → Part Place → Part Value
read_from t place s = then_do (place s) (read t)

-- ---- expressions

abbrev pub number_value : (word : ℕ) → Part Value
number_value w s = node s (λ t. Goes (Num w) t)

abbrev pub prefix_value : Mark → Part Value → Part Value
prefix_value o arg s = node s (λ t. then_do (arg t) (λ x u. Goes (on_word (prefixed o) x) u))

abbrev pub cast_value : Ty → Part Value → Part Value
cast_value t arg s = node s (λ u. then_do (arg u) (λ x w. Goes (converted t x) w))

-- one more or less, for a pointer one element
abbrev pub mark_of_step : Bool → Mark
mark_of_step true = m.Plus
mark_of_step false = m.Minus

abbrev pub stepped : Ty → Bool → Value → Value
stepped t up x = combined t (mark_of_step up) (ty.Value Rattle.q_lane.specs.declared.kinds.Scalar.TheVariants.Int) x (Num 1)

-- the postfix form gives the old value
abbrev pub first_if : Bool → Value → Value → Value
first_if true x y = x
first_if false x y = y

abbrev pub step_value : Ty → (up post : Bool) → Part Place → Part Value
step_value t up post place s =
    node s (λ u. then_do (place u) (λ q w. then_do (read t q w) (λ x y. then_do (write t q (stepped t up x) y) (λ z v. Goes (first_if post x z) v))))

-- the place, then the value, then the store
abbrev pub assign_value : Ty → Part Place → Part Value → Part Value
assign_value t place value s = node s (λ u. then_do (place u) (λ q w. then_do (value w) (λ x y. write t q x y)))

-- the place, its old value, the value, and the store; `from` is the value's type
abbrev pub compound_value : Ty → Mark → (from : Ty) → Part Place → Part Value → Part Value
compound_value t o from place value s =
    node s (λ u. then_do (place u) (λ q w. then_do (read t q w) (λ old y. then_do (value y) (λ x z. write t q (combined t (operator_in o) from old x) z))))

abbrev pub assigned_value : Ty → Mark → (from : Ty) → Part Place → Part Value → Part Value
assigned_value t m.Assign from place value s = assign_value t place value s
assigned_value t o from place value s = compound_value t o from place value s

abbrev pub conditional_value : Part Value → Part Value → Part Value → Part Value
conditional_value cond one other s = node s (λ t. then_do (cond t) (λ x u. by_truth x (one u) (other u)))

-- one operator of a chain, with the value x of type a before it and an operand of type c after it
abbrev pub operator_value : (a : Ty) → Mark → (c : Ty) → Value → Part Value → Part Value
operator_value a m.AndAnd c x operand s = by_truth x (then_do (operand s) (λ y t. Goes (truth y) t)) (Goes (Num 0) s)
operator_value a m.OrOr c x operand s = by_truth x (Goes (Num 1) s) (then_do (operand s) (λ y t. Goes (truth y) t))
operator_value a m.Comma c x operand s = operand s
operator_value a o c x operand s = then_do (operand s) (λ y t. Goes (combined a o c x y) t)

-- all operators of a chain begin, the last one first, before its first operand does
abbrev pub chain_value : (operators : ℕ) → Part Value → (Value → Part Value) → Part Value
chain_value n first rest s = nodes n s (λ t. then_do (first t) rest)

-- ---- built-in functions

-- one that asks about the work-item, or one of numbers
pub data Function : Type 0 where
  OfWork : WorkFunction → Function
  OfNumbers : NumberFunction → Function

abbrev pub function_of : Builtin → Function
function_of b.GetWorkDim = OfWork w.WorkDim
function_of b.GetGlobalId = OfWork w.GlobalId
function_of b.GetGlobalSize = OfWork w.GlobalSize
function_of b.GetLocalId = OfWork w.LocalId
function_of b.GetLocalSize = OfWork w.LocalSize
function_of b.GetGroupId = OfWork w.GroupId
function_of b.GetNumGroups = OfWork w.NumGroups
function_of b.Min = OfNumbers n.Min
function_of b.Max = OfNumbers n.Max
function_of b.Clamp = OfNumbers n.Clamp
function_of b.Abs = OfNumbers n.Abs
function_of b.AbsDiff = OfNumbers n.AbsDiff
function_of b.Mul24 = OfNumbers n.Mul24
function_of b.MulHi = OfNumbers n.MulHi
function_of b.Rotate = OfNumbers n.Rotate
function_of b.Clz = OfNumbers n.Clz
function_of b.Popcount = OfNumbers n.Popcount
function_of b.AddSat = OfNumbers n.AddSat
function_of b.SubSat = OfNumbers n.SubSat

-- on the words of these values, all of which are numbers in a typed tree
abbrev pub with_words : List Value → (List ℕ → Value) → Value
with_words [] go = go []
with_words (Num a ∷ xs) go = with_words xs (λ ws. go (a ∷ ws))
with_words (Null ∷ xs) go = Null
with_words (At k o ∷ xs) go = Null

-- the first word, or 0 where there is none
abbrev pub first_word : List ℕ → ℕ
first_word [] = 0
first_word (x ∷ xs) = x

abbrev pub applied_to : Work → Function → Scalar → List ℕ → ℕ
applied_to work (OfWork which) t xs = work_function which work (first_word xs)
applied_to work (OfNumbers which) t xs = number_function which t xs

-- it works in type t, to which its arguments are converted: that changes no word, since they have this type already or it is int or uint
abbrev pub builtin_value : Work → Builtin → Scalar → Part (List Value) → Part Value
builtin_value work which t args s = node s (λ u. then_do (args u) (λ xs v. Goes (with_words xs (λ ws. Num (applied_to work (function_of which) t ws))) v))

-- ---- calls

-- arguments are evaluated in order
abbrev pub no_values : Part (List Value)
no_values s = Goes [] s

abbrev pub and_values : Part Value → Part (List Value) → Part (List Value)
and_values first rest s = then_do (first s) (λ x t. then_do (rest t) (λ xs u. Goes (x ∷ xs) u))

abbrev pub call_value : Part (List Value) → (List Value → Part Value) → Part Value
call_value args body s = node s (λ t. then_do (args t) body)
