-- Compares, unsigned orders, narrowing and built-in functions as plain operations of a batch.
use Rattle.std.specs.Prelude.{ℕ, zero, suc, ◌-◌, Bool, true, false, List, [], ◌∷◌, ◌++◌, length, nat_lt, if◌then◌else◌, Option, Some, None}
use Rattle.q_lane.specs.declared.kinds.Scalar.{Scalar}
use Rattle.q_lane.specs.declared.kinds.Scalar.TheVariants.{Char, Uchar, Short, Ushort, Int, Uint}
use Rattle.q_lane.specs.declared.operations.BinOp.TheVariants as op
use Rattle.q_lane.specs.declared.operations.UnOp.TheVariants as one_op
use Rattle.q_lane.specs.Numbers.{width}
use Rattle.q_functions.specs.declared.functions.NumberFunction.{NumberFunction}
use Rattle.q_functions.specs.declared.functions.NumberFunction.TheVariants.{Min, Max, Clamp, Abs, AbsDiff, Mul24, MulHi, Rotate, Clz, Popcount, AddSat, SubSat}
use Rattle.q_functions.specs.NumberFunctions.{is_signed}
use Rattle.item_ir.specs.declared.form.Val.{Val}
use Rattle.item_ir.specs.declared.form.Def.{Def}
use Rattle.item_ir.specs.declared.form.Def.TheVariants as def
use Rattle.lane_ir.specs.Recipe.{defining}
use Rattle.lane_ir.specs.declared.form.LaneStmt.{LaneStmt}
use Rattle.lane_ir.specs.declared.form.LaneStmt.TheVariants.{Let}
use Rattle.lane_ir.specs.declared.recipe.Source.{Source}
use Rattle.lane_ir.specs.declared.recipe.Source.TheVariants.{Argument, Temp}
use Rattle.lane_ir.specs.declared.recipe.Act.{Act}
use Rattle.lane_ir.specs.declared.recipe.Act.TheVariants.{Const, Two, One, Choose}
use Rattle.lane_ir.specs.declared.recipe.Step.{Step}

-- steps, and what defines the value after them
pub record Recipe : Type 0 where
  pub steps : List Step
  pub last : Act

abbrev pub step : ℕ → Act → Step
step to act = record { to = to; act = act }

-- a word as it is
abbrev pub copy : Source → Act
copy a = Two (op.Min true) a a

-- ---- orders. To add 2^31 flips a word's top bit, so that the signed order of the sums is the unsigned one of the words

abbrev pub less_signed : Recipe
less_signed = record {
  steps = step 0 (Two (op.Min true) (Argument 0) (Argument 1)) ∷ step 1 (Two op.Sub (Temp 0) (Argument 1)) ∷ step 2 (Const 1) ∷ step 3 (Const 0) ∷ [];
  last = Choose (Temp 1) (Temp 2) (Temp 3);
}

abbrev pub flipped : List Step
flipped = step 0 (Const 2147483648) ∷ step 1 (Two op.Add (Argument 0) (Temp 0)) ∷ step 2 (Two op.Add (Argument 1) (Temp 0)) ∷ []

abbrev pub less_unsigned : Recipe
less_unsigned = record {
  steps = flipped ++ (step 3 (Two (op.Min true) (Temp 1) (Temp 2)) ∷ step 4 (Two op.Sub (Temp 3) (Temp 2)) ∷ step 5 (Const 1) ∷ step 6 (Const 0) ∷ []);
  last = Choose (Temp 4) (Temp 5) (Temp 6);
}

abbrev pub equal : Recipe
equal = record { steps = step 0 (Two op.Sub (Argument 0) (Argument 1)) ∷ step 1 (Const 0) ∷ step 2 (Const 1) ∷ []; last = Choose (Temp 0) (Temp 1) (Temp 2) }

abbrev pub min_unsigned : Recipe
min_unsigned = record { steps = flipped ++ (step 3 (Two (op.Min true) (Temp 1) (Temp 2)) ∷ []); last = Two op.Add (Temp 3) (Temp 0) }

abbrev pub max_unsigned : Recipe
max_unsigned = record { steps = flipped ++ (step 3 (Two (op.Max true) (Temp 1) (Temp 2)) ∷ []); last = Two op.Add (Temp 3) (Temp 0) }

-- ---- narrowing

-- a source as a word of a type becomes a temporary. Temporary 15 is of use here alone
abbrev pub narrow_into : Scalar → ℕ → Source → List Step
narrow_into Char to a = step 15 (Const 24) ∷ step to (Two op.Shl a (Temp 15)) ∷ step to (Two op.Sar (Temp to) (Temp 15)) ∷ []
narrow_into Uchar to a = step 15 (Const 255) ∷ step to (Two op.And a (Temp 15)) ∷ []
narrow_into Short to a = step 15 (Const 16) ∷ step to (Two op.Shl a (Temp 15)) ∷ step to (Two op.Sar (Temp to) (Temp 15)) ∷ []
narrow_into Ushort to a = step 15 (Const 65535) ∷ step to (Two op.And a (Temp 15)) ∷ []
narrow_into Int to a = step to (copy a) ∷ []
narrow_into Uint to a = step to (copy a) ∷ []

abbrev pub narrowing : Scalar → Recipe
narrowing t = record { steps = narrow_into t 0 (Argument 0); last = copy (Temp 0) }

-- ---- the ones of a word: the word less all its halvings

abbrev pub halvings : ℕ → List Step
halvings zero = []
halvings (suc n) = step 4 (Two op.Shr (Temp 4) (Temp 6)) ∷ step 5 (Two op.Sub (Temp 5) (Temp 4)) ∷ halvings n

abbrev pub ones_of : Source → Recipe
ones_of a = record { steps = step 4 (copy a) ∷ step 5 (copy a) ∷ step 6 (Const 1) ∷ halvings 31; last = copy (Temp 5) }

-- ---- built-in functions. Temporaries 0 to 2 are the arguments, read in the type of the work

-- argument i in temporary i; one that isn't there is 0
abbrev pub filled : Scalar → ℕ → ℕ → List Step
filled t count i = if nat_lt i count then narrow_into t i (Argument i) else step i (Const 0) ∷ []

-- the words of a type order as signed words do, but for those of 32 bits without a sign, which are flipped
abbrev pub is_flipped : Scalar → Bool
is_flipped Char = false
is_flipped Uchar = false
is_flipped Short = false
is_flipped Ushort = false
is_flipped Int = false
is_flipped Uint = true

abbrev pub flips : List Step
flips = step 3 (Const 2147483648) ∷ step 0 (Two op.Add (Temp 0) (Temp 3)) ∷ step 1 (Two op.Add (Temp 1) (Temp 3)) ∷ step 2 (Two op.Add (Temp 2) (Temp 3)) ∷ []

abbrev pub in_order : Bool → List Step → List Step
in_order false steps = steps
in_order true steps = flips ++ steps

-- a result that is an element of the order
abbrev pub out_of_order : Bool → Source → Act
out_of_order false a = copy a
out_of_order true a = Two op.Add a (Temp 3)

abbrev pub min_of : Bool → Recipe
min_of b = record { steps = in_order b (step 4 (Two (op.Min true) (Temp 0) (Temp 1)) ∷ []); last = out_of_order b (Temp 4) }

abbrev pub max_of : Bool → Recipe
max_of b = record { steps = in_order b (step 4 (Two (op.Max true) (Temp 0) (Temp 1)) ∷ []); last = out_of_order b (Temp 4) }

abbrev pub clamp_of : Bool → Recipe
clamp_of b = record { steps = in_order b (step 4 (Two (op.Max true) (Temp 0) (Temp 1)) ∷ step 4 (Two (op.Min true) (Temp 4) (Temp 2)) ∷ []); last = out_of_order b (Temp 4) }

abbrev pub abs_of : Bool → Recipe
abs_of true = record { steps = step 4 (One one_op.Neg (Temp 0)) ∷ []; last = Two (op.Max true) (Temp 0) (Temp 4) }
abs_of false = record { steps = []; last = copy (Temp 0) }

abbrev pub abs_diff_of : Bool → Recipe
abs_diff_of b = record { steps = in_order b (step 4 (Two (op.Max true) (Temp 0) (Temp 1)) ∷ step 5 (Two (op.Min true) (Temp 0) (Temp 1)) ∷ []); last = Two op.Sub (Temp 4) (Temp 5) }

abbrev pub mul24_of : Bool → Recipe
mul24_of false = record { steps = []; last = Two op.Mul24 (Temp 0) (Temp 1) }
mul24_of true = record {
  steps = step 3 (Const 8) ∷ step 4 (Two op.Shl (Temp 0) (Temp 3)) ∷ step 4 (Two op.Sar (Temp 4) (Temp 3)) ∷ step 5 (Two op.Shl (Temp 1) (Temp 3)) ∷ step 5 (Two op.Sar (Temp 5) (Temp 3)) ∷ [];
  last = Two op.Mul (Temp 4) (Temp 5);
}

-- the whole product of a narrow type, and the bits by which it is shifted
abbrev pub narrow_product : ℕ → List Step
narrow_product bits = step 3 (Const bits) ∷ step 4 (Two op.Mul (Temp 0) (Temp 1)) ∷ []

abbrev pub mul_hi_of : Scalar → Recipe
mul_hi_of Int = record { steps = []; last = Two (op.MulHi true) (Temp 0) (Temp 1) }
mul_hi_of Uint = record { steps = []; last = Two (op.MulHi false) (Temp 0) (Temp 1) }
mul_hi_of Uchar = record { steps = narrow_product 8; last = Two op.Shr (Temp 4) (Temp 3) }
mul_hi_of Ushort = record { steps = narrow_product 16; last = Two op.Shr (Temp 4) (Temp 3) }
mul_hi_of t = record { steps = narrow_product (width t); last = Two op.Sar (Temp 4) (Temp 3) }

-- the low bits of a source become a temporary
abbrev pub low_into : Scalar → ℕ → Source → List Step
low_into Char to a = step 15 (Const 255) ∷ step to (Two op.And a (Temp 15)) ∷ []
low_into Uchar to a = step 15 (Const 255) ∷ step to (Two op.And a (Temp 15)) ∷ []
low_into Short to a = step 15 (Const 65535) ∷ step to (Two op.And a (Temp 15)) ∷ []
low_into Ushort to a = step 15 (Const 65535) ∷ step to (Two op.And a (Temp 15)) ∷ []
low_into Int to a = step to (copy a) ∷ []
low_into Uint to a = step to (copy a) ∷ []

-- the amount of a turn is n mod w. The bits that leave are those above w - n: shifted down by w - 1 - n, and by one more
abbrev pub rotate_of : Scalar → Recipe
rotate_of t = record {
  steps =
      low_into t 4 (Temp 0)
      ++ (step 5 (Const (width t - 1)) ∷ step 6 (Two op.And (Temp 1) (Temp 5)) ∷ step 7 (Two op.Shl (Temp 4) (Temp 6)) ∷ step 8 (Two op.Sub (Temp 5) (Temp 6))
      ∷ step 8 (Two op.Shr (Temp 4) (Temp 8)) ∷ step 9 (Const 1) ∷ step 8 (Two op.Shr (Temp 8) (Temp 9)) ∷ step 7 (Two op.Add (Temp 7) (Temp 8)) ∷ [])
      ++ narrow_into t 0 (Temp 7);
  last = copy (Temp 0);
}

abbrev pub clz_of : Scalar → Recipe
clz_of t = record { steps = low_into t 4 (Temp 0) ++ (step 5 (Const (32 - width t)) ∷ step 4 (One one_op.Clz (Temp 4)) ∷ []); last = Two op.Sub (Temp 4) (Temp 5) }

abbrev pub popcount_of : Scalar → Recipe
popcount_of t = record { steps = low_into t 0 (Temp 0) ++ (ones_of (Temp 0)).steps; last = (ones_of (Temp 0)).last }

-- the word of the least and of the greatest number of a type
abbrev pub least_word : Scalar → ℕ
least_word Char = 4294967168
least_word Uchar = 0
least_word Short = 4294934528
least_word Ushort = 0
least_word Int = 2147483648
least_word Uint = 0

abbrev pub greatest_word : Scalar → ℕ
greatest_word Char = 127
greatest_word Uchar = 255
greatest_word Short = 32767
greatest_word Ushort = 65535
greatest_word Int = 2147483647
greatest_word Uint = 4294967295

-- a sum or difference of narrow words, which fits into a word, no less than the least
abbrev pub narrow_sum : Scalar → op.the_data → List Step
narrow_sum t o = step 3 (Two o (Temp 0) (Temp 1)) ∷ step 4 (Const (least_word t)) ∷ step 5 (Const (greatest_word t)) ∷ step 3 (Two (op.Max true) (Temp 3) (Temp 4)) ∷ []

-- narrow sums are clamped. In 32 bits the second operand is clamped to what the first one leaves
abbrev pub add_sat_of : Scalar → Recipe
add_sat_of Int = record {
  steps = step 3 (Const 0) ∷ step 4 (Const 2147483648) ∷ step 5 (Const 2147483647) ∷ step 6 (Two (op.Min true) (Temp 0) (Temp 3)) ∷ step 6 (Two op.Sub (Temp 4) (Temp 6))
      ∷ step 7 (Two (op.Max true) (Temp 0) (Temp 3)) ∷ step 7 (Two op.Sub (Temp 5) (Temp 7)) ∷ step 1 (Two (op.Max true) (Temp 1) (Temp 6)) ∷ step 1 (Two (op.Min true) (Temp 1) (Temp 7)) ∷ [];
  last = Two op.Add (Temp 0) (Temp 1);
}
add_sat_of Uint = record {
  steps = step 3 (Const 2147483648) ∷ step 4 (One one_op.Not (Temp 0)) ∷ step 4 (Two op.Add (Temp 4) (Temp 3)) ∷ step 1 (Two op.Add (Temp 1) (Temp 3)) ∷ step 1 (Two (op.Min true) (Temp 1) (Temp 4)) ∷ step 1 (Two op.Add (Temp 1) (Temp 3)) ∷ [];
  last = Two op.Add (Temp 0) (Temp 1);
}
add_sat_of t = record {
  steps = narrow_sum t op.Add;
  last = Two (op.Min true) (Temp 3) (Temp 5);
}

abbrev pub sub_sat_of : Scalar → Recipe
sub_sat_of Int = record {
  steps = step 3 (Const 4294967295) ∷ step 4 (Const 2147483648) ∷ step 5 (Const 2147483647) ∷ step 6 (Two (op.Max true) (Temp 0) (Temp 3)) ∷ step 6 (Two op.Sub (Temp 6) (Temp 5))
      ∷ step 7 (Two (op.Min true) (Temp 0) (Temp 3)) ∷ step 7 (Two op.Sub (Temp 7) (Temp 4)) ∷ step 1 (Two (op.Max true) (Temp 1) (Temp 6)) ∷ step 1 (Two (op.Min true) (Temp 1) (Temp 7)) ∷ [];
  last = Two op.Sub (Temp 0) (Temp 1);
}
sub_sat_of Uint = record {
  steps = step 3 (Const 2147483648) ∷ step 4 (Two op.Add (Temp 0) (Temp 3)) ∷ step 1 (Two op.Add (Temp 1) (Temp 3)) ∷ step 1 (Two (op.Min true) (Temp 1) (Temp 4)) ∷ step 1 (Two op.Add (Temp 1) (Temp 3)) ∷ [];
  last = Two op.Sub (Temp 0) (Temp 1);
}
sub_sat_of t = record {
  steps = narrow_sum t op.Sub;
  last = Two (op.Min true) (Temp 3) (Temp 5);
}

abbrev pub function_recipe : NumberFunction → Scalar → Recipe
function_recipe Min t = min_of (is_flipped t)
function_recipe Max t = max_of (is_flipped t)
function_recipe Clamp t = clamp_of (is_flipped t)
function_recipe Abs t = abs_of (is_signed t)
function_recipe AbsDiff t = abs_diff_of (is_flipped t)
function_recipe Mul24 t = mul24_of (is_signed t)
function_recipe MulHi t = mul_hi_of t
function_recipe Rotate t = rotate_of t
function_recipe Clz t = clz_of t
function_recipe Popcount t = popcount_of t
function_recipe AddSat t = add_sat_of t
function_recipe SubSat t = sub_sat_of t

abbrev pub built_steps : NumberFunction → Scalar → ℕ → List Step
built_steps f t count = filled t count 0 ++ (filled t count 1 ++ (filled t count 2 ++ (function_recipe f t).steps))

abbrev pub lowered_built : ℕ → ℕ → NumberFunction → Scalar → List Val → List LaneStmt
lowered_built k v f t args = defining k args (built_steps f t (length args)) (function_recipe f t).last v

abbrev pub two_recipe : op.the_data → Option Recipe
two_recipe (op.Less true) = Some less_signed
two_recipe (op.Less false) = Some less_unsigned
two_recipe op.Equal = Some equal
two_recipe (op.Min false) = Some min_unsigned
two_recipe (op.Max false) = Some max_unsigned
two_recipe o = None

abbrev pub one_recipe : one_op.the_data → Option Recipe
one_recipe (one_op.Narrow t) = Some (narrowing t)
one_recipe one_op.Popcount = Some (ones_of (Argument 0))
one_recipe o = None

abbrev pub by_recipe : ℕ → ℕ → Def → List Val → Option Recipe → List LaneStmt
by_recipe k v d args None = Let (record { 0 = v }) d ∷ []
by_recipe k v d args (Some r) = defining k args r.steps r.last v

abbrev pub lowered : ℕ → ℕ → Def → List LaneStmt
lowered k v (def.Bin o a b) = by_recipe k v (def.Bin o a b) (a ∷ b ∷ []) (two_recipe o)
lowered k v (def.One o a) = by_recipe k v (def.One o a) (a ∷ []) (one_recipe o)
lowered k v (def.Built f t args) = lowered_built k v f t args
lowered k v d = Let (record { 0 = v }) d ∷ []

-- ---- what is left

abbrev pub is_plain_two : op.the_data → Bool
is_plain_two (op.Less s) = false
is_plain_two op.Equal = false
is_plain_two (op.Min s) = s
is_plain_two (op.Max s) = s
is_plain_two o = true

abbrev pub is_plain_one : one_op.the_data → Bool
is_plain_one (one_op.Narrow t) = false
is_plain_one one_op.Popcount = false
is_plain_one o = true

-- a definition is no compare, no unsigned min or max, no popcount, no narrowing and no built-in function
abbrev pub is_plain : Def → Bool
is_plain (def.Bin o a b) = is_plain_two o
is_plain (def.One o a) = is_plain_one o
is_plain (def.Built f t args) = false
is_plain d = true
