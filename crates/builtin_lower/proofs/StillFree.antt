-- The pass brings back no division.
use Rattle.std.proofs.Common.{◌≡◌, ℕ, ◌+◌, Bool, true, false, List, [], ◌∷◌, ◌++◌, length, refl}
use Rattle.std.specs.Prelude.{◌&&◌, nat_lt, if◌then◌else◌}
use Rattle.std.proofs.lemmas.Bool.{and_from, and_parts}
use Rattle.q_lane.specs.declared.kinds.Scalar.{Scalar}
use Rattle.q_lane.specs.declared.kinds.Scalar.TheVariants.{Char, Uchar, Short, Ushort, Int, Uint}
use Rattle.q_lane.specs.declared.operations.BinOp.TheVariants as op
use Rattle.q_lane.specs.declared.operations.UnOp.TheVariants as one_op
use Rattle.q_functions.specs.declared.functions.NumberFunction.{NumberFunction}
use Rattle.q_functions.specs.declared.functions.NumberFunction.TheVariants.{Min, Max, Clamp, Abs, AbsDiff, Mul24, MulHi, Rotate, Clz, Popcount, AddSat, SubSat}
use Rattle.item_ir.specs.declared.form.Val.{Val}
use Rattle.item_ir.specs.declared.form.Def.{Def}
use Rattle.item_ir.specs.declared.form.Def.TheVariants as def
use Rattle.lane_ir.specs.Kept.{rewritten_all, each_def_all}
use Rattle.lane_ir.specs.Recipe.{statements, defining}
use Rattle.lane_ir.specs.declared.form.LaneStmt.{LaneStmt}
use Rattle.lane_ir.specs.declared.recipe.Act.{Act}
use Rattle.lane_ir.specs.declared.recipe.Act.TheVariants.{Const, Two, One, Choose, Size, Flat, Items}
use Rattle.lane_ir.specs.declared.recipe.Source.TheVariants.{Argument}
use Rattle.lane_ir.specs.declared.recipe.Step.{Step}
use Rattle.lane_ir.proofs.Definitions.{each_def-append, all_left}
use Rattle.builtin_lower.specs.Lower.{step, narrow_into, filled, function_recipe, built_steps, lowered, by_recipe, two_recipe, one_recipe}
use Rattle.lane_ir.specs.Undivided.{is_free, is_divided, is_count_free}

-- the same of an act
abbrev free_act : Act → Bool
free_act (Two o a b) = is_divided o
free_act (Size which d) = is_count_free which
free_act a = true

abbrev free_steps : List Step → Bool
free_steps [] = true
free_steps (s ∷ rest) = free_act s.act && free_steps rest

free-append : (a b : List Step) → free_steps a ≡ true → free_steps b ≡ true → free_steps (a ++ b) ≡ true
free-append [] b h g = g
free-append (s ∷ a) b h g = let p = and_parts (free_act s.act) (free_steps a) h in and_from (free_act s.act) (free_steps (a ++ b)) p.0 (free-append a b p.1 g)

module _ (k : ℕ) (args : List Val) where
  act_free : (v : ℕ) (a : Act) → free_act a ≡ true → each_def_all is_free (defining k args [] a v) ≡ true
  act_free v (Const x) h = refl
  act_free v (Two o a b) h = and_from (is_divided o) true h refl
  act_free v (One o a) h = refl
  act_free v (Choose a b c) h = refl
  act_free v (Size q d) h = and_from (is_count_free q) true h refl
  act_free v Flat h = refl
  act_free v Items h = refl

  steps_free : (steps : List Step) → free_steps steps ≡ true → each_def_all is_free (statements k args steps) ≡ true
  steps_free [] h = refl
  steps_free (s ∷ rest) h =
      let p = and_parts (free_act s.act) (free_steps rest) h in
      each_def-append is_free (defining k args [] s.act (k + s.to)) (statements k args rest) (act_free (k + s.to) s.act p.0) (steps_free rest p.1)

  recipe_free : (v : ℕ) (steps : List Step) (last : Act) → free_steps steps ≡ true → free_act last ≡ true → each_def_all is_free (defining k args steps last v) ≡ true
  recipe_free v steps last h g = each_def-append is_free (statements k args steps) (defining k args [] last v) (steps_free steps h) (act_free v last g)

narrow_free : (t : Scalar) (i : ℕ) → free_steps (narrow_into t i (Argument i)) ≡ true
narrow_free Char i = refl
narrow_free Uchar i = refl
narrow_free Short i = refl
narrow_free Ushort i = refl
narrow_free Int i = refl
narrow_free Uint i = refl

fill_free : (t : Scalar) (count i : ℕ) → free_steps (filled t count i) ≡ true
fill_free t count i = either (nat_lt i count)
  where
    either : (b : Bool) → free_steps (if b then narrow_into t i (Argument i) else step i (Const 0) ∷ []) ≡ true
    either true = narrow_free t i
    either false = refl

function_free : (f : NumberFunction) (t : Scalar) → (free_steps (function_recipe f t).steps ≡ true) × (free_act (function_recipe f t).last ≡ true)
function_free Min Char = (refl, refl)
function_free Min Uchar = (refl, refl)
function_free Min Short = (refl, refl)
function_free Min Ushort = (refl, refl)
function_free Min Int = (refl, refl)
function_free Min Uint = (refl, refl)
function_free Max Char = (refl, refl)
function_free Max Uchar = (refl, refl)
function_free Max Short = (refl, refl)
function_free Max Ushort = (refl, refl)
function_free Max Int = (refl, refl)
function_free Max Uint = (refl, refl)
function_free Clamp Char = (refl, refl)
function_free Clamp Uchar = (refl, refl)
function_free Clamp Short = (refl, refl)
function_free Clamp Ushort = (refl, refl)
function_free Clamp Int = (refl, refl)
function_free Clamp Uint = (refl, refl)
function_free Abs Char = (refl, refl)
function_free Abs Uchar = (refl, refl)
function_free Abs Short = (refl, refl)
function_free Abs Ushort = (refl, refl)
function_free Abs Int = (refl, refl)
function_free Abs Uint = (refl, refl)
function_free AbsDiff Char = (refl, refl)
function_free AbsDiff Uchar = (refl, refl)
function_free AbsDiff Short = (refl, refl)
function_free AbsDiff Ushort = (refl, refl)
function_free AbsDiff Int = (refl, refl)
function_free AbsDiff Uint = (refl, refl)
function_free Mul24 Char = (refl, refl)
function_free Mul24 Uchar = (refl, refl)
function_free Mul24 Short = (refl, refl)
function_free Mul24 Ushort = (refl, refl)
function_free Mul24 Int = (refl, refl)
function_free Mul24 Uint = (refl, refl)
function_free MulHi Char = (refl, refl)
function_free MulHi Uchar = (refl, refl)
function_free MulHi Short = (refl, refl)
function_free MulHi Ushort = (refl, refl)
function_free MulHi Int = (refl, refl)
function_free MulHi Uint = (refl, refl)
function_free Rotate Char = (refl, refl)
function_free Rotate Uchar = (refl, refl)
function_free Rotate Short = (refl, refl)
function_free Rotate Ushort = (refl, refl)
function_free Rotate Int = (refl, refl)
function_free Rotate Uint = (refl, refl)
function_free Clz Char = (refl, refl)
function_free Clz Uchar = (refl, refl)
function_free Clz Short = (refl, refl)
function_free Clz Ushort = (refl, refl)
function_free Clz Int = (refl, refl)
function_free Clz Uint = (refl, refl)
function_free Popcount Char = (refl, refl)
function_free Popcount Uchar = (refl, refl)
function_free Popcount Short = (refl, refl)
function_free Popcount Ushort = (refl, refl)
function_free Popcount Int = (refl, refl)
function_free Popcount Uint = (refl, refl)
function_free AddSat Char = (refl, refl)
function_free AddSat Uchar = (refl, refl)
function_free AddSat Short = (refl, refl)
function_free AddSat Ushort = (refl, refl)
function_free AddSat Int = (refl, refl)
function_free AddSat Uint = (refl, refl)
function_free SubSat Char = (refl, refl)
function_free SubSat Uchar = (refl, refl)
function_free SubSat Short = (refl, refl)
function_free SubSat Ushort = (refl, refl)
function_free SubSat Int = (refl, refl)
function_free SubSat Uint = (refl, refl)

built_free : (k v : ℕ) (args : List Val) (f : NumberFunction) (t : Scalar) → each_def_all is_free (defining k args (built_steps f t (length args)) (function_recipe f t).last v) ≡ true
built_free k v args f t =
    let n = length args in
    let own = function_free f t in
    recipe_free k args v (built_steps f t n) (function_recipe f t).last
    (free-append (filled t n 0) (filled t n 1 ++ (filled t n 2 ++ (function_recipe f t).steps)) (fill_free t n 0)
    (free-append (filled t n 1) (filled t n 2 ++ (function_recipe f t).steps) (fill_free t n 1)
    (free-append (filled t n 2) (function_recipe f t).steps (fill_free t n 2) own.0)))
    own.1

two_free : (k v : ℕ) (o : op.the_data) (a b : Val) → is_divided o ≡ true → each_def_all is_free (by_recipe k v (def.Bin o a b) (a ∷ b ∷ []) (two_recipe o)) ≡ true
two_free k v (op.Less true) a b h = refl
two_free k v (op.Less false) a b h = refl
two_free k v op.Equal a b h = refl
two_free k v (op.Min true) a b h = refl
two_free k v (op.Min false) a b h = refl
two_free k v (op.Max true) a b h = refl
two_free k v (op.Max false) a b h = refl
two_free k v o a b h = and_from (is_divided o) true h refl

one_free : (k v : ℕ) (o : one_op.the_data) (a : Val) → each_def_all is_free (by_recipe k v (def.One o a) (a ∷ []) (one_recipe o)) ≡ true
one_free k v (one_op.Narrow Char) a = refl
one_free k v (one_op.Narrow Uchar) a = refl
one_free k v (one_op.Narrow Short) a = refl
one_free k v (one_op.Narrow Ushort) a = refl
one_free k v (one_op.Narrow Int) a = refl
one_free k v (one_op.Narrow Uint) a = refl
one_free k v one_op.Popcount a = refl
one_free k v o a = refl

def_free : (k v : ℕ) (d : Def) → is_free d ≡ true → each_def_all is_free (lowered k v d) ≡ true
def_free k v (def.Bin o a b) h = two_free k v o a b h
def_free k v (def.One o a) h = one_free k v o a
def_free k v (def.Built f t args) h = built_free k v args f t
def_free k v d h = and_from (is_free d) true h refl

pub still_free : (k : ℕ) (l : List LaneStmt) → each_def_all is_free l ≡ true → each_def_all is_free (rewritten_all (lowered k) l) ≡ true
still_free k l h = all_left is_free is_free (lowered k) (def_free k) l h
