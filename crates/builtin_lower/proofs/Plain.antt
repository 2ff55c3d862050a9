-- What is left after the pass.
use Rattle.std.proofs.Common.{◌≡◌, ℕ, ◌+◌, Bool, true, false, List, [], ◌∷◌, ◌++◌, length, refl}
use Rattle.std.specs.Prelude.{◌&&◌, nat_lt, if◌then◌else◌}
use Rattle.std.proofs.lemmas.Bool.{and_from, and_parts}
use Rattle.q_lane.specs.declared.kinds.Scalar.{Scalar}
use Rattle.q_lane.specs.declared.kinds.Scalar.TheVariants.{Char, Uchar, Short, Ushort, Int, Uint}
use Rattle.q_lane.specs.declared.operations.BinOp.TheVariants as op
use Rattle.q_lane.specs.declared.operations.UnOp.TheVariants as one_op
use Rattle.q_functions.specs.declared.functions.NumberFunction.{NumberFunction}
use Rattle.q_functions.specs.declared.functions.NumberFunction.TheVariants.{Min, Max, Clamp, Abs, AbsDiff, Mul24, MulHi, Rotate, Clz, Popcount, AddSat, SubSat}
use Rattle.item_ir.specs.declared.form.Val.{Val}
use Rattle.item_ir.specs.declared.form.Def.{Def}
use Rattle.item_ir.specs.declared.form.Def.TheVariants as def
use Rattle.lane_ir.specs.Kept.{rewritten_all, each_def_all}
use Rattle.lane_ir.specs.Recipe.{statements, defining}
use Rattle.lane_ir.specs.declared.form.LaneStmt.{LaneStmt}
use Rattle.lane_ir.specs.declared.recipe.Act.{Act}
use Rattle.lane_ir.specs.declared.recipe.Act.TheVariants.{Const, Two, One, Choose, Size, Flat, Items}
use Rattle.lane_ir.specs.declared.recipe.Source.TheVariants.{Argument}
use Rattle.lane_ir.specs.declared.recipe.Step.{Step}
use Rattle.lane_ir.proofs.Definitions.{each_def-append, all_made}
use Rattle.builtin_lower.specs.Lower.{step, narrow_into, filled, function_recipe, built_steps, lowered, by_recipe, two_recipe, one_recipe, is_plain, is_plain_two, is_plain_one}

-- the same of an act
abbrev plain_act : Act → Bool
plain_act (Two o a b) = is_plain_two o
plain_act (One o a) = is_plain_one o
plain_act a = true

abbrev plain_steps : List Step → Bool
plain_steps [] = true
plain_steps (s ∷ rest) = plain_act s.act && plain_steps rest

plain-append : (a b : List Step) → plain_steps a ≡ true → plain_steps b ≡ true → plain_steps (a ++ b) ≡ true
plain-append [] b h g = g
plain-append (s ∷ a) b h g = let p = and_parts (plain_act s.act) (plain_steps a) h in and_from (plain_act s.act) (plain_steps (a ++ b)) p.0 (plain-append a b p.1 g)

module _ (k : ℕ) (args : List Val) where
  act_plain : (v : ℕ) (a : Act) → plain_act a ≡ true → each_def_all is_plain (defining k args [] a v) ≡ true
  act_plain v (Const x) h = refl
  act_plain v (Two o a b) h = and_from (is_plain_two o) true h refl
  act_plain v (One o a) h = and_from (is_plain_one o) true h refl
  act_plain v (Choose a b c) h = refl
  act_plain v (Size q d) h = refl
  act_plain v Flat h = refl
  act_plain v Items h = refl

  steps_plain : (steps : List Step) → plain_steps steps ≡ true → each_def_all is_plain (statements k args steps) ≡ true
  steps_plain [] h = refl
  steps_plain (s ∷ rest) h =
      let p = and_parts (plain_act s.act) (plain_steps rest) h in
      each_def-append is_plain (defining k args [] s.act (k + s.to)) (statements k args rest) (act_plain (k + s.to) s.act p.0) (steps_plain rest p.1)

  recipe_plain : (v : ℕ) (steps : List Step) (last : Act) → plain_steps steps ≡ true → plain_act last ≡ true → each_def_all is_plain (defining k args steps last v) ≡ true
  recipe_plain v steps last h g = each_def-append is_plain (statements k args steps) (defining k args [] last v) (steps_plain steps h) (act_plain v last g)

narrow_plain : (t : Scalar) (i : ℕ) → plain_steps (narrow_into t i (Argument i)) ≡ true
narrow_plain Char i = refl
narrow_plain Uchar i = refl
narrow_plain Short i = refl
narrow_plain Ushort i = refl
narrow_plain Int i = refl
narrow_plain Uint i = refl

fill_plain : (t : Scalar) (count i : ℕ) → plain_steps (filled t count i) ≡ true
fill_plain t count i = either (nat_lt i count)
  where
    either : (b : Bool) → plain_steps (if b then narrow_into t i (Argument i) else step i (Const 0) ∷ []) ≡ true
    either true = narrow_plain t i
    either false = refl

function_plain : (f : NumberFunction) (t : Scalar) → (plain_steps (function_recipe f t).steps ≡ true) × (plain_act (function_recipe f t).last ≡ true)
function_plain Min Char = (refl, refl)
function_plain Min Uchar = (refl, refl)
function_plain Min Short = (refl, refl)
function_plain Min Ushort = (refl, refl)
function_plain Min Int = (refl, refl)
function_plain Min Uint = (refl, refl)
function_plain Max Char = (refl, refl)
function_plain Max Uchar = (refl, refl)
function_plain Max Short = (refl, refl)
function_plain Max Ushort = (refl, refl)
function_plain Max Int = (refl, refl)
function_plain Max Uint = (refl, refl)
function_plain Clamp Char = (refl, refl)
function_plain Clamp Uchar = (refl, refl)
function_plain Clamp Short = (refl, refl)
function_plain Clamp Ushort = (refl, refl)
function_plain Clamp Int = (refl, refl)
function_plain Clamp Uint = (refl, refl)
function_plain Abs Char = (refl, refl)
function_plain Abs Uchar = (refl, refl)
function_plain Abs Short = (refl, refl)
function_plain Abs Ushort = (refl, refl)
function_plain Abs Int = (refl, refl)
function_plain Abs Uint = (refl, refl)
function_plain AbsDiff Char = (refl, refl)
function_plain AbsDiff Uchar = (refl, refl)
function_plain AbsDiff Short = (refl, refl)
function_plain AbsDiff Ushort = (refl, refl)
function_plain AbsDiff Int = (refl, refl)
function_plain AbsDiff Uint = (refl, refl)
function_plain Mul24 Char = (refl, refl)
function_plain Mul24 Uchar = (refl, refl)
function_plain Mul24 Short = (refl, refl)
function_plain Mul24 Ushort = (refl, refl)
function_plain Mul24 Int = (refl, refl)
function_plain Mul24 Uint = (refl, refl)
function_plain MulHi Char = (refl, refl)
function_plain MulHi Uchar = (refl, refl)
function_plain MulHi Short = (refl, refl)
function_plain MulHi Ushort = (refl, refl)
function_plain MulHi Int = (refl, refl)
function_plain MulHi Uint = (refl, refl)
function_plain Rotate Char = (refl, refl)
function_plain Rotate Uchar = (refl, refl)
function_plain Rotate Short = (refl, refl)
function_plain Rotate Ushort = (refl, refl)
function_plain Rotate Int = (refl, refl)
function_plain Rotate Uint = (refl, refl)
function_plain Clz Char = (refl, refl)
function_plain Clz Uchar = (refl, refl)
function_plain Clz Short = (refl, refl)
function_plain Clz Ushort = (refl, refl)
function_plain Clz Int = (refl, refl)
function_plain Clz Uint = (refl, refl)
function_plain Popcount Char = (refl, refl)
function_plain Popcount Uchar = (refl, refl)
function_plain Popcount Short = (refl, refl)
function_plain Popcount Ushort = (refl, refl)
function_plain Popcount Int = (refl, refl)
function_plain Popcount Uint = (refl, refl)
function_plain AddSat Char = (refl, refl)
function_plain AddSat Uchar = (refl, refl)
function_plain AddSat Short = (refl, refl)
function_plain AddSat Ushort = (refl, refl)
function_plain AddSat Int = (refl, refl)
function_plain AddSat Uint = (refl, refl)
function_plain SubSat Char = (refl, refl)
function_plain SubSat Uchar = (refl, refl)
function_plain SubSat Short = (refl, refl)
function_plain SubSat Ushort = (refl, refl)
function_plain SubSat Int = (refl, refl)
function_plain SubSat Uint = (refl, refl)

built_plain : (k v : ℕ) (args : List Val) (f : NumberFunction) (t : Scalar) → each_def_all is_plain (defining k args (built_steps f t (length args)) (function_recipe f t).last v) ≡ true
built_plain k v args f t =
    let n = length args in
    let own = function_plain f t in
    recipe_plain k args v (built_steps f t n) (function_recipe f t).last
    (plain-append (filled t n 0) (filled t n 1 ++ (filled t n 2 ++ (function_recipe f t).steps)) (fill_plain t n 0)
    (plain-append (filled t n 1) (filled t n 2 ++ (function_recipe f t).steps) (fill_plain t n 1)
    (plain-append (filled t n 2) (function_recipe f t).steps (fill_plain t n 2) own.0)))
    own.1

two_plain : (k v : ℕ) (o : op.the_data) (a b : Val) → each_def_all is_plain (by_recipe k v (def.Bin o a b) (a ∷ b ∷ []) (two_recipe o)) ≡ true
two_plain k v (op.Less true) a b = refl
two_plain k v (op.Less false) a b = refl
two_plain k v op.Equal a b = refl
two_plain k v (op.Min true) a b = refl
two_plain k v (op.Min false) a b = refl
two_plain k v (op.Max true) a b = refl
two_plain k v (op.Max false) a b = refl
two_plain k v o a b = refl

one_plain : (k v : ℕ) (o : one_op.the_data) (a : Val) → each_def_all is_plain (by_recipe k v (def.One o a) (a ∷ []) (one_recipe o)) ≡ true
one_plain k v (one_op.Narrow Char) a = refl
one_plain k v (one_op.Narrow Uchar) a = refl
one_plain k v (one_op.Narrow Short) a = refl
one_plain k v (one_op.Narrow Ushort) a = refl
one_plain k v (one_op.Narrow Int) a = refl
one_plain k v (one_op.Narrow Uint) a = refl
one_plain k v one_op.Popcount a = refl
one_plain k v o a = refl

def_plain : (k v : ℕ) (d : Def) → each_def_all is_plain (lowered k v d) ≡ true
def_plain k v (def.Bin o a b) = two_plain k v o a b
def_plain k v (def.One o a) = one_plain k v o a
def_plain k v (def.Built f t args) = built_plain k v args f t
def_plain k v d = refl

pub all_plain : (k : ℕ) (l : List LaneStmt) → each_def_all is_plain (rewritten_all (lowered k) l) ≡ true
all_plain k l = all_made is_plain (lowered k) (def_plain k) l
