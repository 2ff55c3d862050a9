-- The result of the pass names only what is there, with sixteen more values.
use Rattle.std.proofs.Common.{◌≡◌, ℕ, Bool, true, false, List, [], ◌∷◌, ◌++◌, length, refl, arith, Option, Some, None}
use Rattle.std.specs.Prelude.{◌&&◌, nat_lt, if◌then◌else◌}
use Rattle.std.proofs.lemmas.Bool.{and_parts, ltb-true}
use Rattle.q_lane.specs.declared.kinds.Scalar.{Scalar}
use Rattle.q_lane.specs.declared.kinds.Scalar.TheVariants.{Char, Uchar, Short, Ushort, Int, Uint}
use Rattle.q_lane.specs.declared.operations.BinOp.TheVariants as op
use Rattle.q_lane.specs.declared.operations.UnOp.TheVariants as one_op
use Rattle.q_functions.specs.declared.functions.NumberFunction.{NumberFunction}
use Rattle.q_functions.specs.declared.functions.NumberFunction.TheVariants.{Min, Max, Clamp, Abs, AbsDiff, Mul24, MulHi, Rotate, Clz, Popcount, AddSat, SubSat}
use Rattle.item_ir.specs.declared.form.Val.{Val}
use Rattle.item_ir.specs.declared.form.Def.{Def}
use Rattle.item_ir.specs.declared.form.Def.TheVariants as def
use Rattle.lane_ir.specs.Valid.{Counts, is_val, are_vals, is_def, is_body, more}
use Rattle.lane_ir.specs.Kept.{rewritten_all}
use Rattle.lane_ir.specs.declared.form.LaneStmt.{LaneStmt}
use Rattle.lane_ir.specs.declared.recipe.Act.TheVariants.{Const}
use Rattle.lane_ir.specs.declared.recipe.Source.TheVariants.{Argument}
use Rattle.lane_ir.proofs.Recipes.{Low}
use Rattle.lane_ir.proofs.ValidRewrites.{all_valid, in_act, in_steps, in_steps-append, recipe_valid, low_vals, low_one, low_two, let_valid}
use Rattle.builtin_lower.specs.Lower.{Recipe, step, narrow_into, filled, function_recipe, built_steps, lowered_built, lowered, by_recipe, two_recipe, one_recipe}

abbrev in_recipe : Option Recipe → Bool
in_recipe None = true
in_recipe (Some r) = in_steps 16 r.steps && in_act 16 r.last

two_in : (o : op.the_data) → in_recipe (two_recipe o) ≡ true
two_in (op.Less true) = refl
two_in (op.Less false) = refl
two_in op.Equal = refl
two_in (op.Min true) = refl
two_in (op.Min false) = refl
two_in (op.Max true) = refl
two_in (op.Max false) = refl
two_in o = refl

one_in : (o : one_op.the_data) → in_recipe (one_recipe o) ≡ true
one_in (one_op.Narrow Char) = refl
one_in (one_op.Narrow Uchar) = refl
one_in (one_op.Narrow Short) = refl
one_in (one_op.Narrow Ushort) = refl
one_in (one_op.Narrow Int) = refl
one_in (one_op.Narrow Uint) = refl
one_in one_op.Popcount = refl
one_in o = refl

either0 : (b : Bool) (t : Scalar) → in_steps 16 (if b then narrow_into t 0 (Argument 0) else step 0 (Const 0) ∷ []) ≡ true
either0 false t = refl
either0 true Char = refl
either0 true Uchar = refl
either0 true Short = refl
either0 true Ushort = refl
either0 true Int = refl
either0 true Uint = refl

either1 : (b : Bool) (t : Scalar) → in_steps 16 (if b then narrow_into t 1 (Argument 1) else step 1 (Const 0) ∷ []) ≡ true
either1 false t = refl
either1 true Char = refl
either1 true Uchar = refl
either1 true Short = refl
either1 true Ushort = refl
either1 true Int = refl
either1 true Uint = refl

either2 : (b : Bool) (t : Scalar) → in_steps 16 (if b then narrow_into t 2 (Argument 2) else step 2 (Const 0) ∷ []) ≡ true
either2 false t = refl
either2 true Char = refl
either2 true Uchar = refl
either2 true Short = refl
either2 true Ushort = refl
either2 true Int = refl
either2 true Uint = refl

fill_in : (t : Scalar) (count : ℕ) → (in_steps 16 (filled t count 0) ≡ true) × (in_steps 16 (filled t count 1) ≡ true) × (in_steps 16 (filled t count 2) ≡ true)
fill_in t count = (either0 (nat_lt 0 count) t, either1 (nat_lt 1 count) t, either2 (nat_lt 2 count) t)

function_in : (f : NumberFunction) (t : Scalar) → (in_steps 16 (function_recipe f t).steps ≡ true) × (in_act 16 (function_recipe f t).last ≡ true)
function_in Min Char = (refl, refl)
function_in Min Uchar = (refl, refl)
function_in Min Short = (refl, refl)
function_in Min Ushort = (refl, refl)
function_in Min Int = (refl, refl)
function_in Min Uint = (refl, refl)
function_in Max Char = (refl, refl)
function_in Max Uchar = (refl, refl)
function_in Max Short = (refl, refl)
function_in Max Ushort = (refl, refl)
function_in Max Int = (refl, refl)
function_in Max Uint = (refl, refl)
function_in Clamp Char = (refl, refl)
function_in Clamp Uchar = (refl, refl)
function_in Clamp Short = (refl, refl)
function_in Clamp Ushort = (refl, refl)
function_in Clamp Int = (refl, refl)
function_in Clamp Uint = (refl, refl)
function_in Abs Char = (refl, refl)
function_in Abs Uchar = (refl, refl)
function_in Abs Short = (refl, refl)
function_in Abs Ushort = (refl, refl)
function_in Abs Int = (refl, refl)
function_in Abs Uint = (refl, refl)
function_in AbsDiff Char = (refl, refl)
function_in AbsDiff Uchar = (refl, refl)
function_in AbsDiff Short = (refl, refl)
function_in AbsDiff Ushort = (refl, refl)
function_in AbsDiff Int = (refl, refl)
function_in AbsDiff Uint = (refl, refl)
function_in Mul24 Char = (refl, refl)
function_in Mul24 Uchar = (refl, refl)
function_in Mul24 Short = (refl, refl)
function_in Mul24 Ushort = (refl, refl)
function_in Mul24 Int = (refl, refl)
function_in Mul24 Uint = (refl, refl)
function_in MulHi Char = (refl, refl)
function_in MulHi Uchar = (refl, refl)
function_in MulHi Short = (refl, refl)
function_in MulHi Ushort = (refl, refl)
function_in MulHi Int = (refl, refl)
function_in MulHi Uint = (refl, refl)
function_in Rotate Char = (refl, refl)
function_in Rotate Uchar = (refl, refl)
function_in Rotate Short = (refl, refl)
function_in Rotate Ushort = (refl, refl)
function_in Rotate Int = (refl, refl)
function_in Rotate Uint = (refl, refl)
function_in Clz Char = (refl, refl)
function_in Clz Uchar = (refl, refl)
function_in Clz Short = (refl, refl)
function_in Clz Ushort = (refl, refl)
function_in Clz Int = (refl, refl)
function_in Clz Uint = (refl, refl)
function_in Popcount Char = (refl, refl)
function_in Popcount Uchar = (refl, refl)
function_in Popcount Short = (refl, refl)
function_in Popcount Ushort = (refl, refl)
function_in Popcount Int = (refl, refl)
function_in Popcount Uint = (refl, refl)
function_in AddSat Char = (refl, refl)
function_in AddSat Uchar = (refl, refl)
function_in AddSat Short = (refl, refl)
function_in AddSat Ushort = (refl, refl)
function_in AddSat Int = (refl, refl)
function_in AddSat Uint = (refl, refl)
function_in SubSat Char = (refl, refl)
function_in SubSat Uchar = (refl, refl)
function_in SubSat Short = (refl, refl)
function_in SubSat Ushort = (refl, refl)
function_in SubSat Int = (refl, refl)
function_in SubSat Uint = (refl, refl)

module _ (c : Counts) where
  by_valid : (v : Val) (d : Def) (args : List Val) → Low c.vals args → (r : Option Recipe) → is_val c v ≡ true → is_def c d ≡ true → in_recipe r ≡ true → is_body (more c 16) (by_recipe c.vals v.0 d args r) ≡ true
  by_valid v d args low None hv hd h = let_valid c 16 v d hv hd
  by_valid v d args low (Some r) hv hd h = let p = and_parts (in_steps 16 r.steps) (in_act 16 r.last) h in recipe_valid c 16 args low v r.steps r.last hv p.0 p.1

  built_valid : (v : Val) (f : NumberFunction) (t : Scalar) (args : List Val) → is_val c v ≡ true → are_vals c args ≡ true → is_body (more c 16) (lowered_built c.vals v.0 f t args) ≡ true
  built_valid v f t args hv h =
      let q = ltb-true v.0 c.vals hv in
      let n = length args in
      let own = function_in f t in
      let fills = fill_in t n in
      recipe_valid c 16 args (low_vals c args h (omega (arith, q))) v (built_steps f t n) (function_recipe f t).last hv
      (in_steps-append 16 (filled t n 0) (filled t n 1 ++ (filled t n 2 ++ (function_recipe f t).steps)) fills.0
      (in_steps-append 16 (filled t n 1) (filled t n 2 ++ (function_recipe f t).steps) fills.1
      (in_steps-append 16 (filled t n 2) (function_recipe f t).steps fills.2 own.0)))
      own.1

  def_valid : (v : Val) (d : Def) → is_val c v ≡ true → is_def c d ≡ true → is_body (more c 16) (lowered c.vals v.0 d) ≡ true
  def_valid v (def.Bin o a b) hv h = by_valid v (def.Bin o a b) (a ∷ b ∷ []) (low_two c a b v hv h) (two_recipe o) hv h (two_in o)
  def_valid v (def.One o a) hv h = by_valid v (def.One o a) (a ∷ []) (low_one c a v hv h) (one_recipe o) hv h (one_in o)
  def_valid v (def.Built f t args) hv h = built_valid v f t args hv h
  def_valid v d hv h = let_valid c 16 v d hv h

pub lowered_valid : (c : Counts) (l : List LaneStmt) → is_body c l ≡ true → is_body (more c 16) (rewritten_all (lowered c.vals) l) ≡ true
lowered_valid c l h = all_valid c 16 (lowered c.vals) (def_valid c) l h
