-- No division is left.
use Rattle.std.proofs.Common.{◌≡◌, ℕ, ◌+◌, true, false, List, [], ◌∷◌, ◌++◌, refl}
use Rattle.std.proofs.lemmas.Bool.{and_from}
use Rattle.q_lane.specs.declared.operations.BinOp.TheVariants as op
use Rattle.item_ir.specs.declared.form.Val.{Val}
use Rattle.q_functions.specs.declared.functions.WorkFunction.{WorkFunction}
use Rattle.q_functions.specs.declared.functions.WorkFunction.TheVariants.{NumGroups}
use Rattle.item_ir.specs.declared.form.Def.{Def}
use Rattle.item_ir.specs.declared.form.Def.TheVariants as def
use Rattle.lane_ir.specs.Kept.{rewritten_all, each_def, each_def_all}
use Rattle.lane_ir.specs.Recipe.{statements, defining}
use Rattle.lane_ir.specs.declared.form.LaneStmt.{LaneStmt}
use Rattle.lane_ir.specs.declared.form.LaneStmt.TheVariants.{WhileAny}
use Rattle.lane_ir.specs.declared.recipe.Act.{Act}
use Rattle.lane_ir.specs.declared.recipe.Act.TheVariants.{Two, Choose}
use Rattle.lane_ir.specs.declared.recipe.Source.TheVariants.{Temp}
use Rattle.lane_ir.specs.declared.recipe.Step.{Step}
use Rattle.lane_ir.proofs.Definitions.{each_def-WhileAny, each_def-append, all_made}
use Rattle.arith_expand.specs.Expand.{expanded, expanded_two, expanded_work, division, counting, round, unsigned_words, magnitudes, sizes, signing, signing_left, quotient, left, zero, dividend_sign, is_free}

division_free : (k : ℕ) (args : List Val) (first then : List Step) (last : Act) (v : ℕ) → each_def_all is_free (statements k args (first ++ counting)) ≡ true → each_def_all is_free (defining k args then last v) ≡ true
    → each_def_all is_free (division k args first then last v) ≡ true
division_free k args first then last v h g =
    each_def-append is_free (statements k args (first ++ counting)) (WhileAny [] (record { 0 = k + 3 }) (statements k args round) ∷ defining k args then last v) h
    (and_from (each_def is_free (WhileAny [] (record { 0 = k + 3 }) (statements k args round))) (each_def_all is_free (defining k args then last v)) (each_def-WhileAny is_free [] (record { 0 = k + 3 }) (statements k args round)) g)

two_free : (k v : ℕ) (o : op.the_data) (a b : Val) → each_def_all is_free (expanded_two k v o a b) ≡ true
two_free k v (op.Div false) a b = division_free k (a ∷ b ∷ []) unsigned_words [] (Two op.Add quotient zero) v refl refl
two_free k v (op.Div true) a b = division_free k (a ∷ b ∷ []) magnitudes signing (Choose (Temp 6) (Temp 7) quotient) v refl refl
two_free k v (op.Rem false) a b = division_free k (a ∷ b ∷ []) unsigned_words [] (Two op.Add left zero) v refl refl
two_free k v (op.Rem true) a b = division_free k (a ∷ b ∷ []) magnitudes signing_left (Choose dividend_sign (Temp 7) left) v refl refl
two_free k v o a b = refl

work_free : (k v : ℕ) (which : WorkFunction) (d : Val) → each_def_all is_free (expanded_work k v which d) ≡ true
work_free k v NumGroups d = division_free k (d ∷ []) sizes [] (Two op.Add quotient zero) v refl refl
work_free k v which d = refl

def_free : (k v : ℕ) (d : Def) → each_def_all is_free (expanded k v d) ≡ true
def_free k v (def.Bin o a b) = two_free k v o a b
def_free k v (def.Work which d) = work_free k v which d
def_free k v d = refl

pub none_left : (k : ℕ) (l : List LaneStmt) → each_def_all is_free (rewritten_all (expanded k) l) ≡ true
none_left k l = all_made is_free (expanded k) (def_free k) l
