-- The result of the pass names only what is there, with sixteen more values.
use Rattle.std.proofs.Common.{◌≡◌, ◌+◌, true, false, List, [], ◌∷◌, ◌++◌, refl, ◌∙◌, arith}
use Rattle.std.specs.Prelude.{◌&&◌}
use Rattle.std.proofs.lemmas.Bool.{and_from}
use Rattle.q_lane.specs.declared.operations.BinOp.TheVariants as op
use Rattle.item_ir.specs.declared.form.Val.{Val}
use Rattle.q_functions.specs.declared.functions.WorkFunction.{WorkFunction}
use Rattle.q_functions.specs.declared.functions.WorkFunction.TheVariants.{NumGroups}
use Rattle.item_ir.specs.declared.form.Def.{Def}
use Rattle.item_ir.specs.declared.form.Def.TheVariants as def
use Rattle.lane_ir.specs.Valid.{Counts, is_val, is_size, is_def, is_stmt, is_body, more}
use Rattle.lane_ir.specs.Kept.{rewritten_all}
use Rattle.lane_ir.specs.Recipe.{statements, defining}
use Rattle.lane_ir.specs.declared.form.LaneStmt.{LaneStmt}
use Rattle.lane_ir.specs.declared.form.LaneStmt.TheVariants.{WhileAny}
use Rattle.lane_ir.specs.declared.recipe.Act.{Act}
use Rattle.lane_ir.specs.declared.recipe.Act.TheVariants.{Two, Choose}
use Rattle.lane_ir.specs.declared.recipe.Source.TheVariants.{Temp}
use Rattle.lane_ir.specs.declared.recipe.Step.{Step}
use Rattle.lane_ir.proofs.Recipes.{Low}
use Rattle.lane_ir.proofs.ValidRewrites.{all_valid, is_stmt-WhileAny, is_body-append, in_act, in_steps, temp_valid, steps_valid, recipe_valid, low_one, low_two, let_valid}
use Rattle.arith_expand.specs.Expand.{expanded, expanded_two, expanded_work, division, counting, round, unsigned_words, magnitudes, sizes, signing, signing_left, quotient, left, zero, dividend_sign}

module _ (c : Counts) where
  division_valid : (args : List Val) → Low c.vals args → (first then : List Step) (last : Act) (v : Val) → is_val c v ≡ true
      → in_steps 16 (first ++ counting) ≡ true → in_steps 16 then ≡ true → in_act 16 last ≡ true → is_body (more c 16) (division c.vals args first then last v.0) ≡ true
  division_valid args low first then last v hv h g e =
      let mask : Val = record { 0 = c.vals + 3 } in
      let rounds = statements c.vals args round in
      is_body-append (more c 16) (statements c.vals args (first ++ counting)) (WhileAny [] mask rounds ∷ defining c.vals args then last v.0) (steps_valid c 16 args low (first ++ counting) h)
      (and_from (is_stmt (more c 16) (WhileAny [] mask rounds)) (is_body (more c 16) (defining c.vals args then last v.0))
      (is_stmt-WhileAny (more c 16) [] mask rounds ∙ and_from (is_val (more c 16) mask) (is_body (more c 16) rounds) (temp_valid c 16 args low 3 (omega arith)) (steps_valid c 16 args low round refl))
      (recipe_valid c 16 args low v then last hv g e))

  two_valid : (v : Val) (o : op.the_data) (a b : Val) → is_val c v ≡ true → (is_val c a && is_val c b) ≡ true → is_body (more c 16) (expanded_two c.vals v.0 o a b) ≡ true
  two_valid v (op.Div false) a b hv h = division_valid (a ∷ b ∷ []) (low_two c a b v hv h) unsigned_words [] (Two op.Add quotient zero) v hv refl refl refl
  two_valid v (op.Div true) a b hv h = division_valid (a ∷ b ∷ []) (low_two c a b v hv h) magnitudes signing (Choose (Temp 6) (Temp 7) quotient) v hv refl refl refl
  two_valid v (op.Rem false) a b hv h = division_valid (a ∷ b ∷ []) (low_two c a b v hv h) unsigned_words [] (Two op.Add left zero) v hv refl refl refl
  two_valid v (op.Rem true) a b hv h = division_valid (a ∷ b ∷ []) (low_two c a b v hv h) magnitudes signing_left (Choose dividend_sign (Temp 7) left) v hv refl refl refl
  two_valid v o a b hv h = let_valid c 16 v (def.Bin o a b) hv h

  work_valid : (v : Val) (which : WorkFunction) (d : Val) → is_val c v ≡ true → (is_size which && is_val c d) ≡ true → is_body (more c 16) (expanded_work c.vals v.0 which d) ≡ true
  work_valid v NumGroups d hv h = division_valid (d ∷ []) (low_one c d v hv h) sizes [] (Two op.Add quotient zero) v hv refl refl refl
  work_valid v which d hv h = let_valid c 16 v (def.Work which d) hv h

  def_valid : (v : Val) (d : Def) → is_val c v ≡ true → is_def c d ≡ true → is_body (more c 16) (expanded c.vals v.0 d) ≡ true
  def_valid v (def.Bin o a b) hv h = two_valid v o a b hv h
  def_valid v (def.Work which d) hv h = work_valid v which d hv h
  def_valid v d hv h = let_valid c 16 v d hv h

pub expanded_valid : (c : Counts) (l : List LaneStmt) → is_body c l ≡ true → is_body (more c 16) (rewritten_all (expanded c.vals) l) ≡ true
expanded_valid c l h = all_valid c 16 (expanded c.vals) (def_valid c) l h
