-- Parameters, and what is inside a function, are judged to be what the walk meets.
use Rattle.std.proofs.Common.{◌≡◌, ℕ, suc, ◌+◌, ◌<◌, ◌≤◌, ◌^◌, Bool, true, false, List, [], ◌∷◌, ◌++◌, Option, Some, None, refl, sym, ap, ◌∙◌, subst, arith, length, length-append, append-nil, append_assoc, is_some}
use Rattle.std.specs.Prelude.{map, min, eqb, bytes_eq, if◌then◌else◌, Result, Ok, Err, ◌&&◌}
use Rattle.clc_lexer.specs.declared.token.Token.{Token}
use Rattle.clc_tree.specs.declared.functions.Param.{Param}
use Rattle.clc_tree.specs.declared.functions.Param.TheVariants as param
use Rattle.clc_tree.specs.declared.functions.ParamStep.{ParamStep}
use Rattle.clc_tree.specs.declared.functions.Params.{Params}
use Rattle.clc_tree.specs.declared.functions.Params.TheVariants as params
use Rattle.clc_tree.specs.declared.functions.Function.{Function}
use Rattle.clc_tree.specs.declared.functions.Tree.{Tree}
use Rattle.clc_tree.specs.declared.expressions.Scalar.{Scalar as Written}
use Rattle.clc_tree.specs.declared.expressions.Scalar.TheVariants as written
use Rattle.clc_types.specs.declared.type_rule.TypeRule.TheVariants.{S14}
use Rattle.clc_types.specs.declared.typed.TStmt.{TStmt}
use Rattle.clc_types.specs.declared.typed.TStmt.TheVariants as st
use Rattle.clc_types.specs.declared.typed.TFunction.{TFunction}
use Rattle.clc_types.specs.declared.forms.Fault.{Fault}
use Rattle.clc_types.specs.declared.forms.Home.{Home}
use Rattle.clc_types.specs.declared.forms.Named.{Named}
use Rattle.clc_types.specs.declared.forms.Named.TheVariants as nm
use Rattle.clc_types.specs.declared.scope.State.{State}
use Rattle.clc_types.specs.declared.typed.TypeFault.{TypeFault}
use Rattle.clc_types.specs.declared.typed.TypeFault.TheVariants.{Rule, Memory}
use Rattle.clc_types.specs.declared.typed.Typed.{Typed}
use Rattle.clc_types.specs.Judged.{Judged, Fine, Faulty, both, next, unless, violations, faults_of, Context, Part, IsLeast}
use Rattle.clc_types.specs.Words.{name_of, one_if, is_kernel, type_tokens}
use Rattle.clc_types.specs.Rules.{var_of}
use Rattle.clc_types.specs.Heights.{stmt_reach}
use Rattle.clc_types.specs.Names.{or_else, outermost, function_of, builtin_named, builtin_of}
use Rattle.clc_types.specs.InternalScope.{Entries, found, known, look_in}
use Rattle.clc_types.specs.Blocks.{Decl, Around, Piece, last_visible, nothing, quiet, past, ending, seq, made, declared, pointer_tokens, block}
use Rattle.clc_types.specs.Programs.{Before, in_force, param_shape, param_tokens, param_name, counted, param_piece, further_params, params_piece, shapes_of, result_of, returns_tokens, heading, head, inside, function_piece, signature, home_of, function_at, height_in, with_function, functions_at, no_function, program, Judges}
use Rattle.clc_types.specs.InternalWalk.{Walked, Right, Wrong, guarded, bump}
use Rattle.clc_types.specs.InternalSteps.{View, Stepped, Goes, Stops, and_then, reach, PieceWalk, knows_in, number, skipped, left, declared_in, walk_block, nothing as walk_nothing, past as walk_past, ending as walk_ending, seq as walk_seq, made as walk_made, declared as walk_declared, Stands, view_of}
use Rattle.clc_types.specs.InternalWalks.{counted_in, param_walk, further_walk, params_in, heading_in, begun, function_in, ended, function_walk, functions_walk}
use Rattle.clc_types.proofs.Scopes.{known_last}
use Rattle.clc_walk_exact.proofs.Least.{Inside, Same, inside_none, wider, inside_unless, inside_next, inside_both, guard_same, least_left}
use Rattle.clc_walk_exact.proofs.Needs.{sound_2}
use Rattle.clc_walk_exact.proofs.Agree.{Fair, bump_is}
use Rattle.clc_walk_exact.proofs.Force.{Later, found_push}
use Rattle.clc_walk_exact.proofs.Pieces.{Stood, Met, at_token, reach_met, met_next, met_weak, After, Rel, skipped_is, nothing_stood, quiet_stood, past_stood, ending_stood, made_stood, seq_stood, declared_stood, stood_as}
use Rattle.clc_walk_exact.proofs.Standing.{tested_fair}
use Rattle.clc_walk_exact.proofs.Body.{whole_block}

-- ---- parameters

type_some : (s : Written) → 0 < type_tokens s
type_some (written.Plain t) = omega arith
type_some (written.Signed t u) = omega arith

pub param_some : (x : Param) → 0 < param_tokens x
param_some (param.Value c s t) = let h = type_some s in omega (arith, h)
param_some (param.Pointer x t) = let h = type_some x.element in omega (arith, h)

-- a walk that has ended
abbrev finish : View → Stepped (Unit {0})
finish u = Goes tt u

module _ (fs : List (List ℕ)) (home : Home) (all : List Decl) where
  counted_stood : (n : ℕ) (x : Param) → Stood fs home all (quiet (counted n (param_tokens x))) (λ l v. reach v (counted_in n (param_tokens x) v.at))
  unfolding counted_in
  counted_stood n x =
      quiet_stood fs home all (counted n (param_tokens x)) (λ k p. guarded (violations p ((S14, eqb n 16) ∷ [])) (Right tt (bump p (param_tokens x))))
      (λ k. tested_fair (in_force all fs) k (param_tokens x) S14 (eqb n 16) tt (param_some x))

  drop_values : (s : Stepped (Unit {0})) (z : View → Stepped ℕ) → and_then (and_then {B = Unit {0} × ℕ} s (λ x u. and_then (z u) (λ y t. Goes (x, y) t))) (λ x u. finish u) ≡ and_then s (λ x u. and_then (z u) (λ y t. finish t))
  drop_values (Goes a v) z = by (z v)
    where
      by : (s : Stepped ℕ) → and_then (and_then {B = Unit {0} × ℕ} s (λ y t. Goes (a, y) t)) (λ x u. finish u) ≡ and_then s (λ y t. finish t)
      by (Goes y t) = refl
      by (Stops f) = refl
  drop_values (Stops f) z = refl

  param_stood : (n : ℕ) (x : Param) → Stood fs home all (param_piece n x) (λ l v. param_walk n x v)
  param_stood n x =
      stood_as fs home all (param_piece n x) (walk_made (λ y. tt) (walk_seq (λ l v. reach v (counted_in n (param_tokens x) v.at)) (walk_declared (param_shape x) (param_name x)))) (λ l v. param_walk n x v)
      (λ l v. drop_values (reach v (counted_in n (param_tokens x) v.at)) (λ u. declared_in u (name_of (param_name x)) (param_shape x)))
      (made_stood fs home all (λ y. tt) _ _ (seq_stood fs home all _ _ _ _ (counted_stood n x) (declared_stood fs home all (param_shape x) (param_name x))))

  drop_units : (s : Stepped (Unit {0})) (z : View → Stepped (Unit {0})) → and_then (and_then {B = Unit {0} × Unit {0}} s (λ x u. and_then (z u) (λ y t. Goes (x, y) t))) (λ x u. finish u) ≡ and_then s (λ x u. z u)
  drop_units (Goes a v) z = by (z v)
    where
      by : (s : Stepped (Unit {0})) → and_then (and_then {B = Unit {0} × Unit {0}} s (λ y t. Goes (a, y) t)) (λ x u. finish u) ≡ s
      by (Goes y t) = refl
      by (Stops f) = refl
  drop_units (Stops f) z = refl

  further_stood : (xs : List ParamStep) (n : ℕ) → Stood fs home all (further_params n xs) (λ l v. further_walk n xs v)
  further_stood [] n = nothing_stood fs home all tt
  further_stood (x ∷ xs) n =
      stood_as fs home all (further_params n (x ∷ xs)) (walk_made (λ y. tt) (walk_seq (walk_past 1 (λ l v. param_walk n x.param v)) (λ l v. further_walk (suc n) xs v))) (λ l v. further_walk n (x ∷ xs) v)
      (λ l v. drop_units (param_walk n x.param (skipped 1 v)) (λ u. further_walk (suc n) xs u))
      (made_stood fs home all (λ y. tt) _ _ (seq_stood fs home all _ _ _ _ (past_stood fs home all 1 _ _ (param_stood n x.param)) (further_stood xs (suc n))))

  params_stood : (x : Option Params) → Stood fs home all (params_piece x) (λ l v. params_in x v)
  unfolding params_in
  params_stood None = nothing_stood fs home all tt
  params_stood (Some (params.Void t)) = ending_stood fs home all (nothing tt) (walk_nothing tt) 1 (nothing_stood fs home all tt)
  params_stood (Some (params.List x xs)) =
      stood_as fs home all (params_piece (Some (params.List x xs))) (walk_made (λ y. tt) (walk_seq (λ l v. param_walk 0 x v) (λ l v. further_walk 1 xs v))) (λ l v. params_in (Some (params.List x xs)) v)
      (λ l v. drop_units (param_walk 0 x v) (λ u. further_walk 1 xs u))
      (made_stood fs home all (λ y. tt) _ _ (seq_stood fs home all _ _ _ _ (param_stood 0 x) (further_stood xs 1)))

  abbrev pub inside_walk : Function → PieceWalk (List TStmt)
  inside_walk f = walk_made (λ y. y.1) (walk_seq (walk_past 1 (λ l v. params_in f.params v)) (walk_past 2 (walk_block f.body)))

  pub inside_stood : (f : Function) → Stood fs home all (inside f) (inside_walk f)
  inside_stood f =
      made_stood fs home all (λ y. y.1) _ _ (seq_stood fs home all _ _ _ _ (past_stood fs home all 1 _ _ (params_stood f.params)) (past_stood fs home all 2 _ _ (whole_block fs home all f.body)))
