-- The faults of a function lie in it, and its end.
use Rattle.std.proofs.Common.{◌≡◌, ℕ, suc, ◌+◌, ◌<◌, ◌≤◌, ◌^◌, Bool, true, false, List, [], ◌∷◌, ◌++◌, Option, Some, None, refl, sym, ap, ◌∙◌, subst, arith, length, length-append, append-nil, append_assoc, is_some}
use Rattle.std.specs.Prelude.{map, min, eqb, bytes_eq, if◌then◌else◌, Result, Ok, Err, ◌&&◌}
use Rattle.clc_lexer.specs.declared.token.Token.{Token}
use Rattle.clc_tree.specs.declared.functions.Param.{Param}
use Rattle.clc_tree.specs.declared.functions.Param.TheVariants as param
use Rattle.clc_tree.specs.declared.functions.ParamStep.{ParamStep}
use Rattle.clc_tree.specs.declared.functions.Params.{Params}
use Rattle.clc_tree.specs.declared.functions.Params.TheVariants as params
use Rattle.clc_tree.specs.declared.functions.Function.{Function}
use Rattle.clc_tree.specs.declared.functions.Tree.{Tree}
use Rattle.clc_tree.specs.declared.expressions.Scalar.{Scalar as Written}
use Rattle.clc_tree.specs.declared.expressions.Scalar.TheVariants as written
use Rattle.clc_types.specs.declared.typed.TStmt.{TStmt}
use Rattle.clc_types.specs.declared.typed.TStmt.TheVariants as st
use Rattle.clc_types.specs.declared.typed.TFunction.{TFunction}
use Rattle.clc_types.specs.declared.forms.Fault.{Fault}
use Rattle.clc_types.specs.declared.forms.Home.{Home}
use Rattle.clc_types.specs.declared.forms.Named.{Named}
use Rattle.clc_types.specs.declared.forms.Named.TheVariants as nm
use Rattle.clc_types.specs.declared.scope.State.{State}
use Rattle.clc_types.specs.declared.typed.TypeFault.{TypeFault}
use Rattle.clc_types.specs.declared.typed.TypeFault.TheVariants.{Rule, Memory}
use Rattle.clc_types.specs.declared.typed.Typed.{Typed}
use Rattle.clc_types.specs.Judged.{Judged, Fine, Faulty, both, next, unless, violations, faults_of, Context, Part, IsLeast}
use Rattle.clc_types.specs.Words.{name_of, one_if, is_kernel, type_tokens}
use Rattle.clc_types.specs.Rules.{var_of}
use Rattle.clc_types.specs.Heights.{stmt_reach}
use Rattle.clc_types.specs.Names.{or_else, outermost, function_of, builtin_named, builtin_of}
use Rattle.clc_types.specs.InternalScope.{Entries, found, known, look_in}
use Rattle.clc_types.specs.Blocks.{Decl, Around, Piece, last_visible, nothing, quiet, past, ending, seq, made, declared, pointer_tokens, block}
use Rattle.clc_types.specs.Programs.{Before, in_force, param_shape, param_tokens, param_name, counted, param_piece, further_params, params_piece, shapes_of, result_of, returns_tokens, heading, head, inside, function_piece, signature, home_of, function_at, height_in, with_function, functions_at, no_function, program, Judges}
use Rattle.clc_types.specs.InternalWalk.{Walked, Right, Wrong, guarded, bump}
use Rattle.clc_types.specs.InternalSteps.{View, Stepped, Goes, Stops, and_then, reach, PieceWalk, knows_in, number, skipped, left, declared_in, walk_block, nothing as walk_nothing, past as walk_past, ending as walk_ending, seq as walk_seq, made as walk_made, declared as walk_declared, Stands, view_of}
use Rattle.clc_types.specs.InternalWalks.{counted_in, param_walk, further_walk, params_in, heading_in, begun, function_in, ended, function_walk, functions_walk}
use Rattle.clc_types.proofs.Scopes.{known_last}
use Rattle.clc_walk_exact.proofs.Least.{Inside, Same, inside_none, wider, inside_unless, inside_next, inside_both, guard_same, least_left}
use Rattle.clc_walk_exact.proofs.Needs.{sound_2}
use Rattle.clc_walk_exact.proofs.Agree.{Fair, bump_is}
use Rattle.clc_walk_exact.proofs.Force.{Later, found_push}
use Rattle.clc_walk_exact.proofs.Pieces.{Stood, Met, at_token, reach_met, met_next, met_weak, After, Rel, skipped_is, nothing_stood, quiet_stood, past_stood, ending_stood, made_stood, seq_stood, declared_stood, stood_as}
use Rattle.clc_walk_exact.proofs.Standing.{tested_fair}
use Rattle.clc_walk_exact.proofs.Body.{whole_block}
use Rattle.clc_walk_exact.proofs.Parameters.{inside_walk, inside_stood}
use Rattle.clc_walk_exact.proofs.Headings.{head_tokens, heading_inside}

pub function_inside : (before : Before) (p : ℕ) (f : Function) → Inside p (p + (function_piece before.names f).tokens) (faults_of (function_at before p f))
function_inside before p f =
    let s = function_piece before.names f in
    let hi = p + s.tokens in
    let all = s.decls p hi p in
    let fs = before.names ++ name_of f.name ∷ [] in
    let home = home_of before f in
    let c : Around = record { names = record { look = in_force all fs; home = home }; all = all } in
    let mid = p + (head_tokens f + 1) in
    let H = (head before.names f).at c false p p in
    let I = (inside f).at c false p mid in
    inside_next p hi (next (both H I) (λ y. Fine y.1)) _
    (inside_next p hi (both H I) (λ y. Fine y.1)
    (inside_both p hi H I (wider p mid p hi _ (omega arith) (omega arith) (heading_inside c before.names f false p p))
    (wider mid (mid + (inside f).tokens) p hi _ (omega arith) (omega arith) ((inside_stood fs home all f).inside false p mid)))
    (λ y e. inside_none p hi))
    (λ body e. inside_none p hi)

-- what the walk does inside, and at the function's end
pub inside_end : (f : Function) (v : View) → and_then (inside_walk [] (record { functions = []; heights = []; result = None }) [] f false (begun f v)) (λ body x. Goes (function_in f body x) (ended (st.Block body) x))
    ≡ and_then (params_in f.params (skipped 1 (begun f v))) (λ z w. and_then (walk_block f.body false (skipped 2 w)) (λ body x. Goes (function_in f body x) (ended (st.Block body) x)))
inside_end f v = by (params_in f.params (skipped 1 (begun f v)))
  where
    then_end : (a : Unit {0}) (s : Stepped (List TStmt)) → and_then (and_then (and_then {B = Unit {0} × List TStmt} s (λ y t. Goes (a, y) t)) (λ x u. Goes x.1 u)) (λ body x. Goes (function_in f body x) (ended (st.Block body) x))
        ≡ and_then s (λ body x. Goes (function_in f body x) (ended (st.Block body) x))
    then_end a (Goes y t) = refl
    then_end a (Stops e) = refl

    by : (s : Stepped (Unit {0})) → and_then (and_then (and_then {B = Unit {0} × List TStmt} s (λ x u. and_then (walk_block f.body false (skipped 2 u)) (λ y t. Goes (x, y) t))) (λ x u. Goes x.1 u)) (λ body x. Goes (function_in f body x) (ended (st.Block body) x))
        ≡ and_then s (λ z w. and_then (walk_block f.body false (skipped 2 w)) (λ body x. Goes (function_in f body x) (ended (st.Block body) x)))
    by (Goes a u) = then_end a (walk_block f.body false (skipped 2 u))
    by (Stops e) = refl
