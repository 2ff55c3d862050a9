-- A function's block, right after its heading.
use Rattle.std.proofs.Common.{◌≡◌, ℕ, suc, ◌+◌, ◌<◌, ◌≤◌, ◌^◌, Bool, true, false, List, [], ◌∷◌, ◌++◌, Option, Some, None, refl, sym, ap, ◌∙◌, subst, arith, length, length-append, append-nil, append_assoc, is_some}
use Rattle.std.specs.Prelude.{map, min, eqb, bytes_eq, if◌then◌else◌, Result, Ok, Err, ◌&&◌}
use Rattle.clc_lexer.specs.declared.token.Token.{Token}
use Rattle.clc_tree.specs.declared.functions.Param.{Param}
use Rattle.clc_tree.specs.declared.functions.Param.TheVariants as param
use Rattle.clc_tree.specs.declared.functions.ParamStep.{ParamStep}
use Rattle.clc_tree.specs.declared.functions.Params.{Params}
use Rattle.clc_tree.specs.declared.functions.Params.TheVariants as params
use Rattle.clc_tree.specs.declared.functions.Function.{Function}
use Rattle.clc_tree.specs.declared.functions.Tree.{Tree}
use Rattle.clc_tree.specs.declared.expressions.Scalar.{Scalar as Written}
use Rattle.clc_tree.specs.declared.expressions.Scalar.TheVariants as written
use Rattle.clc_types.specs.declared.typed.TStmt.{TStmt}
use Rattle.clc_types.specs.declared.typed.TStmt.TheVariants as st
use Rattle.clc_types.specs.declared.typed.TFunction.{TFunction}
use Rattle.clc_types.specs.declared.forms.Fault.{Fault}
use Rattle.clc_types.specs.declared.forms.Home.{Home}
use Rattle.clc_types.specs.declared.forms.Named.{Named}
use Rattle.clc_types.specs.declared.forms.Named.TheVariants as nm
use Rattle.clc_types.specs.declared.scope.State.{State}
use Rattle.clc_types.specs.declared.typed.TypeFault.{TypeFault}
use Rattle.clc_types.specs.declared.typed.TypeFault.TheVariants.{Rule, Memory}
use Rattle.clc_types.specs.declared.typed.Typed.{Typed}
use Rattle.clc_types.specs.Judged.{Judged, Fine, Faulty, both, next, unless, violations, faults_of, Context, Part, IsLeast}
use Rattle.clc_types.specs.Words.{name_of, one_if, is_kernel, type_tokens}
use Rattle.clc_types.specs.Rules.{var_of}
use Rattle.clc_types.specs.Heights.{stmt_reach}
use Rattle.clc_types.specs.Names.{or_else, outermost, function_of, builtin_named, builtin_of}
use Rattle.clc_types.specs.InternalScope.{Entries, found, known, look_in}
use Rattle.clc_types.specs.Blocks.{Decl, Around, Piece, last_visible, nothing, quiet, past, ending, seq, made, declared, pointer_tokens, block}
use Rattle.clc_types.specs.Programs.{Before, in_force, param_shape, param_tokens, param_name, counted, param_piece, further_params, params_piece, shapes_of, result_of, returns_tokens, heading, head, inside, function_piece, signature, home_of, function_at, height_in, with_function, functions_at, no_function, program, Judges}
use Rattle.clc_types.specs.InternalWalk.{Walked, Right, Wrong, guarded, bump}
use Rattle.clc_types.specs.InternalSteps.{View, Stepped, Goes, Stops, and_then, reach, PieceWalk, knows_in, number, skipped, left, declared_in, walk_block, nothing as walk_nothing, past as walk_past, ending as walk_ending, seq as walk_seq, made as walk_made, declared as walk_declared, Stands, view_of}
use Rattle.clc_types.specs.InternalWalks.{counted_in, param_walk, further_walk, params_in, heading_in, begun, function_in, ended, function_walk, functions_walk}
use Rattle.clc_types.proofs.Scopes.{known_last}
use Rattle.clc_walk_exact.proofs.Least.{Inside, Same, inside_none, wider, inside_unless, inside_next, inside_both, guard_same, least_left}
use Rattle.clc_walk_exact.proofs.Needs.{sound_2}
use Rattle.clc_walk_exact.proofs.Agree.{Fair, bump_is}
use Rattle.clc_walk_exact.proofs.Force.{Later, found_push}
use Rattle.clc_walk_exact.proofs.Pieces.{Stood, Met, at_token, reach_met, met_next, met_weak, After, Rel, skipped_is, nothing_stood, quiet_stood, past_stood, ending_stood, made_stood, seq_stood, declared_stood, stood_as}
use Rattle.clc_walk_exact.proofs.Standing.{tested_fair}
use Rattle.clc_walk_exact.proofs.Body.{whole_block}
use Rattle.clc_walk_exact.proofs.Headings.{Ready, entry_names, head_tokens}

-- a function's block, right after its heading
pub begun_rel : (before : Before) (p : ℕ) (f : Function) (v : View) (all : List Decl) (upto : ℕ) → Ready before p v → p < 2 ^ 32
    → let u = at_token v (p + (head_tokens f + 1)) in Rel (before.names ++ name_of f.name ∷ []) (home_of before f) all [] p upto (begun f u)
unfolding begun
begun_rel before p f v all upto r fit =
    let y = name_of f.name in
    let few = r.few in
    let counts = r.counts in
    let n = number (length v.home.heights) in
    let e : n ≡ length before.names = ap (λ hs. number (length hs)) r.heights ∙ ap number counts ∙ (let z : number (length before.names) ≡ length before.names = omega (arith, few, fit) in z) in
    let inner' = v.inner ++ (y, nm.Function n) ∷ [] in
    record {
      force = λ q a b x.
          ap (λ o. or_else o (builtin_named (builtin_of x)))
          (ap (λ o. known ((o ++ inner' ∷ []) ++ [] ∷ []) x) r.outer ∙ entry_names before v.inner n y x r.names e);
      vars = refl;
      again = λ q a x. refl;
      sooner = tt;
      few = omega arith;
      starts = omega arith;
      within = ap (λ s. let h : Home = record { functions = s ++ signature f ∷ []; heights = v.home.heights; result = result_of f.returns } in h) r.functions
          ∙ ap (λ s. let h : Home = record { functions = before.signatures ++ signature f ∷ []; heights = s; result = result_of f.returns } in h) r.heights;
    }

pub params_fit : (x : Option Params) → length (shapes_of x) ≤ (params_piece x).tokens
params_fit None = omega arith
params_fit (Some (params.Void t)) = omega arith
params_fit (Some (params.List x xs)) = let h = more xs 1 in omega (arith, h)
  where
    more : (xs : List ParamStep) (n : ℕ) → length (map (λ s. param_shape s.param) xs) ≤ (further_params n xs).tokens
    more [] n = omega arith
    more (y ∷ ys) n = let h = more ys (suc n) in omega (arith, h)
