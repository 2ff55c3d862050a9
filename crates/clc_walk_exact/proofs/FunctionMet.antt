-- One function is judged to be what the walk meets.
use Rattle.std.proofs.Common.{◌≡◌, ℕ, suc, ◌+◌, ◌<◌, ◌≤◌, ◌^◌, Bool, true, false, List, [], ◌∷◌, ◌++◌, Option, Some, None, refl, sym, ap, ◌∙◌, subst, arith, length, length-append, append-nil, append_assoc, is_some}
use Rattle.std.specs.Prelude.{map, min, eqb, bytes_eq, if◌then◌else◌, Result, Ok, Err, ◌&&◌}
use Rattle.clc_lexer.specs.declared.token.Token.{Token}
use Rattle.clc_tree.specs.declared.functions.Param.{Param}
use Rattle.clc_tree.specs.declared.functions.Param.TheVariants as param
use Rattle.clc_tree.specs.declared.functions.ParamStep.{ParamStep}
use Rattle.clc_tree.specs.declared.functions.Params.{Params}
use Rattle.clc_tree.specs.declared.functions.Params.TheVariants as params
use Rattle.clc_tree.specs.declared.functions.Function.{Function}
use Rattle.clc_tree.specs.declared.functions.Tree.{Tree}
use Rattle.clc_tree.specs.declared.expressions.Scalar.{Scalar as Written}
use Rattle.clc_tree.specs.declared.expressions.Scalar.TheVariants as written
use Rattle.clc_types.specs.declared.typed.TStmt.{TStmt}
use Rattle.clc_types.specs.declared.typed.TStmt.TheVariants as st
use Rattle.clc_types.specs.declared.typed.TFunction.{TFunction}
use Rattle.clc_types.specs.declared.forms.Fault.{Fault}
use Rattle.clc_types.specs.declared.forms.Home.{Home}
use Rattle.clc_types.specs.declared.forms.Named.{Named}
use Rattle.clc_types.specs.declared.forms.Named.TheVariants as nm
use Rattle.clc_types.specs.declared.scope.State.{State}
use Rattle.clc_types.specs.declared.typed.TypeFault.{TypeFault}
use Rattle.clc_types.specs.declared.typed.TypeFault.TheVariants.{Rule, Memory}
use Rattle.clc_types.specs.declared.typed.Typed.{Typed}
use Rattle.clc_types.specs.Judged.{Judged, Fine, Faulty, both, next, unless, violations, faults_of, Context, Part, IsLeast}
use Rattle.clc_types.specs.Words.{name_of, one_if, is_kernel, type_tokens}
use Rattle.clc_types.specs.Rules.{var_of}
use Rattle.clc_types.specs.Heights.{stmt_reach}
use Rattle.clc_types.specs.Names.{or_else, outermost, function_of, builtin_named, builtin_of}
use Rattle.clc_types.specs.InternalScope.{Entries, found, known, look_in}
use Rattle.clc_types.specs.Blocks.{Decl, Around, Piece, last_visible, nothing, quiet, past, ending, seq, made, declared, pointer_tokens, block}
use Rattle.clc_types.specs.Programs.{Before, in_force, param_shape, param_tokens, param_name, counted, param_piece, further_params, params_piece, shapes_of, result_of, returns_tokens, heading, head, inside, function_piece, signature, home_of, function_at, height_in, with_function, functions_at, no_function, program, Judges}
use Rattle.clc_types.specs.InternalWalk.{Walked, Right, Wrong, guarded, bump}
use Rattle.clc_types.specs.InternalSteps.{View, Stepped, Goes, Stops, and_then, reach, PieceWalk, knows_in, number, skipped, left, declared_in, walk_block, nothing as walk_nothing, past as walk_past, ending as walk_ending, seq as walk_seq, made as walk_made, declared as walk_declared, Stands, view_of}
use Rattle.clc_types.specs.InternalWalks.{counted_in, param_walk, further_walk, params_in, heading_in, begun, function_in, ended, function_walk, functions_walk}
use Rattle.clc_types.proofs.Scopes.{known_last}
use Rattle.clc_walk_exact.proofs.Least.{Inside, Same, inside_none, wider, inside_unless, inside_next, inside_both, guard_same, least_left}
use Rattle.clc_walk_exact.proofs.Needs.{sound_2}
use Rattle.clc_walk_exact.proofs.Agree.{Fair, bump_is}
use Rattle.clc_walk_exact.proofs.Force.{Later, found_push}
use Rattle.clc_walk_exact.proofs.Pieces.{Stood, Met, at_token, reach_met, met_next, met_weak, After, Rel, skipped_is, nothing_stood, quiet_stood, past_stood, ending_stood, made_stood, seq_stood, declared_stood, stood_as}
use Rattle.clc_walk_exact.proofs.Standing.{tested_fair}
use Rattle.clc_walk_exact.proofs.Body.{whole_block}
use Rattle.clc_walk_exact.proofs.Parameters.{inside_walk, inside_stood}
use Rattle.clc_walk_exact.proofs.Reaches.{stmt_low, greatest_last}
use Rattle.clc_walk_exact.proofs.Headings.{met_head, met_known, Ready, entry_names, head_tokens, heading_inside, heading_met}
use Rattle.clc_walk_exact.proofs.Openings.{begun_rel, params_fit}
use Rattle.clc_walk_exact.proofs.Functions.{inside_end}

pub function_met : (before : Before) (p : ℕ) (f : Function) (v : View) → Ready before p v → p + (function_piece before.names f).tokens < 2 ^ 32
    → Met (function_at before p f) (function_walk f v) (Ready (with_function before p f) (p + (function_piece before.names f).tokens))
unfolding function_walk begun ended left
function_met before p f v r fit =
    let s = function_piece before.names f in
    let hi = p + s.tokens in
    let all = s.decls p hi p in
    let fs = before.names ++ name_of f.name ∷ [] in
    let home = home_of before f in
    let c : Around = record { names = record { look = in_force all fs; home = home }; all = all } in
    let mid = p + (head_tokens f + 1) in
    let H = (head before.names f).at c false p p in
    let I = (inside f).at c false p mid in
    let eh : mid + (inside f).tokens ≡ hi = omega arith in
    let u = at_token v mid in
    let go = λ (body : List TStmt). let z : Judged TFunction = Fine (record {
      name = name_of f.name;
      at = f.name.from;
      kernel = is_kernel f.lead;
      result = result_of f.returns;
      params = length (shapes_of f.params);
      vars = map (λ d. var_of d.shape) all;
      body = st.Block body;
    }) in z in
    let k = λ (w : View). and_then (params_in f.params (skipped 1 (begun f w))) (λ z w. and_then (walk_block f.body false (skipped 2 w)) (λ body x. Goes (function_in f body x) (ended (st.Block body) x))) in
    let G = inside_stood fs home all f in
    let R = Ready (with_function before p f) hi in
    let ds = (inside f).decls p hi mid in
    met_head p mid (mid + (inside f).tokens) H (heading_in f (skipped (head_tokens f) v)) I go k (λ x. x ≡ u) R
    (heading_inside c before.names f false p p) (G.inside false p mid) (heading_met before p f v c r (omega (arith, fit)))
    (λ a x eH q.
    subst (λ z. Met (next I go) (k z) R) (sym q)
    (subst (λ z. Met (next I go) z R) (inside_end f u)
    (met_known I (inside_walk fs home all f false (begun f u)) go (λ body x. Goes (function_in f body x) (ended (st.Block body) x)) (After fs home all [] ds p hi (begun f u) (mid + (inside f).tokens)) R
    (G.met false p hi [] [] (begun f u) (sym (append-nil ds)) tt (begun_rel before p f v all hi r (omega (arith, fit))) (omega arith) fit)
    (λ body y eI d.
    let rel = d.rel in
    let vars = rel.vars in
    let within = rel.within in
    let pf = params_fit f.params in
    let F : TFunction = record { name = name_of f.name; at = f.name.from; kernel = is_kernel f.lead; result = result_of f.returns; params = length (shapes_of f.params); vars = map (λ d. var_of d.shape) all; body = st.Block body } in
    let en : length (shapes_of f.params) ≡ number (length (shapes_of f.params)) = omega (arith, pf, fit) in
    let ef : F ≡ function_in f body y
    = ap (λ z. let g : TFunction = record { name = name_of f.name; at = f.name.from; kernel = is_kernel f.lead; result = result_of f.returns; params = z; vars = map (λ d. var_of d.shape) all; body = st.Block body } in g) en
    ∙ ap (λ z. let g : TFunction = record { name = name_of f.name; at = f.name.from; kernel = is_kernel f.lead; result = result_of f.returns; params = number (length (shapes_of f.params)); vars = z; body = st.Block body } in g) (sym vars) in
    let whole : function_at before p f ≡ Fine F = ap (λ z. next (next (both z I) (λ y. Fine y.1)) go) eH ∙ ap (λ z. next (next (both (Fine a) z) (λ y. Fine y.1)) go) eI in
    let outer : y.outer ≡ (v.inner ++ (name_of f.name, nm.Function (number (length v.home.heights))) ∷ []) ∷ [] = d.outer ∙ ap (λ o. o ++ (v.inner ++ (name_of f.name, nm.Function (number (length v.home.heights))) ∷ []) ∷ []) r.outer in
    let few = r.few in
    let counts = r.counts in
    let pos : 0 < s.tokens = omega arith in
    let low = r.low in
    let most = stmt_low before.heights (st.Block body) in
    let fits : number (suc (stmt_reach before.heights (st.Block body))) ≡ suc (stmt_reach before.heights (st.Block body)) = omega (arith, most, low, counts, few, pos, fit) in
    let high : suc (stmt_reach before.heights (st.Block body)) ≡ height_in before.heights (function_at before p f) = ap (height_in before.heights) (sym whole) in
    let longer = length-append before.heights (height_in before.heights (function_at before p f) ∷ []) in
    let n : number (length v.home.heights) ≡ length before.names = ap (λ hs. number (length hs)) r.heights ∙ ap number counts ∙ (let z : number (length before.names) ≡ length before.names = omega (arith, few, fit) in z) in (
      ef,
      record {
        outer = ap (λ o. Rattle.clc_types.specs.InternalSteps.front o) outer;
        names = λ x. ap (λ o. found (Rattle.clc_types.specs.InternalSteps.last_of o y.inner) x) outer ∙ entry_names before v.inner (number (length v.home.heights)) (name_of f.name) x r.names n;
        functions = ap (λ h. h.functions) within;
        heights = ap (λ h. h.heights ++ number (suc (stmt_reach h.heights (st.Block body))) ∷ []) within ∙ ap (λ n. before.heights ++ n ∷ []) (fits ∙ high);
        counts = longer ∙ ap (λ z. z + 1) counts ∙ sym (length-append before.names (name_of f.name ∷ []));
        low = greatest_last before.heights (height_in before.heights (function_at before p f)) _ (omega (arith, low, longer)) (omega (arith, low, longer, most, high));
        few = let l = length-append before.names (name_of f.name ∷ []) in omega (arith, l, few, pos);
        at = d.at ∙ eh;
      },
    )))))
