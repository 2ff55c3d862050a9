-- The heading of a function is judged to be what the walk meets.
use Rattle.std.proofs.Common.{◌≡◌, ℕ, suc, ◌+◌, ◌<◌, ◌≤◌, ◌^◌, Bool, true, false, List, [], ◌∷◌, ◌++◌, Option, Some, None, refl, sym, ap, ◌∙◌, subst, arith, length, length-append, append-nil, append_assoc, is_some}
use Rattle.std.specs.Prelude.{map, min, eqb, bytes_eq, if◌then◌else◌, Result, Ok, Err, ◌&&◌}
use Rattle.clc_lexer.specs.declared.token.Token.{Token}
use Rattle.clc_tree.specs.declared.functions.Param.{Param}
use Rattle.clc_tree.specs.declared.functions.Param.TheVariants as param
use Rattle.clc_tree.specs.declared.functions.ParamStep.{ParamStep}
use Rattle.clc_tree.specs.declared.functions.Params.{Params}
use Rattle.clc_tree.specs.declared.functions.Params.TheVariants as params
use Rattle.clc_tree.specs.declared.functions.Function.{Function}
use Rattle.clc_tree.specs.declared.functions.Tree.{Tree}
use Rattle.clc_tree.specs.declared.expressions.Scalar.{Scalar as Written}
use Rattle.clc_tree.specs.declared.expressions.Scalar.TheVariants as written
use Rattle.clc_types.specs.declared.type_rule.TypeRule.{TypeRule}
use Rattle.clc_types.specs.declared.type_rule.TypeRule.TheVariants.{S2, S8}
use Rattle.clc_types.specs.declared.typed.TStmt.{TStmt}
use Rattle.clc_types.specs.declared.typed.TStmt.TheVariants as st
use Rattle.clc_types.specs.declared.typed.TFunction.{TFunction}
use Rattle.clc_types.specs.declared.forms.Fault.{Fault}
use Rattle.clc_types.specs.declared.forms.Home.{Home}
use Rattle.clc_types.specs.declared.forms.Named.{Named}
use Rattle.clc_types.specs.declared.forms.Named.TheVariants as nm
use Rattle.clc_types.specs.declared.scope.State.{State}
use Rattle.clc_types.specs.declared.typed.TypeFault.{TypeFault}
use Rattle.clc_types.specs.declared.typed.TypeFault.TheVariants.{Rule, Memory}
use Rattle.clc_types.specs.declared.typed.Typed.{Typed}
use Rattle.clc_types.specs.Judged.{Judged, Fine, Faulty, both, next, unless, violations, faults_of, Context, Part, IsLeast}
use Rattle.clc_types.specs.Words.{name_of, one_if, is_kernel, type_tokens}
use Rattle.clc_types.specs.Rules.{var_of}
use Rattle.clc_types.specs.Heights.{greatest, stmt_reach}
use Rattle.clc_types.specs.Names.{or_else, outermost, function_of, builtin_named, builtin_of}
use Rattle.clc_types.specs.InternalScope.{Entries, found, known, look_in}
use Rattle.clc_types.specs.Blocks.{Decl, Around, Piece, last_visible, nothing, quiet, past, ending, seq, made, declared, pointer_tokens, block}
use Rattle.clc_types.specs.Programs.{Before, in_force, param_shape, param_tokens, param_name, counted, param_piece, further_params, params_piece, shapes_of, result_of, returns_tokens, heading, head, inside, function_piece, signature, home_of, function_at, height_in, with_function, functions_at, no_function, program, Judges}
use Rattle.clc_types.specs.InternalWalk.{Walked, Right, Wrong, guarded, bump}
use Rattle.clc_types.specs.InternalSteps.{View, Stepped, Goes, Stops, and_then, reach, PieceWalk, knows_in, number, skipped, left, declared_in, walk_block, nothing as walk_nothing, past as walk_past, ending as walk_ending, seq as walk_seq, made as walk_made, declared as walk_declared, Stands, view_of}
use Rattle.clc_types.specs.InternalWalks.{counted_in, param_walk, further_walk, params_in, heading_in, begun, function_in, ended, function_walk, functions_walk}
use Rattle.clc_types.proofs.Scopes.{known_last}
use Rattle.clc_walk_exact.proofs.Least.{Inside, Same, inside_none, wider, inside_unless, inside_next, inside_both, guard_same, least_left}
use Rattle.clc_walk_exact.proofs.Needs.{sound_2}
use Rattle.clc_walk_exact.proofs.Agree.{Fair, bump_is}
use Rattle.clc_walk_exact.proofs.Force.{Later, found_push}
use Rattle.clc_walk_exact.proofs.Pieces.{Stood, Met, at_token, reach_met, met_next, met_weak, After, Rel, skipped_is, nothing_stood, quiet_stood, past_stood, ending_stood, made_stood, seq_stood, declared_stood, stood_as}
use Rattle.clc_walk_exact.proofs.Standing.{tested_fair}
use Rattle.clc_walk_exact.proofs.Body.{whole_block}
use Rattle.clc_walk_exact.proofs.Parameters.{inside_walk, inside_stood}

-- ---- one function

-- the heading, and then what is inside
pub met_head : {A B C : Type 0} (lo mid hi : ℕ) (h : Judged A) (w : Stepped A) (i : Judged B) (go : B → Judged C) (k : View → Stepped C) (Q R : View → Type 0)
    → Inside lo mid (faults_of h) → Inside mid hi (faults_of i) → Met h w Q → ((a : A) (u : View) → h ≡ Fine a → Q u → Met (next i go) (k u) R)
    → Met (next (next (both h i) (λ y. Fine y.1)) go) (and_then w (λ y u. k u)) R
met_head {B = B} {C = C} lo mid hi (Fine a) (Goes b u) i go k Q R i0 i1 m n = subst (λ z. Met z (k u) R) (same i) (n a u refl m.1)
  where
    same : (i : Judged B) → next i go ≡ next (next (both (Fine a) i) (λ y. Fine y.1)) go
    same (Fine c) = refl
    same (Faulty f fs) = refl
met_head lo mid hi (Fine a) (Stops g) i go k Q R i0 i1 m n = absurd m
met_head lo mid hi (Faulty f fs) (Goes b u) i go k Q R i0 i1 m n = absurd m
met_head lo mid hi (Faulty f fs) (Stops g) (Fine c) go k Q R i0 i1 m n = m
met_head lo mid hi (Faulty f fs) (Stops g) (Faulty x xs) go k Q R i0 i1 m n = least_left g lo mid hi (f ∷ fs) (x ∷ xs) i0 i1 m

pub met_known : {A B : Type 0} (j : Judged A) (w : Stepped A) (go : A → Judged B) (z : A → View → Stepped B) (Q R : View → Type 0)
    → Met j w Q → ((a : A) (u : View) → j ≡ Fine a → Q u → Met (go a) (z a u) R) → Met (next j go) (and_then w z) R
met_known (Fine a) (Goes b u) go z Q R h i = subst (λ x. Met (go a) (z x u) R) h.0 (i a u refl h.1)
met_known (Fine a) (Stops g) go z Q R h i = absurd h
met_known (Faulty f fs) (Goes b u) go z Q R h i = absurd h
met_known (Faulty f fs) (Stops g) go z Q R h i = h

-- what the walk has between two functions
pub record Ready (before : Before) (p : ℕ) (v : View) : Type 0 where
  pub outer : v.outer ≡ []
  pub names : (x : List ℕ) → found v.inner x ≡ function_of 0 before.names x
  pub functions : v.home.functions ≡ before.signatures
  pub heights : v.home.heights ≡ before.heights
  pub counts : length before.heights ≡ length before.names
  pub low : greatest before.heights ≤ length before.heights
  pub few : length before.names ≤ p
  pub at : v.at ≡ p

function_push : (fs : List (List ℕ)) (n : ℕ) (y x : List ℕ) → function_of n (fs ++ y ∷ []) x ≡ or_else (function_of n fs x) (if bytes_eq x y then Some (nm.Function (n + length fs)) else None)
function_push [] n y x = ap (λ m. if bytes_eq x y then Some (nm.Function m) else None) (let e : n ≡ n + 0 = omega arith in e)
function_push (f ∷ fs) n y x = over (bytes_eq x f) (function_push fs (suc n) y x ∙ ap (λ m. or_else (function_of (suc n) fs x) (if bytes_eq x y then Some (nm.Function m) else None)) (let e : suc n + length fs ≡ n + suc (length fs) = omega arith in e))
  where
    over : (b : Bool) → function_of (suc n) (fs ++ y ∷ []) x ≡ or_else (function_of (suc n) fs x) (if bytes_eq x y then Some (nm.Function (n + suc (length fs))) else None)
        → (if b then Some (nm.Function n) else function_of (suc n) (fs ++ y ∷ []) x) ≡ or_else (if b then Some (nm.Function n) else function_of (suc n) fs x) (if bytes_eq x y then Some (nm.Function (n + suc (length fs))) else None)
    over true h = refl
    over false h = h

-- the entries of the outermost block, with the function's own
pub entry_names : (before : Before) (inner : Entries) (n : ℕ) (y x : List ℕ) → ((x : List ℕ) → found inner x ≡ function_of 0 before.names x) → n ≡ length before.names
    → found (inner ++ (y, nm.Function n) ∷ []) x ≡ function_of 0 (before.names ++ y ∷ []) x
entry_names before inner n y x h e =
    let e0 : n ≡ 0 + length before.names = omega (arith, e) in
    found_push inner y x (nm.Function n)
    ∙ ap (λ o. or_else o (if bytes_eq x y then Some (nm.Function n) else None)) (h x)
    ∙ ap (λ m. or_else (function_of 0 before.names x) (if bytes_eq x y then Some (nm.Function m) else None)) e0
    ∙ sym (function_push before.names 0 y x)

abbrev outer_name : Function → List ℕ
outer_name f = name_of f.name

abbrev pub head_tokens : Function → ℕ
head_tokens f = one_if f.lead + returns_tokens f.returns

-- the tests of the heading
abbrev head_tests : List (List ℕ) → Function → List (TypeRule × Bool)
head_tests fs f = (S2, is_some (outermost fs (name_of f.name))) ∷ (S8, is_kernel f.lead && is_some (result_of f.returns)) ∷ []

pub heading_inside : (c : Around) (fs : List (List ℕ)) (f : Function) (l : Bool) (from p : ℕ) → Inside p (p + (head_tokens f + 1)) (faults_of ((head fs f).at c l from p))
heading_inside c fs f l from p =
    let q = p + head_tokens f in
    wider q (q + 1) p (p + (head_tokens f + 1)) _ (omega arith) (omega arith) (inside_unless q (q + 1) _ tt (sound_2 q S2 S8 _ _ (omega arith)).inside)

pub heading_met : (before : Before) (p : ℕ) (f : Function) (v : View) (c : Around) → Ready before p v → p + (head_tokens f + 1) < 2 ^ 32
    → Met ((head before.names f).at c false p p) (heading_in f (skipped (head_tokens f) v)) (λ u. u ≡ at_token v (p + (head_tokens f + 1)))
unfolding heading_in
heading_met before p f v c r fit =
    let q = p + head_tokens f in
    let hi = p + (head_tokens f + 1) in
    let x = name_of f.name in
    let a = r.at in
    let vq = at_token v q in
    let e : skipped (head_tokens f) v ≡ vq = skipped_is (head_tokens f) v (omega (arith, a, fit)) ∙ ap (at_token v) (let z : v.at + head_tokens f ≡ q = omega (arith, a) in z) in
    let look : (knows_in vq).look x ≡ outermost before.names x
    = ap (λ o. or_else o (builtin_named (builtin_of x))) (ap (λ o. known (o ++ v.inner ∷ []) x) r.outer ∙ known_last [] v.inner x ∙ none_right (found v.inner x) ∙ r.names x) in
    let J = unless (violations q (head_tests before.names f)) tt in
    let W : Option Named → Stepped (Unit {0}) = λ o. reach vq (guarded (violations q ((S2, is_some o) ∷ (S8, is_kernel f.lead && is_some (result_of f.returns)) ∷ [])) (Right tt (bump q 1))) in
    subst (λ z. Met J (heading_in f z) (λ u. u ≡ at_token v hi)) (sym e)
    (subst (λ o. Met J (W o) (λ u. u ≡ at_token v hi)) (sym look)
    (reach_met vq hi J (guarded (violations q (head_tests before.names f)) (Right tt (bump q 1)))
    (subst (λ z. Same hi J (guarded (violations q (head_tests before.names f)) (Right tt z))) (sym (bump_is q 1 (omega (arith, fit)) ∙ omega arith)) (guard_same hi (violations q (head_tests before.names f)) tt (sound_2 q S2 S8 _ _ (omega arith)).sorted))))
  where
    none_right : (o : Option Named) → or_else o None ≡ o
    none_right (Some y) = refl
    none_right None = refl
