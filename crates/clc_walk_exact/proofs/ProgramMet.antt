-- A whole program is judged to be what the walk meets.
use Rattle.std.proofs.Common.{◌≡◌, ℕ, suc, ◌+◌, ◌<◌, ◌≤◌, ◌^◌, List, [], ◌∷◌, ◌++◌, refl, sym, ap, ◌∙◌, subst, arith, length, length-append, append-nil, append_assoc}
use Rattle.std.specs.Prelude.{map, Result, Ok, Err}
use Rattle.std.specs.Result.{IsErrAnd}
use Rattle.clc_tree.specs.declared.functions.Function.{Function}
use Rattle.clc_tree.specs.declared.functions.Tree.{Tree}
use Rattle.clc_tree.specs.Flat.{joined, optional_tokens, returns_tokens as returns_text, params_tokens, block_tokens, function_tokens, flat_of}
use Rattle.clc_types.specs.declared.typed.TFunction.{TFunction}
use Rattle.clc_types.specs.declared.typed.TypeFault.{TypeFault}
use Rattle.clc_types.specs.declared.typed.TypeFault.TheVariants.{Rule, Memory}
use Rattle.clc_types.specs.declared.scope.State.{State}
use Rattle.clc_types.specs.Judged.{Judged, Fine, Faulty, both, next, faults_of, IsLeast}
use Rattle.clc_types.specs.Programs.{Before, function_piece, function_at, with_function, functions_at, no_function, program, Judges}
use Rattle.clc_types.specs.InternalSteps.{View, Stepped, Goes, Stops, and_then, Stands}
use Rattle.clc_types.specs.InternalWalks.{function_walk, functions_walk}
use Rattle.clc_walk_exact.proofs.Least.{Inside, inside_none, wider, inside_next, inside_both, least_left}
use Rattle.clc_walk_exact.proofs.Pieces.{Met}
use Rattle.clc_walk_exact.proofs.Headings.{Ready}
use Rattle.clc_walk_exact.proofs.Functions.{function_inside}
use Rattle.clc_walk_exact.proofs.FunctionMet.{function_met}
use Rattle.clc_walk_exact.proofs.Sizes.{optional_length, joined_length}
use Rattle.clc_walk_exact.proofs.PieceSizes.{params_length, returns_length}
use Rattle.clc_walk_exact.proofs.BlockLengths.{block_length}

abbrev pub size : Function → ℕ
size f = (function_piece [] f).tokens

abbrev pub sizes : List Function → ℕ
sizes [] = 0
sizes (f ∷ fs) = size f + sizes fs

-- ---- the tokens of a program

function_length : (f : Function) → size f ≡ length (function_tokens f)
function_length f =
    let a = optional_length f.lead in
    let b = returns_length f.returns in
    let d = params_length f.params in
    let e = block_length f.body in
    let n3 = length-append (params_tokens f.params) (f.closing ∷ block_tokens f.body) in
    let n2 = length-append (returns_text f.returns) (f.name ∷ f.opening ∷ (params_tokens f.params ++ f.closing ∷ block_tokens f.body)) in
    let n1 = length-append (optional_tokens f.lead) (returns_text f.returns ++ f.name ∷ f.opening ∷ (params_tokens f.params ++ f.closing ∷ block_tokens f.body)) in
    omega (arith, a, b, d, e, n1, n2, n3)

pub program_length : (fs : List Function) → sizes fs ≡ length (joined (map function_tokens fs))
program_length [] = refl
program_length (f ∷ fs) =
    let h = function_length f in
    let k = program_length fs in
    let n = joined_length (map function_tokens fs) (function_tokens f) in
    omega (arith, h, k, n)

-- ---- functions

functions_inside : (fs : List Function) (before : Before) (p : ℕ) → Inside p (p + sizes fs) (faults_of (functions_at before p fs))
functions_inside [] before p = inside_none p _
functions_inside (f ∷ fs) before p =
    let mid = p + size f in
    let hi = p + (size f + sizes fs) in
    let more = functions_at (with_function before p f) mid fs in
    inside_next p hi (both (function_at before p f) more) _
    (inside_both p hi (function_at before p f) more (wider p mid p hi _ (omega arith) (omega arith) (function_inside before p f))
    (wider mid (mid + sizes fs) p hi _ (omega arith) (omega arith) (functions_inside fs (with_function before p f) mid)))
    (λ y e. inside_none p hi)

one_function : (lo mid hi : ℕ) (done : List TFunction) (j : Judged TFunction) (w : Stepped TFunction) (k : Judged (List TFunction)) (z : TFunction → View → Stepped (List TFunction)) (Q R : View → Type 0)
    → Inside lo mid (faults_of j) → Inside mid hi (faults_of k) → Met j w Q
    → ((y : TFunction) (u : View) → Q u → Met (next k (λ ys. Fine ((done ++ y ∷ []) ++ ys))) (z y u) R)
    → Met (next (next (both j k) (λ y. Fine (y.0 ∷ y.1))) (λ ys. Fine (done ++ ys))) (and_then w z) R
one_function lo mid hi done (Fine a) (Goes b u) k z Q R i0 i1 h i =
    subst (λ x. Met (next (next (both (Fine a) k) (λ y. Fine (y.0 ∷ y.1))) (λ ys. Fine (done ++ ys))) (z x u) R) h.0 (subst (λ y. Met y (z a u) R) (whole k) (i a u h.1))
  where
    whole : (k : Judged (List TFunction)) → next k (λ ys. Fine ((done ++ a ∷ []) ++ ys)) ≡ next (next (both (Fine a) k) (λ y. Fine (y.0 ∷ y.1))) (λ ys. Fine (done ++ ys))
    whole (Fine ys) = ap Fine (append_assoc done (a ∷ []) ys)
    whole (Faulty g gs) = refl
one_function lo mid hi done (Fine a) (Stops g) k z Q R i0 i1 h i = absurd h
one_function lo mid hi done (Faulty f fs) (Goes b u) k z Q R i0 i1 h i = absurd h
one_function lo mid hi done (Faulty f fs) (Stops g) (Fine ys) z Q R i0 i1 h i = h
one_function lo mid hi done (Faulty f fs) (Stops g) (Faulty x xs) z Q R i0 i1 h i = least_left g lo mid hi (f ∷ fs) (x ∷ xs) i0 i1 h

functions_met : (fs : List Function) (before : Before) (p : ℕ) (v : View) (done : List TFunction) → Ready before p v → p + sizes fs < 2 ^ 32
    → Met (next (functions_at before p fs) (λ ys. Fine (done ++ ys))) (functions_walk done v fs) (λ u. Unit {0})
functions_met [] before p v done r fit = (append-nil done, tt)
functions_met (f ∷ fs) before p v done r fit =
    let mid = p + size f in
    one_function p mid (mid + sizes fs) done (function_at before p f) (function_walk f v) (functions_at (with_function before p f) mid fs) (λ y u. functions_walk (done ++ y ∷ []) u fs)
    (Ready (with_function before p f) mid) (λ u. Unit {0})
    (function_inside before p f) (functions_inside fs (with_function before p f) mid) (function_met before p f v r (omega (arith, fit)))
    (λ y u k. functions_met fs (with_function before p f) mid u (done ++ y ∷ []) k (omega (arith, fit)))

-- ---- the answer

abbrev pub start : View
start = record { outer = []; inner = []; home = record { functions = []; heights = []; result = Rattle.std.specs.Prelude.None }; vars = []; at = 0 }

ready : Ready no_function 0 start
ready = record { outer = refl; names = λ x. refl; functions = refl; heights = refl; counts = refl; low = omega arith; few = omega arith; at = refl }

judged : (j : Judged (List TFunction)) (w : Stepped (List TFunction)) (r : Result (List TFunction) TypeFault) (new : State) → Met (next j (λ ys. Fine ([] ++ ys))) w (λ u. Unit {0}) → Stands w r new
    → Judges j r
judged (Fine a) (Goes b v) (Ok x) new h i = h.0 ∙ i.0
judged (Fine a) (Goes b v) (Err Memory) new h i = tt
judged (Fine a) (Goes b v) (Err (Rule r t)) new h i = absurd i
judged (Fine a) (Stops g) r new h i = absurd h
judged (Faulty f fs) (Goes b v) r new h i = absurd h
judged (Faulty f fs) (Stops g) (Ok x) new h i = absurd i
judged (Faulty f fs) (Stops g) (Err Memory) new h i = tt
judged (Faulty f fs) (Stops g) (Err (Rule r t)) new h i = subst (λ z. IsLeast z (f ∷ fs)) i h

pub judges : (tree : Tree) (r : Result (List TFunction) TypeFault) (new : State) → length (flat_of tree) < 2 ^ 32 → Stands (functions_walk [] start tree.functions) r new → Judges (program tree) r
judges tree r new fit h =
    let n = program_length tree.functions in
    judged (functions_at no_function 0 tree.functions) (functions_walk [] start tree.functions) r new (functions_met tree.functions no_function 0 start [] ready (omega (arith, n, fit))) h

-- what a `?` hands on
pub judged_on : {A : Type 0} (j : Judged A) (r : Result A TypeFault) (e : TypeFault) → IsErrAnd r (λ y. y ≡ e) → Judges j (Err e) → Judges j r
judged_on j (Ok a) e x h = absurd x
judged_on j (Err y) e x h = subst (λ z. Judges j (Err z)) (sym x) h
