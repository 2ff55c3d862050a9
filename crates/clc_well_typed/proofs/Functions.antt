-- Each proper function is given a well-typed one.
use Rattle.std.proofs.Common.{◌≡◌, ℕ, zero, suc, ◌+◌, ◌<◌, ◌≤◌, Bool, true, false, not, ◌&&◌, ◌||◌, eqb, List, [], ◌∷◌, ◌++◌, Option, Some, None, take, slice_get, length, is_some, refl, sym, ap, ◌∙◌, subst, arith, append-nil, append_assoc, eqb-true, eq-eqb, le-leb, inl, inr, ◌⊎◌, true≢false}
use Rattle.std.specs.Prelude.{map, bytes_eq, if◌then◌else◌}
use Rattle.std.proofs.lemmas.Bool.{and_parts, cases_lt, eqb-false, not-false, or_parts}
use Rattle.clc_reading.specs.Reading.{Spelling}
use Rattle.clc_lexer.specs.declared.token.Token.{Token}
use Rattle.clc_tree.specs.Programs as g
use Rattle.clc_tree.specs.declared.functions.Param.{Param}
use Rattle.clc_tree.specs.declared.functions.Param.TheVariants as param
use Rattle.clc_tree.specs.declared.functions.ParamStep.{ParamStep}
use Rattle.clc_tree.specs.declared.functions.Params.{Params}
use Rattle.clc_tree.specs.declared.functions.Params.TheVariants as params
use Rattle.clc_tree.specs.declared.functions.Function.{Function}
use Rattle.q_lane.specs.declared.kinds.Scalar.{Scalar}
use Rattle.clc_types.specs.declared.type_rule.TypeRule.TheVariants.{S2, S6, S7, S8, S9, S14}
use Rattle.clc_types.specs.declared.typed.Builtin.{Builtin}
use Rattle.clc_types.specs.declared.typed.Var.{Var}
use Rattle.clc_types.specs.declared.typed.TStmt.{TStmt, out-TStmt, out-roll-TStmt}
use Rattle.clc_types.specs.declared.typed.TStmt.TheOpen as o
use Rattle.clc_types.specs.declared.typed.TStmt.TheVariants as st
use Rattle.clc_types.specs.declared.typed.TFunction.{TFunction}
use Rattle.clc_types.specs.declared.forms.Shape.{Shape}
use Rattle.clc_types.specs.declared.forms.Named.{Named}
use Rattle.clc_types.specs.declared.forms.Named.TheVariants as nm
use Rattle.clc_types.specs.declared.forms.Argument.{Argument}
use Rattle.clc_types.specs.declared.forms.Signature.{Signature}
use Rattle.clc_types.specs.Judged.{Fine, violations}
use Rattle.clc_types.specs.Words.{name_of, one_if, is_kernel}
use Rattle.clc_types.specs.Rules.{matches, kind_of, var_of, ty_of, result_kind, call_kind, fits, is_highest, signed_needs, call_needs}
use Rattle.clc_types.specs.Names.{or_else, function_of, outermost, builtin_named, builtin_of}
use Rattle.clc_types.specs.Blocks.{Decl, is_visible, last_visible, Around, nothing, quiet, past, seq, declared, block}
use Rattle.clc_types.specs.Programs.{in_force, param_shape, param_tokens, param_name, counted, param_piece, further_params, params_piece, shapes_of, result_of, returns_tokens, heading, head, inside, function_piece, signature, Before, home_of, function_at}
use Rattle.clc_types.specs.WellTyped.{is_array, accepts, counts, together, declared as declared_in, no_arrays, is_block, function_fits}
use Rattle.clc_well_typed.proofs.Judging.{fine_is, next_parts, unless_parts, append_none, not_violated, yes, yes7}
use Rattle.clc_well_typed.proofs.Taken.{fitting}
use Rattle.clc_well_typed.proofs.TypedNodes.{fits_block, declared_block}
use Rattle.clc_well_typed.proofs.Calls.{Accepted, Called}
use Rattle.clc_well_typed.proofs.Parts.{Gives}
use Rattle.clc_well_typed.proofs.Places.{at_length, length_last}
use Rattle.clc_well_typed.proofs.Pieces.{variable_of, Still, Both, Numbered, Placed, Stands, quiet_stands, past_stands, ending_stands, made_stands, seq_stands, declared_stands}
use Rattle.clc_well_typed.proofs.Statements.{value_typed, OkStmts, block_stands}

-- ---- functions by their signatures

pub record Alike (s : Signature) (f : TFunction) : Type 0 where
  pub kernel : f.kernel ≡ s.kernel
  pub returned : f.result ≡ s.result
  pub params : take f.params f.vars ≡ map var_of s.params

abbrev pub AllAlike : List Signature → List TFunction → Type 0
AllAlike [] [] = Unit {0}
AllAlike (s ∷ ss) (f ∷ fs) = Alike s f × AllAlike ss fs
AllAlike _ _ = ⊥

pub alike_last : (ss : List Signature) (fs : List TFunction) (s : Signature) (f : TFunction) → AllAlike ss fs → Alike s f → AllAlike (ss ++ s ∷ []) (fs ++ f ∷ [])
alike_last [] [] s f h i = (i, tt)
alike_last [] (y ∷ ys) s f h i = absurd h
alike_last (x ∷ xs) [] s f h i = absurd h
alike_last (x ∷ xs) (y ∷ ys) s f h i = (h.0, alike_last xs ys s f h.1 i)

record Pair (ss more : List Signature) (fs : List TFunction) (i : ℕ) : Type 0 where
  pub signature : Signature
  pub function : TFunction
  pub first : slice_get (ss ++ more) i ≡ Some signature
  pub second : slice_get fs i ≡ Some function
  pub alike : Alike signature function

pair_at : (ss more : List Signature) (fs : List TFunction) (i : ℕ) → AllAlike ss fs → i < length ss → Pair ss more fs i
pair_at [] more fs i h lt = absurd (omega (arith, lt))
pair_at (s ∷ ss) more [] i h lt = absurd h
pair_at (s ∷ ss) more (f ∷ fs) zero h lt = record { signature = s; function = f; first = refl; second = refl; alike = h.0 }
pair_at (s ∷ ss) more (f ∷ fs) (suc i) h lt =
    let p = pair_at ss more fs i h.1 (omega (arith, lt)) in
    record { signature = p.signature; function = p.function; first = p.first; second = p.second; alike = p.alike }

-- ---- calls

arguments_fit : (ss : List Shape) (xs : List Argument) → length ss ≡ length xs → fits ss xs ≡ [] → Accepted (map var_of ss) xs
arguments_fit [] [] e h = tt
arguments_fit [] (x ∷ xs) e h = absurd (omega (arith, e))
arguments_fit (s ∷ ss) [] e h = absurd (omega (arith, e))
arguments_fit (s ∷ ss) (x ∷ xs) e h =
    let d = append_none (violations x.place ((S7, not (matches (kind_of 0 s) x.kind)) ∷ [])) (fits ss xs) h in
    let f = fitting (kind_of 0 s) x.kind (not-false (matches (kind_of 0 s) x.kind) (not_violated x.place S7 (not (matches (kind_of 0 s) x.kind)) [] d.0).0) in
    (f.right, ap (λ z. accepts z (ty_of x.kind)) (value_typed s) ∙ f.accepts, arguments_fit ss xs (omega (arith, e)) d.1)

-- what is called is no kernel and stands before
record Passed (s : Signature) (f n : ℕ) (args : List Argument) : Type 0 where
  pub kernel : s.kernel ≡ false
  pub other : eqb f n ≡ false
  pub count : eqb (length s.params) (length args) ≡ true
  pub fits : fits s.params args ≡ []

no_kernel : (b c : Bool) → c ≡ false → b && not c ≡ false → b ≡ false
no_kernel true true e h = absurd (cc)
no_kernel true false e h = absurd (cc)
no_kernel false c e h = refl

passed : (p f n : ℕ) (s : Signature) (args : List Argument) (high : Bool)
    → violations p ((S6, not (eqb (length s.params) (length args))) ∷ (S8, s.kernel && not (eqb f n)) ∷ (S9, eqb f n || high) ∷ []) ++ fits s.params args ≡ [] → Passed s f n args
passed p f n s args high h =
    let d = append_none (violations p ((S6, not (eqb (length s.params) (length args))) ∷ (S8, s.kernel && not (eqb f n)) ∷ (S9, eqb f n || high) ∷ [])) (fits s.params args) h in
    let e6 = not_violated p S6 (not (eqb (length s.params) (length args))) _ d.0 in
    let e8 = not_violated p S8 (s.kernel && not (eqb f n)) _ e6.1 in
    let e9 = not_violated p S9 (eqb f n || high) [] e8.1 in
    let o = (or_parts (eqb f n) high e9.0).0 in
    record { kernel = no_kernel s.kernel (eqb f n) o e8.0; other = o; count = not-false (eqb (length s.params) (length args)) e6.0; fits = d.1 }

called_by : (s : Signature) (f : TFunction) (before : List TFunction) (i n : ℕ) (args : List Argument) (o : Option Signature) → o ≡ Some s → slice_get before i ≡ Some f → Alike s f → Passed s i n args → Called before i args (call_kind o)
called_by s f before i n args o e h a q = record {
  callee = f;
  found = h;
  kernel = a.kernel ∙ q.kernel;
  fits = subst (λ z. Accepted z args) (sym a.params) (arguments_fit s.params args (eqb-true (length s.params) (length args) q.count) q.fits);
  typed = ap (λ z. ty_of (result_kind z)) a.returned ∙ ap (λ z. ty_of (call_kind z)) (sym e);
}

-- ---- what is in force

-- variables and functions that are there
abbrev There : List Var → ℕ → Named → Type 0
There vars n (nm.Variable v s) = slice_get vars v ≡ Some (var_of s)
There vars n (nm.Function f) = f < n
There vars n (nm.Builtin f) = Unit {0}

abbrev ThereIf : List Var → ℕ → Option Named → Type 0
ThereIf vars n None = Unit {0}
ThereIf vars n (Some y) = There vars n y

there_else : (vars : List Var) (n : ℕ) (a b : Option Named) → ThereIf vars n a → ThereIf vars n b → ThereIf vars n (or_else a b)
there_else vars n None b h i = i
there_else vars n (Some y) b h i = h

there_if : (vars : List Var) (n : ℕ) (b : Bool) (y : Named) → There vars n y → ThereIf vars n (if b then Some y else None)
there_if vars n true y h = h
there_if vars n false y h = tt

there_cond : (vars : List Var) (n : ℕ) (b : Bool) (y : Named) (o : Option Named) → There vars n y → ThereIf vars n o → ThereIf vars n (if b then Some y else o)
there_cond vars n true y o h i = h
there_cond vars n false y o h i = i

visible_there : (n : ℕ) (q : ℕ) (x : List ℕ) (done ds : List Decl) → ThereIf (map variable_of (done ++ ds)) n (last_visible (length done) ds q x)
visible_there n q x done [] = tt
visible_there n q x done (d ∷ ds) =
    let vars = map variable_of (done ++ d ∷ ds) in
    there_else vars n (last_visible (suc (length done)) ds q x) (if is_visible d q x then Some (nm.Variable (length done) d.shape) else None)
    (subst (λ z. ThereIf vars n (last_visible z ds q x)) (length_last done d)
    (subst (λ z. ThereIf (map variable_of z) n (last_visible (length (done ++ d ∷ [])) ds q x)) (append_assoc done (d ∷ []) ds) (visible_there n q x (done ++ d ∷ []) ds)))
    (there_if vars n (is_visible d q x) (nm.Variable (length done) d.shape) (at_length variable_of done d ds))

function_there : (vars : List Var) (i n : ℕ) (fs : List (List ℕ)) (x : List ℕ) → i + length fs ≤ n → ThereIf vars n (function_of i fs x)
function_there vars i n [] x h = tt
function_there vars i n (f ∷ fs) x h = there_cond vars n (bytes_eq x f) (nm.Function i) (function_of (suc i) fs x) (omega (arith, h)) (function_there vars (suc i) n fs x (omega (arith, h)))

builtin_there : (vars : List Var) (n : ℕ) (o : Option Builtin) → ThereIf vars n (builtin_named o)
builtin_there vars n None = tt
builtin_there vars n (Some f) = tt

force_there : (all : List Decl) (fs : List (List ℕ)) (q : ℕ) (x : List ℕ) → ThereIf (map variable_of all) (length fs) (in_force all fs q x)
force_there all fs q x =
    there_else (map variable_of all) (length fs) (last_visible 0 all q x) (outermost fs x) (visible_there (length fs) q x [] all)
    (there_else (map variable_of all) (length fs) (function_of 0 fs x) (builtin_named (builtin_of x)) (function_there (map variable_of all) 0 (length fs) fs x (omega arith)) (builtin_there (map variable_of all) (length fs) (builtin_of x)))

-- ---- functions before one

pub record Known (b : Before) (done : List TFunction) : Type 0 where
  pub names : length b.names ≡ length b.signatures
  pub heights : length b.heights ≡ length b.signatures
  pub alike : AllAlike b.signatures done

at_end : (ss : List Signature) (s : Signature) → slice_get (ss ++ s ∷ []) (length ss) ≡ Some s
at_end [] s = refl
at_end (x ∷ xs) s = at_end xs s

call_found : (b : Before) (f : Function) (done : List TFunction) → Known b done → (p i : ℕ) (args : List Argument) → i < length (b.names ++ name_of f.name ∷ [])
    → call_needs p (home_of b f) i args ≡ [] → Called done i args (call_kind (slice_get (b.signatures ++ signature f ∷ []) i))
call_found b f done kn p i args lt h = by (cases_lt i (length b.signatures))
  where
    by : (i < length b.signatures) ⊎ (length b.signatures ≤ i) → Called done i args (call_kind (slice_get (b.signatures ++ signature f ∷ []) i))
    by (inl l) =
        let r = pair_at b.signatures (signature f ∷ []) done i kn.alike l in
        called_by r.signature r.function done i (length b.heights) args (slice_get (b.signatures ++ signature f ∷ []) i) r.first r.second r.alike
        (passed p i (length b.heights) r.signature args (is_highest (slice_get b.heights i)) (subst (λ z. signed_needs p (home_of b f) i z args ≡ []) r.first h))
    by (inr le) =
        let a = length_last b.names (name_of f.name) in
        let n = kn.names in
        let e : i ≡ length b.signatures = omega (arith, le, lt, a, n) in
        let o : slice_get (b.signatures ++ signature f ∷ []) i ≡ Some (signature f) = ap (slice_get (b.signatures ++ signature f ∷ [])) e ∙ at_end b.signatures (signature f) in
        let q = passed p i (length b.heights) (signature f) args (is_highest (slice_get b.heights i)) (subst (λ z. signed_needs p (home_of b f) i z args ≡ []) o h) in
        absurd (true≢false (sym (eq-eqb i (length b.heights) (e ∙ sym kn.heights)) ∙ q.other))

-- ---- parameters

param_plain : (x : Param) → is_array (var_of (param_shape x)) ≡ false
param_plain (param.Value c s t) = refl
param_plain (param.Pointer x t) = refl

steps_plain : (xs : List ParamStep) → no_arrays (map var_of (map (λ s. param_shape s.param) xs)) ≡ true
steps_plain [] = refl
steps_plain (x ∷ xs) = yes (ap not (param_plain x.param)) (steps_plain xs)

params_plain : (ps : Option Params) → no_arrays (map var_of (shapes_of ps)) ≡ true
params_plain None = refl
params_plain (Some (params.Void t)) = refl
params_plain (Some (params.List x xs)) = yes (ap not (param_plain x)) (steps_plain xs)

abbrev shape_in : Decl → Shape
shape_in d = d.shape

further_shapes : (i : ℕ) (xs : List ParamStep) (from upto p : ℕ) → map shape_in ((further_params i xs).decls from upto p) ≡ map (λ s. param_shape s.param) xs
further_shapes i [] from upto p = refl
further_shapes i (x ∷ xs) from upto p = ap (λ z. param_shape x.param ∷ z) (further_shapes (suc i) xs from upto _)

params_shapes : (ps : Option Params) (from upto p : ℕ) → map shape_in ((params_piece ps).decls from upto p) ≡ shapes_of ps
params_shapes None from upto p = refl
params_shapes (Some (params.Void t)) from upto p = refl
params_shapes (Some (params.List x xs)) from upto p = ap (λ z. param_shape x ∷ z) (further_shapes 1 xs from upto _)

front_taken : (ds es : List Decl) → take (length (map shape_in ds)) (map variable_of (ds ++ es)) ≡ map var_of (map shape_in ds)
front_taken [] es = refl
front_taken (d ∷ ds) es = ap (λ z. variable_of d ∷ z) (front_taken ds es)

params_taken : (ps : Option Params) (from upto p : ℕ) (es : List Decl) → take (length (shapes_of ps)) (map variable_of ((params_piece ps).decls from upto p ++ es)) ≡ map var_of (shapes_of ps)
params_taken ps from upto p es =
    subst (λ ss. take (length ss) (map variable_of ((params_piece ps).decls from upto p ++ es)) ≡ map var_of ss) (params_shapes ps from upto p) (front_taken ((params_piece ps).decls from upto p) es)

length_steps : (xs : List ParamStep) → length (map (λ s. param_shape s.param) xs) ≡ length xs
length_steps [] = refl
length_steps (x ∷ xs) = ap suc (length_steps xs)

length_variables : (ds : List Decl) → length (map variable_of ds) ≡ length ds
length_variables [] = refl
length_variables (d ∷ ds) = ap suc (length_variables ds)

counts_le : (n m : ℕ) (vs : List ℕ) → counts n m vs ≡ true → n ≤ m
counts_le n m [] h = let e = eqb-true n m h in omega (arith, e)
counts_le n m (v ∷ vs) h = let e = counts_le (suc n) m vs (and_parts (eqb v n) (counts (suc n) m vs) h).1 in omega (arith, e)

module _ (vars : List Var) (before : List TFunction) (result : Option Scalar) where
  abbrev Few : ℕ → Unit {0} → Type 0
  Few i u = eqb i 16 ≡ false

  abbrev One : ℕ → Bool → ℕ → ℕ → Unit {0} → Type 0
  One i l n m u = (m ≡ suc n) × (eqb i 16 ≡ false)

  abbrev More : ℕ → ℕ → Bool → ℕ → ℕ → Unit {0} → Type 0
  More i c l n m u = (m ≡ n + c) × (i ≤ 16 → i + c ≤ 16)

  abbrev Listed : ℕ → Bool → ℕ → ℕ → Unit {0} → Type 0
  Listed c l n m u = (m ≡ n + c) × (c ≤ 16)

  abbrev Led : Function → Unit {0} → Type 0
  Led f u = is_kernel f.lead && is_some (result_of f.returns) ≡ false

  abbrev Within : ℕ → Bool → ℕ → ℕ → List TStmt → Type 0
  Within c l n m ys = (c ≤ 16) × OkStmts vars before result l (n + c) m ys

  abbrev Whole : Function → Bool → ℕ → ℕ → List TStmt → Type 0
  Whole f l n m ys = (is_kernel f.lead && is_some (result_of f.returns) ≡ false) × Within (length (shapes_of f.params)) l n m ys

  counted_gives : (i k : ℕ) → Gives vars before result (Few i) (counted i k)
  counted_gives i k = record {
    holds = λ c r p x h.
        let u = unless_parts (violations p ((S14, eqb i 16) ∷ [])) tt x h in
        (not_violated p S14 (eqb i 16) [] u.0).0;
  }

  one_param : (s : Shape) (i : ℕ) (l : Bool) (n m : ℕ) (y : Unit {0} × ℕ) → Both (Still (Few i)) (Numbered vars s) l n m y → One i l n m tt
  one_param s i l n m y h = (h.2.1 ∙ ap suc (sym h.1.0), h.1.1)

  param_stands : (i : ℕ) (x : Param) → Stands vars before result (One i) (param_piece i x)
  param_stands i x =
      made_stands vars before result (Both (Still (Few i)) (Numbered vars (param_shape x))) (One i) (λ y. tt) (seq (quiet (counted i (param_tokens x))) (declared (param_shape x) (param_name x))) (one_param (param_shape x) i)
      (seq_stands vars before result (Still (Few i)) (Numbered vars (param_shape x)) (quiet (counted i (param_tokens x))) (declared (param_shape x) (param_name x))
      (quiet_stands vars before result (Few i) (counted i (param_tokens x)) (counted_gives i (param_tokens x))) (declared_stands vars before result (param_shape x) (param_name x)))

  more_params : (i c : ℕ) (l : Bool) (n m : ℕ) (y : Unit {0} × Unit {0}) → Both (One i) (More (suc i) c) l n m y → More i (suc c) l n m tt
  more_params i c l n m y h =
      let a = h.1.0 in
      let b = h.2.0 in
      let ne = eqb-false i 16 h.1.1 in
      (omega (arith, a, b), λ le. more i c le ne h.2.1)
    where
      more : (i c : ℕ) → i ≤ 16 → (i ≡ 16 → ⊥) → (suc i ≤ 16 → suc i + c ≤ 16) → i + suc c ≤ 16
      more i c le ne go = let z = go (below i le ne) in omega (arith, z)
        where
          below : (i : ℕ) → i ≤ 16 → (i ≡ 16 → ⊥) → suc i ≤ 16
          below i le ne = omega (arith, le, ne)

  further_stands : (i : ℕ) (xs : List ParamStep) → Stands vars before result (More i (length xs)) (further_params i xs)
  further_stands i [] = record {
    order = λ from upto p. omega arith;
    fine = λ c pl l from upto p done rest e b u y h. let a = ap length (append-nil done) in (omega (arith, a), λ le. omega (arith, le));
  }
  further_stands i (x ∷ xs) =
      made_stands vars before result (Both (One i) (More (suc i) (length xs))) (More i (suc (length xs))) (λ y. tt) (seq (past 1 (param_piece i x.param)) (further_params (suc i) xs)) (more_params i (length xs))
      (seq_stands vars before result (One i) (More (suc i) (length xs)) (past 1 (param_piece i x.param)) (further_params (suc i) xs) (past_stands vars before result (One i) 1 (param_piece i x.param) (param_stands i x.param)) (further_stands (suc i) xs))

  no_params : Stands vars before result (Listed 0) (nothing tt)
  no_params = record {
    order = λ from upto p. omega arith;
    fine = λ c pl l from upto p done rest e b u y h. let a = ap length (append-nil done) in (omega (arith, a), omega arith);
  }

  all_params : (c : ℕ) (l : Bool) (n m : ℕ) (y : Unit {0} × Unit {0}) → Both (One 0) (More 1 c) l n m y → Listed (suc c) l n m tt
  all_params c l n m y h =
      let a = h.1.0 in
      let b = h.2.0 in
      let d = h.2.1 (omega arith) in
      (omega (arith, a, b), omega (arith, d))

  params_stand : (ps : Option Params) → Stands vars before result (Listed (length (shapes_of ps))) (params_piece ps)
  params_stand None = no_params
  params_stand (Some (params.Void t)) = ending_stands vars before result (Listed 0) 1 (nothing tt) no_params
  params_stand (Some (params.List x xs)) =
      subst (λ z. Stands vars before result (Listed (suc z)) (params_piece (Some (params.List x xs)))) (sym (length_steps xs))
      (made_stands vars before result (Both (One 0) (More 1 (length xs))) (Listed (suc (length xs))) (λ y. tt) (seq (param_piece 0 x) (further_params 1 xs)) (all_params (length xs))
      (seq_stands vars before result (One 0) (More 1 (length xs)) (param_piece 0 x) (further_params 1 xs) (param_stands 0 x) (further_stands 1 xs)))

  -- ---- a function's text

  heading_gives : (fs : List (List ℕ)) (f : Function) → Gives vars before result (Led f) (heading fs f)
  heading_gives fs f = record {
    holds = λ c r p x h.
        let named = is_some (outermost fs (name_of f.name)) in
        let led = is_kernel f.lead && is_some (result_of f.returns) in
        let u = unless_parts (violations p ((S2, named) ∷ (S8, led) ∷ [])) tt x h in
        (not_violated p S8 led [] (not_violated p S2 named ((S8, led) ∷ []) u.0).1).0;
  }

  within : (c : ℕ) (l : Bool) (n m : ℕ) (y : Unit {0} × List TStmt) → Both (Listed c) (OkStmts vars before result) l n m y → Within c l n m y.1
  within c l n m y h = (h.1.1, subst (λ z. OkStmts vars before result l z m y.1) h.1.0 h.2)

  whole : (f : Function) (l : Bool) (n m : ℕ) (y : Unit {0} × List TStmt) → Both (Still (Led f)) (Within (length (shapes_of f.params))) l n m y → Whole f l n m y.1
  whole f l n m y h = (h.1.1, subst (λ z. Within (length (shapes_of f.params)) l z m y.1) (sym h.1.0) h.2)

  function_stands : (fs : List (List ℕ)) (f : Function) (ms : Spelling Token) → g.IsFunction f ms → Stands vars before result (Whole f) (function_piece fs f)
  function_stands fs f ms (g.function l r t o ps c b m n x y hl hr ht ho hp hc hb) =
      let k = length (shapes_of ps) in
      let body = seq (past 1 (params_piece ps)) (past 2 (block b)) in
      made_stands vars before result (Both (Still (Led f)) (Within k)) (Whole f) (λ z. z.1) (seq (head fs f) (inside f)) (whole f)
      (seq_stands vars before result (Still (Led f)) (Within k) (head fs f) (inside f)
      (past_stands vars before result (Still (Led f)) (one_if f.lead + returns_tokens f.returns) (quiet (heading fs f)) (quiet_stands vars before result (Led f) (heading fs f) (heading_gives fs f)))
      (made_stands vars before result (Both (Listed k) (OkStmts vars before result)) (Within k) (λ z. z.1) body (within k)
      (seq_stands vars before result (Listed k) (OkStmts vars before result) (past 1 (params_piece ps)) (past 2 (block b))
      (past_stands vars before result (Listed k) 1 (params_piece ps) (params_stand ps))
      (past_stands vars before result (OkStmts vars before result) 2 (block b) (block_stands vars before result b y hb)))))

-- ---- a function

abbrev declared_of : Before → ℕ → Function → List Decl
declared_of b p f = (function_piece b.names f).decls p (p + (function_piece b.names f).tokens) p

abbrev around : Before → ℕ → Function → Around
around b p f = record { names = record { look = in_force (declared_of b p f) (b.names ++ name_of f.name ∷ []); home = home_of b f }; all = declared_of b p f }

abbrev typed : Before → ℕ → Function → List TStmt → TFunction
typed b p f body = record {
  name = name_of f.name;
  at = f.name.from;
  kernel = is_kernel f.lead;
  result = result_of f.returns;
  params = length (shapes_of f.params);
  vars = map variable_of (declared_of b p f);
  body = st.Block body;
}

around_placed : (b : Before) (done : List TFunction) (p : ℕ) (f : Function) → Known b done → Placed (map variable_of (declared_of b p f)) done (result_of f.returns) (around b p f)
around_placed b done p f kn = record {
  ready = record {
    names = λ q x v s h. subst (ThereIf (map variable_of (declared_of b p f)) (length (b.names ++ name_of f.name ∷ []))) h (force_there (declared_of b p f) (b.names ++ name_of f.name ∷ []) q x);
    calls = λ q r x i args h e. call_found b f done kn r i args (subst (ThereIf (map variable_of (declared_of b p f)) (length (b.names ++ name_of f.name ∷ []))) h (force_there (declared_of b p f) (b.names ++ name_of f.name ∷ []) q x)) e;
    returned = refl;
  };
  all = refl;
}

pub record Valid (done : List TFunction) (s : Signature) (y : TFunction) : Type 0 where
  pub fits : function_fits done y ≡ true
  pub alike : Alike s y

typed_valid : (b : Before) (done : List TFunction) (p : ℕ) (f : Function) (body : List TStmt) → Whole (map variable_of (declared_of b p f)) done (result_of f.returns) f false 0 (length (declared_of b p f)) body → Valid done (signature f) (typed b p f body)
typed_valid b done p f body h =
    let all = declared_of b p f in
    let vars = map variable_of all in
    let result = result_of f.returns in
    let k = length (shapes_of f.params) in
    let taken : take k vars ≡ map var_of (shapes_of f.params) = params_taken f.params p (p + (function_piece b.names f).tokens) _ _ in
    let ds = together (map declared_in body) in
    let begin : k ≡ 0 + k = omega arith in
    let c : counts k (length vars) (declared_in (st.Block body)) ≡ true =
    ap (counts k (length vars)) (declared_block body) ∙ ap (λ z. counts k z ds) (length_variables all) ∙ ap (λ z. counts z (length all) ds) begin ∙ h.1.1.1 in
    let block : is_block (out-TStmt (st.Block body)) ≡ true = ap (λ z. is_block (out-TStmt z)) (sym (st.rolls-Block body)) ∙ ap is_block (out-roll-TStmt (o.Block body)) in
    record {
      fits = yes7 (le-leb k 16 h.1.0) (le-leb k (length vars) (counts_le k (length vars) (declared_in (st.Block body)) c)) (ap no_arrays taken ∙ params_plain f.params) (ap not h.0) c block (fits_block vars done result body false ∙ h.1.1.0);
      alike = record { kernel = refl; returned = refl; params = taken };
    }

pub function_valid : (b : Before) (done : List TFunction) (p : ℕ) (f : Function) (ms : Spelling Token) → Known b done → g.IsFunction f ms → (y : TFunction) → function_at b p f ≡ Fine y → Valid done (signature f) y
function_valid b done p f ms kn i y h =
    let piece = function_piece b.names f in
    let vars = map variable_of (declared_of b p f) in
    let n = next_parts (piece.at (around b p f) false p p) (λ body. Fine (typed b p f body)) y h in
    let s = function_stands vars done (result_of f.returns) b.names f ms i in
    let w = s.fine (around b p f) (around_placed b done p f kn) false p (p + piece.tokens) p [] [] (sym (append-nil (declared_of b p f))) tt tt n.0 n.1 in
    subst (Valid done (signature f)) (fine_is (typed b p f n.0) y n.2) (typed_valid b done p f n.0 w)
