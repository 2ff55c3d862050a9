-- What the front end's answers say of a source.
use Rattle.std.proofs.Common.{◌≡◌, ℕ, zero, suc, ◌+◌, ◌<◌, ◌≤◌, ◌^◌, List, [], ◌∷◌, ◌++◌, length, get_or, Bool, true, false, refl, sym, ap, ◌∙◌, subst, arith, inl, inr}
use Rattle.std.specs.Prelude.{◌&&◌, Some, slice_get, bytes_eq, Result, Ok, Err, IfOk, if◌then◌else◌, map}
use Rattle.std.specs.Result.{IsErrAnd}
use Rattle.std.proofs.lemmas.Bool.{cases_lt}
use Rattle.std.proofs.lemmas.List.{length-append}
use Rattle.clc_lexer.specs.declared.token.Token.{Token}
use Rattle.clc_lexer.specs.declared.token.LexRule.TheVariants as lex
use Rattle.clc_lexer.specs.SourceText.{HasNoFault}
use Rattle.clc_lexer.proofs.LexedOnce.{tokens_within}
use Rattle.clc_tree.specs.declared.functions.Function.{Function}
use Rattle.clc_tree.specs.declared.functions.Tree.{Tree}
use Rattle.clc_tree.specs.Flat.{joined, optional_tokens, returns_tokens, params_tokens, block_tokens, function_tokens, flat_of}
use Rattle.clc_types.specs.declared.forms.Fault.{Fault}
use Rattle.clc_types.specs.declared.typed.TFunction.{TFunction}
use Rattle.clc_check.specs.Checked.{functions_in}
use Rattle.clc_types.specs.declared.type_rule.TypeRule.{TypeRule}
use Rattle.clc_types.specs.declared.typed.TypeFault.TheVariants.{Rule}
use Rattle.clc_types.specs.Judged.{Judged, Fine, Faulty, both, next, IsLeast}
use Rattle.clc_types.specs.Programs.{program, kernel_of, Judges, Before, function_at, functions_at, function_piece, with_function, no_function}
use Rattle.clc_counts.specs.declared.tally.Tally.{Tally}
use Rattle.clc_counts.specs.declared.limits.LimitFault.{LimitFault}
use Rattle.clc_counts.specs.declared.limits.LimitFault.TheVariants as fault
use Rattle.clc_counts.specs.Counts.{tally_of}
use Rattle.clc_counts.specs.Limits.{KeepsLimits}
use Rattle.promise.specs.declared.refusal.SourceRule.{SourceRule}
use Rattle.promise.specs.declared.refusal.SourceRule.TheVariants.{N1, N2}
use Rattle.promise.specs.declared.refusal.Refusal.{Refusal}
use Rattle.promise.specs.declared.refusal.Refusal.TheVariants.{Rule as Refused}
use Rattle.clc_front.specs.declared.wanted.WantedKernel.{WantedKernel}
use Rattle.clc_front.specs.Profile.{place_of, IsSpelled, IsTyped, HasKernel, IsNameOf, IsOverLimit, nodes, elements, IsTooLarge, IsFirstViolation}

-- ---- sizes

pub short_source : (source : List ℕ) → HasNoFault source → length source ≤ 65536
short_source source h = elim (cases_lt 65536 (length source)) [ inl long ↦ absurd (h lex.L1 65536 (long, refl)) | inr short ↦ short ]

pub short_enough : (source : List ℕ) → HasNoFault source → length source < 2 ^ 32
short_enough source h = let short = short_source source h in omega (arith, short)

pub few_tokens : (source : List ℕ) (ts : List Token) → IsSpelled source ts → length ts < 2 ^ 32
few_tokens source ts h =
    let short = short_source source h.lawful in
    let within = (tokens_within source ts h.lexed).1 in
    omega (arith, short, within)

-- a program has a token for each of its functions at least
some_tokens : (f : Function) → 1 ≤ length (function_tokens f)
some_tokens f =
    let rest = returns_tokens f.returns ++ f.name ∷ f.opening ∷ (params_tokens f.params ++ f.closing ∷ block_tokens f.body) in
    let named = f.name ∷ f.opening ∷ (params_tokens f.params ++ f.closing ∷ block_tokens f.body) in
    let one = length-append (optional_tokens f.lead) rest in
    let two = length-append (returns_tokens f.returns) named in
    let some : 1 ≤ length named = omega arith in
    omega (arith, one, two, some)

few_functions : (fs : List Function) → length fs ≤ length (joined (map function_tokens fs))
few_functions [] = omega arith
few_functions (f ∷ fs) =
    let rest = few_functions fs in
    let one = some_tokens f in
    let all = length-append (function_tokens f) (joined (map function_tokens fs)) in
    omega (arith, rest, one, all)

both_fine : {A B : Type 0} (a : Judged A) (b : Judged B) (y : A × B) → both a b ≡ Fine y → b ≡ Fine y.1
both_fine (Fine a) (Fine b) y e = cc
both_fine (Fine a) (Faulty g gs) y e = absurd cc
both_fine (Faulty f fs) (Fine b) y e = absurd cc
both_fine (Faulty f fs) (Faulty g gs) y e = absurd cc

one_longer : (a : Judged TFunction) (b : Judged (List TFunction)) (n : ℕ) (gs : List TFunction) → ((hs : List TFunction) → b ≡ Fine hs → length hs ≡ n)
    → next (both a b) (λ y. Fine (y.0 ∷ y.1)) ≡ Fine gs → length gs ≡ suc n
one_longer (Fine a) (Fine hs) n gs many e =
    let is : gs ≡ a ∷ hs = cc in
    ap length is ∙ ap suc (many hs refl)
one_longer (Fine a) (Faulty g more) n gs many e = absurd cc
one_longer (Faulty f fs) (Fine hs) n gs many e = absurd cc
one_longer (Faulty f fs) (Faulty g more) n gs many e = absurd cc

as_many : (before : Before) (p : ℕ) (fs : List Function) (gs : List TFunction) → functions_at before p fs ≡ Fine gs → length gs ≡ length fs
as_many before p [] gs e = let none : gs ≡ [] = cc in ap length none
as_many before p (f ∷ more) gs e =
    one_longer (function_at before p f) (functions_at (with_function before p f) (p + (function_piece before.names f).tokens) more) (length more) gs
    (λ hs is. as_many (with_function before p f) (p + (function_piece before.names f).tokens) more hs is) e

pub few_typed : (source : List ℕ) (ts : List Token) (tree : Tree) (functions : List TFunction) → IsSpelled source ts → flat_of tree ≡ ts → program tree ≡ Fine functions
    → length functions < 2 ^ 32
few_typed source ts tree functions h flat fine =
    let few = few_tokens source ts h in
    let same = as_many no_function 0 tree.functions functions fine in
    let more = few_functions tree.functions in
    let all = ap length flat in
    omega (arith, few, same, more, all)

-- ---- places

pub place_found : (source : List ℕ) (ts : List Token) (k : ℕ) (t : Token) → k < length ts → t ≡ get_or ts k t → t.from ≡ place_of source ts k
place_found source [] k t within is = absurd (omega (arith, within))
place_found source (x ∷ ts) zero t within is = ap (λ y. y.from) is
place_found source (x ∷ ts) (suc k) t within is = place_found source ts k t (omega (arith, within)) is

pub place_past : (source : List ℕ) (ts : List Token) (k : ℕ) → length ts ≤ k → length source ≡ place_of source ts k
place_past source [] k past = refl
place_past source (x ∷ ts) zero past = absurd (omega (arith, past))
place_past source (x ∷ ts) (suc k) past = place_past source ts k (omega (arith, past))

-- ---- what was checked

pub checked_fine : (j : Judged (List TFunction)) (functions : List TFunction) → Judges j (Ok functions) → j ≡ Fine functions
checked_fine (Fine a) functions h = ap Fine h
checked_fine (Faulty f fs) functions h = absurd h

abbrev pub HasLeast : Judged (List TFunction) → Fault → Type 0
HasLeast j first = (one : Fault) × (more : List Fault) × (j ≡ Faulty one more) × IsLeast first (one ∷ more)

pub checked_faulty : (j : Judged (List TFunction)) (rule : TypeRule) (token : ℕ) → Judges j (functions_in (Err (Rule rule token))) → HasLeast j (record { token = token; rule = rule })
checked_faulty (Fine a) rule token h = absurd h
checked_faulty (Faulty f fs) rule token h = (f, fs, refl, h)

-- ---- the wanted kernel

abbrev pub IsAt : List TFunction → ℕ → ℕ → Type 0
IsAt fs n k = (i : ℕ) × (f : TFunction) × (k ≡ n + i) × (slice_get fs i ≡ Some f) × (i < length fs)

at_next : (f : TFunction) (fs : List TFunction) (n k : ℕ) → IsAt fs (suc n) k → IsAt (f ∷ fs) n k
at_next f fs n k (i, g, same, there, within) = (suc i, g, omega (arith, same), there, omega (arith, within))

named_or : (f : TFunction) (fs : List TFunction) (n : ℕ) (x : List ℕ) (k : ℕ) (b : Bool) → (kernel_of (suc n) fs x ≡ Some k → IsAt fs (suc n) k)
    → (if b then Some n else kernel_of (suc n) fs x) ≡ Some k → IsAt (f ∷ fs) n k
named_or f fs n x k true later e = let is : n ≡ k = cc in (0, f, omega (arith, is), refl, omega arith)
named_or f fs n x k false later e = at_next f fs n k (later e)

kernel_at : (n : ℕ) (fs : List TFunction) (x : List ℕ) (k : ℕ) → kernel_of n fs x ≡ Some k → IsAt fs n k
kernel_at n [] x k e = absurd cc
kernel_at n (f ∷ fs) x k e = named_or f fs n x k (f.kernel && bytes_eq f.name x) (λ d. kernel_at (suc n) fs x k d) e

pub kernel_there : (fs : List TFunction) (x : List ℕ) (k : ℕ) (g : TFunction) → kernel_of 0 fs x ≡ Some k → g ≡ get_or fs k g → slice_get fs k ≡ Some g
kernel_there fs x k g e is =
    let at = kernel_at 0 fs x k e in
    let same : k ≡ at.0 = (let sum = at.2 in omega (arith, sum)) in
    let there : slice_get fs k ≡ Some at.1 = ap (slice_get fs) same ∙ at.3 in
    there ∙ sym (ap Some (is ∙ got fs k at.1 g there))
  where
    got : (fs : List TFunction) (k : ℕ) (f g : TFunction) → slice_get fs k ≡ Some f → get_or fs k g ≡ f
    got [] k f g e = absurd cc
    got (x ∷ fs) zero f g e = cc
    got (x ∷ fs) (suc k) f g e = got fs k f g e

pub kernel_within : (fs : List TFunction) (x : List ℕ) (k : ℕ) → kernel_of 0 fs x ≡ Some k → k < length fs
kernel_within fs x k e =
    let at = kernel_at 0 fs x k e in
    let same = at.2 in
    let less = at.4 in
    omega (arith, same, less)

pub there_at : (source x : List ℕ) (functions : List TFunction) (k : ℕ) (f : TFunction) → HasKernel source x functions k → f ≡ get_or functions k f → slice_get functions k ≡ Some f
there_at source x functions k f h is = kernel_there functions x k f h.named is

at_there : (fs : List TFunction) (k : ℕ) (f : TFunction) → k < length fs → f ≡ get_or fs k f → slice_get fs k ≡ Some f
at_there [] k f within is = absurd (omega (arith, within))
at_there (x ∷ fs) zero f within is = sym (ap Some is)
at_there (x ∷ fs) (suc k) f within is = at_there fs k f (omega (arith, within)) is

-- a refusal at the name of a function
pub named_at : (fs : List TFunction) (k : ℕ) (f : TFunction) (rule other : SourceRule) (at : ℕ) → k < length fs → f ≡ get_or fs k f → Refused rule f.at ≡ Refused other at
    → (rule ≡ other) × IsNameOf fs k at
named_at fs k f rule other at within is e =
    let same : rule ≡ other = cc in
    let place : f.at ≡ at = cc in
    (same, record { function = f; there = at_there fs k f within is; place = sym place })

-- ---- limits

unwrapped : (r s : Refusal) → ◌≡◌ {A = Result (Unit {0}) Refusal} (Err r) (Err s) → r ≡ s
unwrapped r s e = cc

-- a refusal that is right where the limit is passed
refused_rightly : (fs : List TFunction) (k : ℕ) (own rule : SourceRule) (at : ℕ) (refusal : Refusal) → IsOverLimit fs k own → ((place : ℕ) (other : SourceRule) → refusal ≡ Refused other place → (own ≡ other) × IsNameOf fs k place)
    → ◌≡◌ {A = Result (Unit {0}) Refusal} (Err refusal) (Err (Refused rule at)) → IsTooLarge fs k rule at
refused_rightly fs k own rule at refusal over names e =
    let told = names at rule (unwrapped refusal (Refused rule at) e) in
    record { name = told.1; over = subst (IsOverLimit fs k) told.0 over }

pub too_many_nodes : (fs : List TFunction) (k count : ℕ) (rule : SourceRule) (at : ℕ) (refusal : Refusal) (result : Result Tally LimitFault) → result ≡ Err (fault.N1 count) → KeepsLimits (tally_of fs k) result
    → ((place : ℕ) (other : SourceRule) → refusal ≡ Refused other place → (N1 ≡ other) × IsNameOf fs k place) → ◌≡◌ {A = Result (Unit {0}) Refusal} (Err refusal) (Err (Refused rule at))
    → IsTooLarge fs k rule at
too_many_nodes fs k count rule at refusal result is keeps names e =
    let exceeds : KeepsLimits (tally_of fs k) (Err (fault.N1 count)) = subst (KeepsLimits (tally_of fs k)) is keeps in
    refused_rightly fs k N1 rule at refusal (nodes exceeds.0) names e

pub too_many_elements : (fs : List TFunction) (k count : ℕ) (rule : SourceRule) (at : ℕ) (refusal : Refusal) (result : Result Tally LimitFault) → result ≡ Err (fault.N2 count) → KeepsLimits (tally_of fs k) result
    → ((place : ℕ) (other : SourceRule) → refusal ≡ Refused other place → (N2 ≡ other) × IsNameOf fs k place) → ◌≡◌ {A = Result (Unit {0}) Refusal} (Err refusal) (Err (Refused rule at))
    → IsTooLarge fs k rule at
too_many_elements fs k count rule at refusal result is keeps names e =
    let exceeds : KeepsLimits (tally_of fs k) (Err (fault.N2 count)) = subst (KeepsLimits (tally_of fs k)) is keeps in
    refused_rightly fs k N2 rule at refusal (elements exceeds.0 exceeds.1) names e

-- a refusal that is handed on
pub handed_on : {A : Type 0} (fs : List TFunction) (k : ℕ) (result : Result A Refusal) (refusal : Refusal) → IsErrAnd result (λ r. r ≡ refusal)
    → ((rule : SourceRule) (at : ℕ) → ◌≡◌ {A = Result (Unit {0}) Refusal} (Err refusal) (Err (Refused rule at)) → IsTooLarge fs k rule at)
    → (rule : SourceRule) (at : ℕ) → result ≡ Err (Refused rule at) → IsTooLarge fs k rule at
handed_on fs k (Ok a) refusal is large rule at e = absurd is
handed_on fs k (Err r) refusal is large rule at e = large rule at (ap Err (sym is ∙ same r (Refused rule at) e))
  where
    same : {A : Type 0} (r s : Refusal) → ◌≡◌ {A = Result A Refusal} (Err r) (Err s) → r ≡ s
    same r s e = cc

-- a kernel that is handed on is the same
pub kernel_kept : (source kernel : List ℕ) (functions : List TFunction) (number : ℕ) (result : Result WantedKernel Refusal) → HasKernel source kernel functions number
    → IfOk result (λ f. (f.typed.functions ≡ functions) × (f.kernel ≡ number)) → IfOk result (λ f. HasKernel source kernel f.typed.functions f.kernel)
kernel_kept source kernel functions number (Ok f) has same =
    subst (λ fs. HasKernel source kernel fs f.kernel) (sym same.0) (subst (HasKernel source kernel functions) (sym same.1) has)
kernel_kept source kernel functions number (Err e) has same = tt

-- ---- refusals

-- what was refused is what is told
pub told : {T : Type 0} (source kernel : List ℕ) (rule other : SourceRule) (at place : ℕ) → ◌≡◌ {A = Result T Refusal} (Err (Refused rule at)) (Err (Refused other place))
    → IsFirstViolation source kernel rule at → IsFirstViolation source kernel other place
told source kernel rule other at place e h =
    let same_rule : rule ≡ other = cc in
    let same_place : at ≡ place = cc in
    subst (λ r. IsFirstViolation source kernel r place) same_rule (subst (IsFirstViolation source kernel rule) same_place h)
