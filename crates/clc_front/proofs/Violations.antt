-- A source has one first violation at most for a kernel's name, or else one typed tree and one kernel, and not both.
use Rattle.std.proofs.Common.{◌≡◌, ℕ, List, [], ◌∷◌, Bool, true, false, refl, sym, ap, ◌∙◌, subst, arith, inl, inr}
use Rattle.std.specs.Prelude.{◌⊎◌, Option, Some, None, get_or, slice_get, Result, Ok, Err, IfOk}
use Rattle.clc_lexer.specs.declared.token.Token.{Token}
use Rattle.clc_lexer.specs.declared.token.LexRule.{LexRule}
use Rattle.clc_lexer.specs.SourceText.{IsFirstFault}
use Rattle.clc_lexer.proofs.LexedOnce.{lexed_once}
use Rattle.clc_lexer.proofs.FirstFaults.{one_first}
use Rattle.clc_reading.specs.Reading.{Reason}
use Rattle.clc_tree.specs.declared.functions.Tree.{Tree}
use Rattle.clc_tree.specs.SourceText.{IsTreeOf}
use Rattle.clc_grammar_laws.proofs.OneTree.{has_one_tree}
use Rattle.clc_grammar_laws.proofs.FlatIs.{flat_tree}
use Rattle.clc_parser.specs.SourceTree.{IsText, FaultAt}
use Rattle.clc_parser.proofs.OneAnswer.{one_answer}
use Rattle.clc_types.specs.declared.forms.Fault.{Fault}
use Rattle.clc_types.specs.declared.type_rule.TypeRule.{TypeRule}
use Rattle.clc_types.specs.declared.type_rule.TypeRule.TheVariants.{S1, S2, S3, S4, S5, S6, S7, S8, S9, S10, S11, S12, S13, S14}
use Rattle.clc_types.specs.declared.typed.TFunction.{TFunction}
use Rattle.clc_types.specs.Judged.{Judged, Fine, Faulty, faults_of, rank, Before, IsLeast}
use Rattle.clc_types.specs.Programs.{program, kernel_of}
use Rattle.clc_counts.specs.Counts.{tally_of}
use Rattle.clc_counts.specs.Limits.{IsWithin}
use Rattle.promise.specs.declared.refusal.SourceRule.{SourceRule}
use Rattle.promise.specs.declared.refusal.Refusal.{Refusal}
use Rattle.promise.specs.declared.refusal.Refusal.TheVariants.{Rule, Memory}
use Rattle.clc_front.specs.Profile.{lexical_rule, grammar_rule, typing_rule, place_of, IsSpelled, IsProgram, IsTyped, HasKernel, IsOverLimit, nodes, elements, IsTooLarge, IsFirstViolation, bytes, grammar, typing, no_kernel, too_large}
use Rattle.clc_front.specs.declared.wanted.WantedKernel.{WantedKernel}
use Rattle.clc_front.specs.Laws.{SourcesAreJudgedOnce}

-- ---- one source has one of each

same_tokens : (source : List ℕ) (ts us : List Token) → IsSpelled source ts → IsSpelled source us → ts ≡ us
same_tokens source ts us h g = lexed_once source ts us h.lexed g.lexed

tree_of_text : (n : ℕ) (tree : Tree) (ts : List Token) → IsText n tree ts → IsTreeOf tree ts
tree_of_text n tree ts (spelling, is_tree, same, below) = ((spelling, is_tree), sym (flat_tree tree spelling is_tree) ∙ same)

same_tree : (source : List ℕ) (ts us : List Token) (a b : Tree) → IsProgram source ts a → IsProgram source us b → a ≡ b
same_tree source ts us a b h g =
    let same = same_tokens source ts us h.spelled g.spelled in
    has_one_tree a b us (subst (λ vs. IsTreeOf a vs) same (tree_of_text 65 a ts h.text)) (tree_of_text 65 b us g.text)

fine_once : (j : Judged (List TFunction)) (a b : List TFunction) → j ≡ Fine a → j ≡ Fine b → a ≡ b
fine_once j a b h g = cc

pub same_typed : (source : List ℕ) (a b : List TFunction) → IsTyped source a → IsTyped source b → a ≡ b
same_typed source a b h g =
    let same : h.tree ≡ g.tree = same_tree source h.tokens g.tokens h.tree g.tree h.is_program g.is_program in
    fine_once (program g.tree) a b (sym (ap program same) ∙ h.fine) g.fine

named_once : (n : Option ℕ) (a b : ℕ) → n ≡ Some a → n ≡ Some b → a ≡ b
named_once n a b h g = cc

there_once : (f : Option TFunction) (a b : TFunction) → f ≡ Some a → f ≡ Some b → a ≡ b
there_once f a b h g = cc

same_number : (source kernel : List ℕ) (t u : List TFunction) (n m : ℕ) → IsTyped source t → kernel_of 0 t kernel ≡ Some n → IsTyped source u → kernel_of 0 u kernel ≡ Some m
    → (t ≡ u) × (n ≡ m)
same_number source kernel t u n m h named g other =
    let same : t ≡ u = same_typed source t u h g in
    (same, named_once (kernel_of 0 u kernel) n m (subst (λ x. kernel_of 0 x kernel ≡ Some n) same named) other)

-- the kernels at the same place
pub same_function : (t u : List TFunction) (n m : ℕ) (a b : TFunction) → t ≡ u → n ≡ m → slice_get t n ≡ Some a → slice_get u m ≡ Some b → a ≡ b
same_function t u n m a b same number h g =
    there_once (slice_get u m) a b (subst (λ fs. slice_get fs m ≡ Some a) same (subst (λ k. slice_get t k ≡ Some a) number h)) g

-- ---- limits

over_lawful : (functions : List TFunction) (number : ℕ) (rule : SourceRule) → IsWithin (tally_of functions number) → IsOverLimit functions number rule → ⊥
over_lawful functions number rule within (nodes many) = let few = within.0 in omega (arith, few, many)
over_lawful functions number rule within (elements some many) = let few = within.1 in omega (arith, few, many)

one_limit : (functions : List TFunction) (number : ℕ) (rule other : SourceRule) → IsOverLimit functions number rule → IsOverLimit functions number other → rule ≡ other
one_limit functions number rule other (nodes many) (nodes more) = refl
one_limit functions number rule other (nodes many) (elements few more) = absurd (omega (arith, many, few))
one_limit functions number rule other (elements few more) (nodes many) = absurd (omega (arith, many, few))
one_limit functions number rule other (elements few more) (elements some much) = refl

moved : (t u : List TFunction) (n m : ℕ) (rule : SourceRule) (at : ℕ) → t ≡ u → n ≡ m → IsTooLarge t n rule at → IsTooLarge u m rule at
moved t u n m rule at same number h = subst (λ fs. IsTooLarge fs m rule at) same (subst (λ k. IsTooLarge t k rule at) number h)

-- a number is that of one rule; none has the number 0
abbrev rules : List TypeRule
rules = S1 ∷ S1 ∷ S2 ∷ S3 ∷ S4 ∷ S5 ∷ S6 ∷ S7 ∷ S8 ∷ S9 ∷ S10 ∷ S11 ∷ S12 ∷ S13 ∷ S14 ∷ []

abbrev numbered : ℕ → TypeRule
numbered n = get_or rules n S1

its_number : (r : TypeRule) → numbered (rank r) ≡ r
its_number S1 = refl
its_number S2 = refl
its_number S3 = refl
its_number S4 = refl
its_number S5 = refl
its_number S6 = refl
its_number S7 = refl
its_number S8 = refl
its_number S9 = refl
its_number S10 = refl
its_number S11 = refl
its_number S12 = refl
its_number S13 = refl
its_number S14 = refl

-- two least faults of a list are one
least_once : (fs gs : List Fault) (a b : Fault) → fs ≡ gs → IsLeast a fs → IsLeast b gs → a ≡ b
least_once fs gs a b same h g =
    let other : IsLeast b fs = subst (IsLeast b) (sym same) g in
    meet a b (h.least b other.here) (other.least a h.here)
  where
    meet : (a b : Fault) → Before a b → Before b a → a ≡ b
    meet a b (inl x) (inl y) = absurd (omega (arith, x, y))
    meet a b (inl x) (inr y) = absurd (omega (arith, x, y.0))
    meet a b (inr x) (inl y) = absurd (omega (arith, x.0, y))
    meet a b (inr x) (inr y) =
        let token : a.token ≡ b.token = x.0 in
        let same : rank a.rule ≡ rank b.rule = omega (arith, x.1, y.1) in
        let rule : a.rule ≡ b.rule = sym (its_number a.rule) ∙ ap numbered same ∙ its_number b.rule in
        ap (λ t. record { token = t; rule = a.rule }) token ∙ ap (λ r. record { token = b.token; rule = r }) rule

-- ---- no source has two kinds of violations, nor one where it goes on

module _ (source kernel : List ℕ) where
  spelled_lawful : (rule : LexRule) (at : ℕ) (ts : List Token) → IsFirstFault source rule at → IsSpelled source ts → ⊥
  spelled_lawful rule at ts h g = g.lawful rule at h.0

  program_lawful : (ts us : List Token) (reason : Reason) (k : ℕ) (tree : Tree) → IsSpelled source ts → FaultAt 65 reason k ts → IsProgram source us tree → ⊥
  program_lawful ts us reason k tree h fault g =
      let same = same_tokens source ts us h g.spelled in
      one_answer.apart 65 tree reason k us g.text (subst (λ vs. FaultAt 65 reason k vs) same fault)

  typed_lawful : (ts : List Token) (tree : Tree) (one : Fault) (more : List Fault) (typed : List TFunction) → IsProgram source ts tree → program tree ≡ Faulty one more → IsTyped source typed → ⊥
  typed_lawful ts tree one more typed h faulty g =
      let same : tree ≡ g.tree = same_tree source ts g.tokens tree g.tree h g.is_program in
      fine_or (program g.tree) (sym (ap program same) ∙ faulty) g.fine
    where
      fine_or : (j : Judged (List TFunction)) → j ≡ Faulty one more → j ≡ Fine typed → ⊥
      fine_or j e d = cc

  name_found : (t u : List TFunction) (n : ℕ) → IsTyped source t → kernel_of 0 t kernel ≡ None → IsTyped source u → kernel_of 0 u kernel ≡ Some n → ⊥
  name_found t u n h none g named =
      let same : t ≡ u = same_typed source t u h g in
      none_or (kernel_of 0 u kernel) n (subst (λ x. kernel_of 0 x kernel ≡ None) same none) named
    where
      none_or : (n : Option ℕ) (k : ℕ) → n ≡ None → n ≡ Some k → ⊥
      none_or n k e d = cc

  pub lawful_none : (typed : List TFunction) (number : ℕ) (rule : SourceRule) (at : ℕ) → HasKernel source kernel typed number → IsFirstViolation source kernel rule at → ⊥
  lawful_none typed number rule at h (bytes r place fault) = spelled_lawful r place h.is_typed.tokens fault h.is_typed.is_program.spelled
  lawful_none typed number rule at h (grammar ts reason k spelled fault) = program_lawful ts h.is_typed.tokens reason k h.is_typed.tree spelled fault h.is_typed.is_program
  lawful_none typed number rule at h (typing ts tree one more first is_program faulty least) = typed_lawful ts tree one more typed is_program faulty h.is_typed
  lawful_none typed number rule at h (no_kernel other is_typed none) = name_found other typed number is_typed none h.is_typed h.named
  lawful_none typed number rule at h (too_large other n r p is_typed named large) =
      let same = same_number source kernel other typed n number is_typed named h.is_typed h.named in
      over_lawful typed number r h.within (moved other typed n number r p same.0 same.1 large).over

  one_size : (t u : List TFunction) (n m : ℕ) (r s : SourceRule) (p q : ℕ) → IsTyped source t → kernel_of 0 t kernel ≡ Some n → IsTooLarge t n r p
      → IsTyped source u → kernel_of 0 u kernel ≡ Some m → IsTooLarge u m s q → (r ≡ s) × (p ≡ q)
  one_size t u n m r s p q h named f g other d =
      let same = same_number source kernel t u n m h named g other in
      let here : IsTooLarge u m r p = moved t u n m r p same.0 same.1 f in
      (one_limit u m r s here.over d.over, here.name.place ∙ ap (λ x. x.at) (same_function u u m m here.name.function d.name.function refl refl here.name.there d.name.there) ∙ sym d.name.place)

  abbrev Same : SourceRule → ℕ → SourceRule → ℕ → Type 0
  Same rule at other place = (rule ≡ other) × (at ≡ place)

  same_fault : (ts us : List Token) (t u : Tree) (f g : Fault) (fs gs : List Fault) (a b : Fault) → IsProgram source ts t → IsProgram source us u
      → program t ≡ Faulty f fs → program u ≡ Faulty g gs → IsLeast a (f ∷ fs) → IsLeast b (g ∷ gs) → a ≡ b
  same_fault ts us t u f g fs gs a b h i d e x y =
      let same : t ≡ u = same_tree source ts us t u h i in
      least_once (f ∷ fs) (g ∷ gs) a b (sym (ap faults_of d) ∙ ap (λ v. faults_of (program v)) same ∙ ap faults_of e) x y

  pub one_violation : (rule other : SourceRule) (at place : ℕ) → IsFirstViolation source kernel rule at → IsFirstViolation source kernel other place → Same rule at other place
  one_violation rule other at place (bytes r p f) (bytes s q g) = let same = one_first source r s p q f g in (ap lexical_rule same.0, same.1)
  one_violation rule other at place (bytes r p f) (grammar ts why k h g) = absurd (spelled_lawful r p ts f h)
  one_violation rule other at place (bytes r p f) (typing ts tree one more first h d g) = absurd (spelled_lawful r p ts f h.spelled)
  one_violation rule other at place (bytes r p f) (no_kernel t h g) = absurd (spelled_lawful r p h.tokens f h.is_program.spelled)
  one_violation rule other at place (bytes r p f) (too_large t n s q h named g) = absurd (spelled_lawful r p h.tokens f h.is_program.spelled)
  one_violation rule other at place (grammar ts why k h g) (bytes r p f) = absurd (spelled_lawful r p ts f h)
  one_violation rule other at place (grammar ts why j h f) (grammar us reason k i g) =
      let tokens = same_tokens source ts us h i in
      let same = one_answer.first 65 why reason j k us (subst (λ vs. FaultAt 65 why j vs) tokens f) g in
      (ap grammar_rule same.0, ap (λ vs. place_of source vs j) tokens ∙ ap (place_of source us) same.1)
  one_violation rule other at place (grammar ts why j h f) (typing us tree one more first i d g) = absurd (program_lawful ts us why j tree h f i)
  one_violation rule other at place (grammar ts why j h f) (no_kernel t i g) = absurd (program_lawful ts i.tokens why j i.tree h f i.is_program)
  one_violation rule other at place (grammar ts why j h f) (too_large t n s q i named g) = absurd (program_lawful ts i.tokens why j i.tree h f i.is_program)
  one_violation rule other at place (typing ts tree one more first h d g) (bytes r p f) = absurd (spelled_lawful r p ts f h.spelled)
  one_violation rule other at place (typing us tree one more first i d g) (grammar ts why j h f) = absurd (program_lawful ts us why j tree h f i)
  one_violation rule other at place (typing ts tree one more first h d f) (typing us root two rest least i e g) =
      let tokens = same_tokens source ts us h.spelled i.spelled in
      let same = same_fault ts us tree root one two more rest first least h i d e f g in
      (ap (λ x. typing_rule x.rule) same, ap (λ vs. place_of source vs first.token) tokens ∙ ap (λ x. place_of source us x.token) same)
  one_violation rule other at place (typing ts tree one more first h d f) (no_kernel t i g) = absurd (typed_lawful ts tree one more t h d i)
  one_violation rule other at place (typing ts tree one more first h d f) (too_large t n s q i named g) = absurd (typed_lawful ts tree one more t h d i)
  one_violation rule other at place (no_kernel t h g) (bytes r p f) = absurd (spelled_lawful r p h.tokens f h.is_program.spelled)
  one_violation rule other at place (no_kernel t i g) (grammar ts why j h f) = absurd (program_lawful ts i.tokens why j i.tree h f i.is_program)
  one_violation rule other at place (no_kernel t i g) (typing ts tree one more first h d f) = absurd (typed_lawful ts tree one more t h d i)
  one_violation rule other at place (no_kernel t h f) (no_kernel u i g) = (refl, refl)
  one_violation rule other at place (no_kernel t h f) (too_large u n s q i named g) = absurd (name_found t u n h f i named)
  one_violation rule other at place (too_large t n r p h named f) (bytes s q g) = absurd (spelled_lawful s q h.tokens g h.is_program.spelled)
  one_violation rule other at place (too_large t n r p i named g) (grammar ts why j h f) = absurd (program_lawful ts i.tokens why j i.tree h f i.is_program)
  one_violation rule other at place (too_large t n r p i named g) (typing ts tree one more first h d f) = absurd (typed_lawful ts tree one more t h d i)
  one_violation rule other at place (too_large u n r p i named g) (no_kernel t h f) = absurd (name_found t u n h f i named)
  one_violation rule other at place (too_large t n r p h named f) (too_large u m s q g other_named d) = one_size t u n m r s p q h named f g other_named d

pub same_kernel : (source kernel : List ℕ) (t u : List TFunction) (n k : ℕ) → HasKernel source kernel t n → HasKernel source kernel u k → (t ≡ u) × (n ≡ k)
same_kernel source kernel t u n k h g = same_number source kernel t u n k h.is_typed h.named g.is_typed g.named

pub judged_once : SourcesAreJudgedOnce
judged_once = record {
  one = λ source kernel rule other at place. one_violation source kernel rule other at place;
  none = λ source kernel typed number rule at. lawful_none source kernel typed number rule at;
  same = λ source kernel typed other number another. same_kernel source kernel typed other number another;
}

-- ---- answers

-- what answers a typed tree and a kernel only where the source has them, and a rule only where it is the first violated one
module _ (source kernel : List ℕ) where
  pub only_rule : (result : Result WantedKernel Refusal) → IfOk result (λ f. HasKernel source kernel f.typed.functions f.kernel)
      → ((rule : SourceRule) (at : ℕ) → result ≡ Err (Rule rule at) → IsFirstViolation source kernel rule at)
      → (rule : SourceRule) (at : ℕ) → IsFirstViolation source kernel rule at → (result ≡ Err (Rule rule at)) ⊎ (result ≡ Err Memory)
  only_rule (Ok f) made told rule at is = absurd (lawful_none source kernel f.typed.functions f.kernel rule at made is)
  only_rule (Err (Rule other place)) made told rule at is =
      let same = one_violation source kernel other rule place at (told other place refl) is in
      inl (ap (λ r. Err (Rule r place)) same.0 ∙ ap (λ p. Err (Rule rule p)) same.1)
  only_rule (Err Memory) made told rule at is = inr refl

  pub only_kernel : (result : Result WantedKernel Refusal) → ((rule : SourceRule) (at : ℕ) → result ≡ Err (Rule rule at) → IsFirstViolation source kernel rule at)
      → (typed : List TFunction) (number : ℕ) → HasKernel source kernel typed number → ((f : WantedKernel) × (result ≡ Ok f)) ⊎ (result ≡ Err Memory)
  only_kernel (Ok f) told typed number is = inl (f, refl)
  only_kernel (Err (Rule rule at)) told typed number is = absurd (lawful_none source kernel typed number rule at is (told rule at refl))
  only_kernel (Err Memory) told typed number is = inr refl
