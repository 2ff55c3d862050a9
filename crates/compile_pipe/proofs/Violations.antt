-- A source has one first violation at most for a kernel's name, and none where it is in the profile.
use Rattle.std.proofs.Common.{◌≡◌, ℕ, List, Bool, true, false, refl, sym, ap, ◌∙◌, subst, inl, inr}
use Rattle.std.specs.Prelude.{◌⊎◌, Result, Ok, Err, IfOk}
use Rattle.std.specs.Result.{IsErrAnd}
use Rattle.clc_types.specs.declared.typed.TFunction.{TFunction}
use Rattle.clc_front.specs.Profile.{IsFirstViolation as IsFirstOfFront}
use Rattle.clc_front.proofs.Violations.{same_function, judged_once}
use Rattle.promise.specs.declared.refusal.SourceRule.{SourceRule}
use Rattle.promise.specs.declared.refusal.Refusal.{Refusal}
use Rattle.promise.specs.declared.refusal.Refusal.TheVariants.{Rule, Memory}
use Rattle.promise.specs.Laws.{HasOneViolation}
use Rattle.compile_pipe.specs.Profile.{is_built, IsWanted, IsInProfile, IsFirstViolation, of_front, unbuilt}
use Rattle.compile_pipe.specs.Kernels.{opencl}

module _ (source kernel : List ℕ) where
  one_wanted : (t u : List TFunction) (n m : ℕ) (a b : TFunction) → IsWanted source kernel t n a → IsWanted source kernel u m b → a ≡ b
  one_wanted t u n m a b w v =
      let same = judged_once.same source kernel t u n m w.has v.has in
      same_function t u n m a b same.0 same.1 w.there v.there

  form_built : (t u : List TFunction) (n m : ℕ) (a b : TFunction) → IsWanted source kernel t n a → is_built a ≡ false → IsWanted source kernel u m b → is_built b ≡ true → ⊥
  form_built t u n m a b w unmade v made = both (is_built b) (sym (ap is_built (one_wanted t u n m a b w v)) ∙ unmade) made
    where
      both : (c : Bool) → c ≡ false → c ≡ true → ⊥
      both c e d = cc

  -- a source that the front end takes violates none of its rules
  front_none : (t : List TFunction) (n : ℕ) (f : TFunction) (rule : SourceRule) (at : ℕ) → IsWanted source kernel t n f → IsFirstOfFront source kernel rule at → ⊥
  front_none t n f rule at w is = judged_once.none source kernel t n rule at w.has is

  pub lawful_none : (rule : SourceRule) (at : ℕ) → IsInProfile source kernel → IsFirstViolation source kernel rule at → ⊥
  lawful_none rule at h (of_front r place is) = front_none h.functions h.number h.function r place h.wanted is
  lawful_none rule at h (unbuilt typed n function wanted unmade) = form_built typed h.functions n h.number function h.function wanted unmade h.wanted h.built

  one_violation : (rule other : SourceRule) (at place : ℕ) → IsFirstViolation source kernel rule at → IsFirstViolation source kernel other place → (rule ≡ other) × (at ≡ place)
  one_violation rule other at place (of_front r p f) (of_front s q g) = judged_once.one source kernel r s p q f g
  one_violation rule other at place (of_front r p f) (unbuilt t n a w g) = absurd (front_none t n a r p w f)
  one_violation rule other at place (unbuilt t n a w g) (of_front r p f) = absurd (front_none t n a r p w f)
  one_violation rule other at place (unbuilt t n a w f) (unbuilt u m b v g) = (refl, ap (λ x. x.at) (one_wanted t u n m a b w v))

-- what was refused is what is told
pub told : {T : Type 0} (source kernel : List ℕ) (rule other : SourceRule) (at place : ℕ) → ◌≡◌ {A = Result T Refusal} (Err (Rule rule at)) (Err (Rule other place))
    → IsFirstViolation source kernel rule at → IsFirstViolation source kernel other place
told source kernel rule other at place e h =
    let same_rule : rule ≡ other = cc in
    let same_place : at ≡ place = cc in
    subst (λ r. IsFirstViolation source kernel r place) same_rule (subst (IsFirstViolation source kernel rule) same_place h)

-- a refusal of the front end that is handed on
pub handed_on : {A : Type 0} (source kernel : List ℕ) (result : Result A Refusal) (refusal : Refusal) → IsErrAnd result (λ r. r ≡ refusal)
    → ((rule : SourceRule) (at : ℕ) → refusal ≡ Rule rule at → IsFirstOfFront source kernel rule at)
    → (rule : SourceRule) (at : ℕ) → result ≡ Err (Rule rule at) → IsFirstViolation source kernel rule at
handed_on source kernel (Ok a) refusal is first rule at e = absurd is
handed_on source kernel (Err r) refusal is first rule at e = of_front rule at (first rule at (sym is ∙ same r (Rule rule at) e))
  where
    same : {A : Type 0} (r s : Refusal) → ◌≡◌ {A = Result A Refusal} (Err r) (Err s) → r ≡ s
    same r s e = cc

pub has_one_violation : HasOneViolation opencl
has_one_violation = record {
  one = λ source kernel rule other at place. one_violation source kernel rule other at place;
  none = λ source kernel rule at. lawful_none source kernel rule at;
}

-- ---- answers

-- what answers a module only for a source in the profile, and a rule only where it is the first violated one
module _ {M : Type 0} (source kernel : List ℕ) where
  pub only_rule : (result : Result M Refusal) → IfOk result (λ m. IsInProfile source kernel)
      → ((rule : SourceRule) (at : ℕ) → result ≡ Err (Rule rule at) → IsFirstViolation source kernel rule at)
      → (rule : SourceRule) (at : ℕ) → IsFirstViolation source kernel rule at → (result ≡ Err (Rule rule at)) ⊎ (result ≡ Err Memory)
  only_rule (Ok m) made told rule at is = absurd (lawful_none source kernel rule at made is)
  only_rule (Err (Rule other place)) made told rule at is =
      let same = one_violation source kernel other rule place at (told other place refl) is in
      inl (ap (λ r. Err (Rule r place)) same.0 ∙ ap (λ p. Err (Rule rule p)) same.1)
  only_rule (Err Memory) made told rule at is = inr refl

  pub only_made : (result : Result M Refusal) → ((rule : SourceRule) (at : ℕ) → result ≡ Err (Rule rule at) → IsFirstViolation source kernel rule at)
      → IsInProfile source kernel → ((m : M) × (result ≡ Ok m)) ⊎ (result ≡ Err Memory)
  only_made (Ok m) told is = inl (m, refl)
  only_made (Err (Rule rule at)) told is = absurd (lawful_none source kernel rule at is (told rule at refl))
  only_made (Err Memory) told is = inr refl
