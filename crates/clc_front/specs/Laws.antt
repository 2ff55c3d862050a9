-- That a source is judged in one way.
use Rattle.std.specs.Prelude.{◌≡◌, ℕ, List}
use Rattle.clc_types.specs.declared.typed.TFunction.{TFunction}
use Rattle.promise.specs.declared.refusal.SourceRule.{SourceRule}
use Rattle.clc_front.specs.Profile.{HasKernel, IsFirstViolation}

-- for a kernel's name a source has one first violation at most, or else one typed tree and one kernel in it, and not both
pub record SourcesAreJudgedOnce : Type 0 where
  pub one : (source kernel : List ℕ) (rule other : SourceRule) (at place : ℕ)
      → IsFirstViolation source kernel rule at → IsFirstViolation source kernel other place → (rule ≡ other) × (at ≡ place)
  pub none : (source kernel : List ℕ) (functions : List TFunction) (number : ℕ) (rule : SourceRule) (at : ℕ) → HasKernel source kernel functions number → ¬ (IsFirstViolation source kernel rule at)
  pub same : (source kernel : List ℕ) (functions other : List TFunction) (number another : ℕ)
      → HasKernel source kernel functions number → HasKernel source kernel other another → (functions ≡ other) × (number ≡ another)
