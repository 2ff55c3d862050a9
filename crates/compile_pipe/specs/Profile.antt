-- Which sources are in the profile for a kernel's name, and the rule that another one violates first. OpenCL C 1.2, section 6; the order of the rules is
-- this project's own.
use Rattle.std.specs.Prelude.{◌≡◌, ℕ, Bool, true, false, ◌&&◌, eqb, List, [], slice_get, Some}
use Rattle.clc_types.specs.declared.typed.TStmt.{TStmt, out-TStmt}
use Rattle.clc_types.specs.declared.typed.TStmt.TheOpen as s
use Rattle.clc_types.specs.declared.typed.TStmt.TheOpen.{TStmt-F}
use Rattle.clc_types.specs.declared.typed.TFunction.{TFunction}
use Rattle.clc_front.specs.Profile.{HasKernel, IsFirstViolation as IsFirstOfFront}
use Rattle.promise.specs.declared.refusal.SourceRule.{SourceRule}
use Rattle.promise.specs.declared.refusal.SourceRule.TheVariants.{N0}

-- ---- the forms of kernels that are built so far

abbrev pub is_empty_block : TStmt-F TStmt → Bool
is_empty_block (s.Block []) = true
is_empty_block _ = false

-- a kernel without parameters whose body has no statement
abbrev pub is_built : TFunction → Bool
is_built f = eqb f.params 0 && is_empty_block (out-TStmt f.body)

-- ---- the profile

-- the kernel of that name, which stands at this place among the functions, is this one
pub record IsWanted (source kernel : List ℕ) (functions : List TFunction) (number : ℕ) (function : TFunction) : Type 0 where
  pub has : HasKernel source kernel functions number
  pub there : slice_get functions number ≡ Some function

pub record IsInProfile (source kernel : List ℕ) : Type 0 where
  pub functions : List TFunction
  pub number : ℕ
  pub function : TFunction
  pub wanted : IsWanted source kernel functions number function
  pub built : is_built function ≡ true

-- The first violated rule and its offset: one of those that the front end tells, and else that the form of the kernel isn't built
pub data IsFirstViolation (source kernel : List ℕ) : SourceRule → ℕ → Type 0 where
  of_front : (rule : SourceRule) (at : ℕ) → IsFirstOfFront source kernel rule at → IsFirstViolation source kernel rule at
  unbuilt : (functions : List TFunction) (number : ℕ) (function : TFunction) → IsWanted source kernel functions number function → is_built function ≡ false
      → IsFirstViolation source kernel N0 function.at
