-- What the kernels of OpenCL C mean to those who judge launches of them. OpenCL C 1.2, section 6; the order of evaluation, the turns and the values
-- where the standard leaves them open are this project's own.
use Rattle.std.specs.Prelude.{◌≡◌, ℕ, List}
use Rattle.clc_types.specs.declared.typed.TFunction.{TFunction}
use Rattle.clc_front.specs.Profile.{HasKernel, IsFirstViolation}
use Rattle.clc_front.specs.Kinds.{kinds_at}
use Rattle.item_meaning.specs.ItemMeaning.{item}
use Rattle.promise.specs.Kernel.{Meaning}
use Rattle.promise.specs.Language.{Meanings}

-- what the kernel of that name in the source means: its parameters and its items are those that the typed tree says
pub record IsMeant (source name : List ℕ) (meaning : Meaning) : Type 0 where
  pub functions : List TFunction
  pub number : ℕ
  pub has : HasKernel source name functions number
  pub is : meaning ≡ record { kinds = kinds_at functions number; item = item functions number }

-- what is judged
abbrev pub opencl_meanings : Meanings
opencl_meanings = record { means = IsMeant; violates_first = IsFirstViolation }
