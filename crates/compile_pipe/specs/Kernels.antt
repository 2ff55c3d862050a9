-- The kernels of sources, and the language that is compiled. They are this project's own.
use Rattle.std.specs.Prelude.{◌≡◌, ℕ, List}
use Rattle.vc4q_module.specs.ModuleBytes.{ModuleOf}
use Rattle.clc_types.specs.declared.typed.TFunction.{TFunction}
use Rattle.clc_front.specs.Profile.{HasKernel}
use Rattle.clc_front.specs.Kinds.{kinds_at}
use Rattle.clc_counts.specs.Counts.{tally_of}
use Rattle.item_meaning.specs.ItemMeaning.{item}
use Rattle.promise.specs.Kernel.{Kernel}
use Rattle.promise.specs.Language.{Language}
use Rattle.promise.specs.Faithful.{IsFaithful as IsFaithfulIn}
use Rattle.compile_pipe.specs.Profile.{IsInProfile, IsFirstViolation}

-- the kernel of this number: its parameters, its nodes and its items are those that the typed tree says
abbrev pub kernel_at : List TFunction → (number : ℕ) → Kernel
kernel_at functions number = record { kinds = kinds_at functions number; nodes = (tally_of functions number).nodes; item = item functions number }

-- this is the kernel of that name in the source, which is in the profile
pub record IsKernel (source name : List ℕ) (kernel : Kernel) : Type 0 where
  pub lawful : IsInProfile source name
  pub functions : List TFunction
  pub number : ℕ
  pub has : HasKernel source name functions number
  pub is : kernel ≡ kernel_at functions number

-- what is compiled
abbrev pub opencl : Language
opencl = record { in_profile = IsInProfile; has_kernel = IsKernel; violates_first = IsFirstViolation }

-- the module is faithful to the kernel of that name in the source: for all valid launches, in all runs, whatever the schedule
abbrev pub IsFaithful : (source name : List ℕ) → ModuleOf → Type 0
IsFaithful source name code = IsFaithfulIn opencl source name code
