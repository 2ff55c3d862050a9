-- The item of what `inline` gives.
use Rattle.std.specs.Prelude.{◌≡◌, ℕ, ◌≤◌, true, List, Some, map, slice_get}
use Rattle.clc_tree.specs.SourceText.{IsProper}
use Rattle.clc_tree.specs.declared.functions.Tree.{Tree}
use Rattle.clc_types.specs.declared.typed.TFunction.{TFunction}
use Rattle.clc_types.specs.Judged.{Fine}
use Rattle.clc_types.specs.Programs.{program}
use Rattle.clc_types.specs.WellTyped.{is_well_typed}
use Rattle.clc_plain.specs.Plain.{are_plain}
use Rattle.clc_inline.specs.declared.whole.Body.{Body}
use Rattle.clc_inline.specs.Inlines.{IsInlined}
use Rattle.ir_build.specs.Build.{array_length}
use Rattle.ir_weights.specs.Weights.{IsAtMost}
use Rattle.item_weights.specs.Law.{weight_of_built, limit, total}

-- the nodes of a body are within their limit, and one at least; what its item weighs is within the limit of its nodes; and its arrays have at most 1,024 elements
pub record IsSmall (body : Body) : Type 0 where
  pub some : 1 ≤ body.nodes
  pub few : body.nodes ≤ 16384
  pub weight : IsAtMost (weight_of_built body.vars.items body.params body.body) (limit body.nodes)
  pub elements : total (map array_length body.vars.items) ≤ 1024

abbrev pub BodiesAreWithinLimit : Type 0
BodiesAreWithinLimit = (functions : List TFunction) (kernel : ℕ) (f : TFunction) (body : Body) → is_well_typed functions ≡ true → are_plain functions ≡ true → slice_get functions kernel ≡ Some f
    → IsInlined functions kernel body → IsSmall body

-- so is that of each program that breaks no typing rule
abbrev pub ProgramsAreWithinLimit : Type 0
ProgramsAreWithinLimit = (tree : Tree) (functions : List TFunction) (kernel : ℕ) (f : TFunction) (body : Body) → IsProper tree → program tree ≡ Fine functions → slice_get functions kernel ≡ Some f
    → IsInlined functions kernel body → IsSmall body
