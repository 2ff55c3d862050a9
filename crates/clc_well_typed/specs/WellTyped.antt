-- What the typing rules give is well typed.
use Rattle.std.specs.Prelude.{◌≡◌, true, List}
use Rattle.clc_tree.specs.SourceText.{IsProper}
use Rattle.clc_tree.specs.declared.functions.Tree.{Tree}
use Rattle.clc_types.specs.declared.typed.TFunction.{TFunction}
use Rattle.clc_types.specs.Judged.{Fine}
use Rattle.clc_types.specs.Programs.{program}
use Rattle.clc_types.specs.WellTyped.{is_well_typed}

abbrev pub AreWellTyped : Type 0
AreWellTyped = (tree : Tree) (functions : List TFunction) → IsProper tree → program tree ≡ Fine functions → is_well_typed functions ≡ true
