-- What the typing rules give has an expression or a declaration first in each `for`.
use Rattle.std.specs.Prelude.{◌≡◌, true, List}
use Rattle.clc_tree.specs.declared.functions.Tree.{Tree}
use Rattle.clc_types.specs.declared.typed.TFunction.{TFunction}
use Rattle.clc_types.specs.Judged.{Fine}
use Rattle.clc_types.specs.Programs.{program}
use Rattle.clc_plain.specs.Plain.{are_plain}

abbrev pub TypedTreesArePlain : Type 0
TypedTreesArePlain = (tree : Tree) (functions : List TFunction) → program tree ≡ Fine functions → are_plain functions ≡ true
