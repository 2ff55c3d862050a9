-- Functions in which an expression or a declaration stands first in each `for`, as the grammar has it.
use Rattle.std.specs.Prelude.{Bool, true, false, ◌&&◌, List, [], ◌∷◌, Option, Some, None}
use Rattle.clc_types.specs.declared.typed.TStmt.{TStmt}
use Rattle.clc_types.specs.declared.typed.TStmt.TheOpen as s
use Rattle.clc_types.specs.declared.typed.TStmt.TheOpen.{TStmt-F}
use Rattle.clc_types.specs.declared.typed.TStmt.TheFolds.{fold-TStmt}
use Rattle.clc_types.specs.declared.typed.TFunction.{TFunction}

-- whether that is so in a statement, and whether it may stand first itself
pub record Plain : Type 0 where
  pub whole : Bool
  pub first : Bool

abbrev pub all_plain : List Plain → Bool
all_plain [] = true
all_plain (x ∷ xs) = x.whole && all_plain xs

abbrev pub all_first : List Plain → Bool
all_first [] = true
all_first (x ∷ xs) = x.first && all_first xs

abbrev pub plain_else : Option Plain → Bool
plain_else None = true
plain_else (Some x) = x.whole

abbrev pub inside : Bool → Plain
inside b = record { whole = b; first = false }

abbrev pub anywhere : Plain
anywhere = record { whole = true; first = true }

abbrev pub plain_layer : TStmt-F Plain → Plain
plain_layer (s.Block xs) = inside (all_plain xs)
plain_layer (s.Declare v i) = anywhere
plain_layer (s.Eval x) = anywhere
plain_layer s.Empty = inside true
plain_layer (s.If x a b) = inside (a.whole && plain_else b)
plain_layer (s.While x a) = inside a.whole
plain_layer (s.Do a x) = inside a.whole
plain_layer (s.For xs x y a) = inside (all_first xs && a.whole)
plain_layer s.Break = inside true
plain_layer s.Continue = inside true
plain_layer (s.Return x) = inside true

abbrev pub plain_in : TStmt → Plain
plain_in = fold-TStmt Plain plain_layer

abbrev pub are_plain : List TFunction → Bool
are_plain [] = true
are_plain (f ∷ more) = (plain_in f.body).whole && are_plain more
