-- Which nodes stand by themselves.
use Rattle.std.specs.Prelude.{ℕ, suc, ◌<◌}
use Rattle.clc_types.specs.declared.typed.Node.{Node}
use Rattle.clc_types.specs.declared.typed.Node.TheVariants.{Paren', Chain'}
use Rattle.item_meaning.specs.ItemMeaning.{operators}

-- no parentheses
abbrev pub IsBare : Node → Type 0
IsBare (Paren' a arg) = ⊥
IsBare _ = Unit {0}

-- and no chain without operators
abbrev pub IsCore : Node → Type 0
IsCore (Paren' a arg) = ⊥
IsCore (Chain' f first r rest) = 0 < operators rest
IsCore _ = Unit {0}
