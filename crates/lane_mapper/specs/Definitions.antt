-- Statements of a batch that define values and do nothing else.
use Rattle.std.specs.Prelude.{ℕ, Bool, true, false, ◌&&◌, nat_le, nat_lt, List, [], ◌∷◌}
use Rattle.lane_ir.specs.declared.form.LaneStmt.{LaneStmt}
use Rattle.lane_ir.specs.declared.form.LaneStmt.TheVariants.{Let}

abbrev pub is_definition : LaneStmt → Bool
is_definition (Let v d) = true
is_definition s = false

abbrev pub are_definitions : List LaneStmt → Bool
are_definitions [] = true
are_definitions (s ∷ rest) = is_definition s && are_definitions rest

-- one that defines a value from a number up to another
abbrev pub defines_within : (from to : ℕ) → LaneStmt → Bool
defines_within from to (Let v d) = nat_le from v.0 && nat_lt v.0 to
defines_within from to s = false

abbrev pub define_within : (from to : ℕ) → List LaneStmt → Bool
define_within from to [] = true
define_within from to (s ∷ rest) = defines_within from to s && define_within from to rest
