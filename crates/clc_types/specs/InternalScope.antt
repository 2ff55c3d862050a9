-- Internal: what the code keeps, and no part of the rules. What the open blocks say of a name. The innermost block is the last.
use Rattle.std.specs.Prelude.{ℕ, bytes_eq, List, [], ◌∷◌, ◌++◌, Option, None, map}
use Rattle.std.specs.Map.{lookup}
use Rattle.indexmap.specs.IndexMap.{IndexMap}
use Rattle.std.specs.Prelude.{Vec}
use Rattle.clc_types.specs.declared.forms.Home.{Home}
use Rattle.clc_types.specs.declared.forms.Named.{Named}
use Rattle.clc_types.specs.declared.scope.Scope.{Scope}
use Rattle.clc_types.specs.Names.{or_else, builtin_named, builtin_of}

abbrev pub Entries : Type 0
Entries = List (List ℕ × Named)

-- the entries of a map, with their names as lists of bytes
abbrev pub seen : {V S R : Type 0} → IndexMap (Vec ℕ R) V S → List (List ℕ × V)
seen m = map (λ e. (e.0.items, e.1)) m.entries

abbrev pub found : Entries → List ℕ → Option Named
found es x = lookup (bytes_eq x) es

abbrev pub known : List Entries → List ℕ → Option Named
known [] x = None
known (b ∷ bs) x = or_else (known bs x) (found b x)

abbrev pub entries_of : Scope → List Entries
entries_of s = map (λ b. seen b) s.outer ++ seen s.inner ∷ []

-- what a walk over an expression knows
pub record Known : Type 0 where
  pub look : List ℕ → Option Named
  pub home : Home

abbrev pub look_in : List Entries → List ℕ → Option Named
look_in es x = or_else (known es x) (builtin_named (builtin_of x))

abbrev pub knows : Scope → Known
knows s = record { look = look_in (entries_of s); home = s.home }
