-- What the launches of a kernel have to give it: the kinds of its parameters.
use Rattle.std.specs.Prelude.{ℕ, zero, suc, List, [], ◌∷◌, map, take}
use Rattle.q_lane.specs.declared.kinds.Kind.{Kind}
use Rattle.q_lane.specs.declared.kinds.Kind.TheVariants as kind
use Rattle.clc_types.specs.declared.typed.Var.{Var}
use Rattle.clc_types.specs.declared.typed.Var.TheVariants as var
use Rattle.clc_types.specs.declared.typed.TFunction.{TFunction}

-- a number of a type, or a pointer. An array is no parameter
abbrev pub kind_of : Var → Kind
kind_of (var.Value s) = kind.Value s
kind_of (var.Pointer elem constant) = kind.Pointer
kind_of (var.Array elem len) = kind.Pointer

-- the kinds of a function's parameters in their order
abbrev pub kinds_of : TFunction → List Kind
kinds_of f = map kind_of (take f.params f.vars)

-- those of the function of this number
abbrev pub kinds_at : List TFunction → ℕ → List Kind
kinds_at [] number = []
kinds_at (f ∷ fs) zero = kinds_of f
kinds_at (f ∷ fs) (suc number) = kinds_at fs number
