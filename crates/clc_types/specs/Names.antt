-- Names of functions: those of the source, and the built-in ones (OpenCL C 1.2, 6.12.1 and 6.12.3).
use Rattle.std.specs.Prelude.{ℕ, suc, if◌then◌else◌, bytes_eq, codes, List, [], ◌∷◌, Option, Some, None}
use Rattle.clc_types.specs.declared.typed.Builtin.{Builtin}
use Rattle.clc_types.specs.declared.typed.Builtin.TheVariants as b
use Rattle.clc_types.specs.declared.forms.Named.{Named}
use Rattle.clc_types.specs.declared.forms.Named.TheVariants as nm

abbrev pub or_else : Option Named → Option Named → Option Named
or_else (Some y) z = Some y
or_else None z = z

-- the names of the built-in functions
abbrev pub spelling : Builtin → List ℕ
spelling b.GetWorkDim = codes "get_work_dim"
spelling b.GetGlobalId = codes "get_global_id"
spelling b.GetGlobalSize = codes "get_global_size"
spelling b.GetLocalId = codes "get_local_id"
spelling b.GetLocalSize = codes "get_local_size"
spelling b.GetGroupId = codes "get_group_id"
spelling b.GetNumGroups = codes "get_num_groups"
spelling b.Min = codes "min"
spelling b.Max = codes "max"
spelling b.Clamp = codes "clamp"
spelling b.Abs = codes "abs"
spelling b.AbsDiff = codes "abs_diff"
spelling b.Mul24 = codes "mul24"
spelling b.MulHi = codes "mul_hi"
spelling b.Rotate = codes "rotate"
spelling b.Clz = codes "clz"
spelling b.Popcount = codes "popcount"
spelling b.AddSat = codes "add_sat"
spelling b.SubSat = codes "sub_sat"

abbrev pub builtins : List Builtin
builtins = b.GetWorkDim ∷ b.GetGlobalId ∷ b.GetGlobalSize ∷ b.GetLocalId ∷ b.GetLocalSize ∷ b.GetGroupId ∷ b.GetNumGroups ∷ b.Min ∷ b.Max ∷ b.Clamp ∷ b.Abs ∷ b.AbsDiff ∷ b.Mul24 ∷ b.MulHi ∷ b.Rotate ∷ b.Clz ∷ b.Popcount ∷ b.AddSat ∷ b.SubSat ∷ []

-- the one of them that has the name
abbrev pub spelled : List Builtin → List ℕ → Option Builtin
spelled [] x = None
spelled (f ∷ fs) x = if bytes_eq (spelling f) x then Some f else spelled fs x

abbrev pub builtin_of : List ℕ → Option Builtin
builtin_of x = spelled builtins x

abbrev pub builtin_named : Option Builtin → Option Named
builtin_named None = None
builtin_named (Some f) = Some (nm.Builtin f)

-- the first function of the name
abbrev pub function_of : ℕ → List (List ℕ) → List ℕ → Option Named
function_of n [] x = None
function_of n (f ∷ fs) x = if bytes_eq x f then Some (nm.Function n) else function_of (suc n) fs x

-- a function, or else a built-in one
abbrev pub outermost : List (List ℕ) → List ℕ → Option Named
outermost fs x = or_else (function_of 0 fs x) (builtin_named (builtin_of x))
