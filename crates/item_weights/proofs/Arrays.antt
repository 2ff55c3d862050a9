-- The lengths of the arrays.
use Rattle.std.proofs.Common.{◌≡◌, List, [], ◌∷◌, map, refl, arith}
use Rattle.clc_types.specs.declared.typed.Var.{Var}
use Rattle.clc_types.specs.declared.typed.Var.TheVariants as var
use Rattle.clc_counts.specs.Counts.{array_tally}
use Rattle.ir_build.specs.Build.{array_length}
use Rattle.item_weights.specs.Law.{total, elements_of}

one_length : (x : Var) → array_length x ≡ (array_tally x).elements
one_length (var.Value s) = refl
one_length (var.Pointer e c) = refl
one_length (var.Array e n) = refl

pub arrays_are_those : (vars : List Var) → total (map array_length vars) ≡ elements_of vars
arrays_are_those [] = refl
arrays_are_those (x ∷ rest) = let p = one_length x in let q = arrays_are_those rest in omega (arith, p, q)
