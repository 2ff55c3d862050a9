-- Variables of two lists.
use Rattle.std.proofs.Common.{◌≡◌, ◌+◌, List, [], ◌∷◌, ◌++◌, length, arith}
use Rattle.clc_types.specs.declared.typed.Var.{Var}
use Rattle.item_weights.specs.Law.{elements_of}

pub length_both : {A : Type 0} (xs ys : List A) → length (xs ++ ys) ≡ length xs + length ys
length_both [] ys = omega arith
length_both (x ∷ xs) ys = let p = length_both xs ys in omega (arith, p)

pub elements_both : (xs ys : List Var) → elements_of (xs ++ ys) ≡ elements_of xs + elements_of ys
elements_both [] ys = omega arith
elements_both (x ∷ xs) ys = let p = elements_both xs ys in omega (arith, p)
