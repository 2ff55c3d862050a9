-- The nodes of an inlined kernel are those that the limit counts, and so its item weighs no more than they allow.
use Rattle.std.specs.Prelude.{◌≡◌, ℕ, ◌+◌, ◌≤◌, true, List, Some, length, slice_get}
use Rattle.clc_types.specs.declared.typed.TFunction.{TFunction}
use Rattle.clc_types.specs.WellTyped.{is_well_typed}
use Rattle.clc_counts.specs.Counts.{tally_of}
use Rattle.clc_inline.specs.Inlining.{inlined}
use Rattle.ir_weights.specs.Weights.{sum, IsAtMost, of_numbers}
use Rattle.item_weights.specs.Nodes.{count_stmt}
use Rattle.clc_plain.specs.Plain.{are_plain}
use Rattle.item_weights.specs.Law.{weight_of_built, limit, elements_of}

abbrev pub NodesAreCounted : Type 0
NodesAreCounted = (functions : List TFunction) (kernel : ℕ) (f : TFunction) → is_well_typed functions ≡ true → slice_get functions kernel ≡ Some f
    → count_stmt (inlined functions kernel).made ≡ (tally_of functions kernel).nodes

-- a well-typed kernel has at most 16 parameters
abbrev pub KernelsWeighLittle : Type 0
KernelsWeighLittle = (functions : List TFunction) (kernel : ℕ) (f : TFunction) → is_well_typed functions ≡ true → slice_get functions kernel ≡ Some f
    → let b = inlined functions kernel in
    IsAtMost (weight_of_built b.vars f.params b.made) (sum (limit (tally_of functions kernel).nodes) (of_numbers (length b.vars) (length b.vars)))

-- the variables of an inlined kernel have the elements that the limit counts
abbrev pub ElementsAreCounted : Type 0
ElementsAreCounted = (functions : List TFunction) (kernel : ℕ) (f : TFunction) → is_well_typed functions ≡ true → are_plain functions ≡ true → slice_get functions kernel ≡ Some f
    → elements_of (inlined functions kernel).vars ≡ (tally_of functions kernel).elements

-- each of them but the kernel's parameters is a node
abbrev pub VariablesAreFew : Type 0
VariablesAreFew = (functions : List TFunction) (kernel : ℕ) (f : TFunction) → is_well_typed functions ≡ true → are_plain functions ≡ true → slice_get functions kernel ≡ Some f
    → length (inlined functions kernel).vars ≤ (tally_of functions kernel).nodes + f.params

-- then it is within the limit of its nodes
abbrev pub KernelsAreWithinLimit : Type 0
KernelsAreWithinLimit = (functions : List TFunction) (kernel : ℕ) (f : TFunction) → is_well_typed functions ≡ true → are_plain functions ≡ true → slice_get functions kernel ≡ Some f
    → let b = inlined functions kernel in IsAtMost (weight_of_built b.vars f.params b.made) (limit (tally_of functions kernel).nodes)
