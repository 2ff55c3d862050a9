use Rattle.std.proofs.Common.{◌≡◌, ◌++◌, map, drop}
use Rattle.clc_tree.specs.Flat.{joined, function_tokens}
use Rattle.clc_tree_tokens.proofs.program_tokens.flat.Given as goal

abbrev pub invariant-loop-function : goal.invariant-loop-function
invariant-loop-function l =
    l.tokens.items ++ joined (map function_tokens (drop l.function-index l.function-items)) ≡ l.initial.tokens.items ++ joined (map function_tokens l.function-items)
