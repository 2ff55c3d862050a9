use Rattle.std.proofs.Common.{◌≡◌, map, drop}
use Rattle.clc_proper.specs.Proper.{all, function_proper}
use Rattle.clc_proper.proofs.program_checks.is_tree.Given as goal

abbrev pub invariant-loop-function : goal.invariant-loop-function
invariant-loop-function l = all (map function_proper l.function-items) ≡ all (map function_proper (drop l.function-index l.function-items))
