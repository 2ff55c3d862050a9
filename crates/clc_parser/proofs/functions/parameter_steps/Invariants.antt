use Rattle.std.proofs.Common.{◌≡◌, length}
use Rattle.clc_tree.specs.ProgramRules as spec
use Rattle.clc_reading.proofs.Exact.{prepend}
use Rattle.clc_parser.proofs.functions.parameter_steps.Given as goal

abbrev pub invariant-turns : goal.invariant-turns
invariant-turns l = spec.parameters_after l.room l.fn.tokens.left.now ≡ prepend l.rest (spec.parameters_after l.room l.tokens.left.now)

abbrev pub decreases-turns : goal.decreases-turns
decreases-turns l = length l.tokens.left.now
