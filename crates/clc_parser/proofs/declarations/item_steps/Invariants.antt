use Rattle.std.proofs.Common.{◌≡◌, length}
use Rattle.clc_tree.specs.StatementRules as spec
use Rattle.clc_reading.proofs.Exact.{prepend}
use Rattle.clc_parser.proofs.declarations.item_steps.Given as goal

abbrev pub invariant-turns : goal.invariant-turns
invariant-turns l = spec.items_after l.inner l.fn.tokens.left.now ≡ prepend l.rest (spec.items_after l.inner l.tokens.left.now)

abbrev pub decreases-turns : goal.decreases-turns
decreases-turns l = length l.tokens.left.now
