use Rattle.std.proofs.Common.{◌≡◌, ◌+◌, ◌*◌, length}
use Rattle.clc_tree.specs.StatementRules as spec
use Rattle.clc_reading.proofs.Exact.{prepend}
use Rattle.clc_parser.proofs.statements.+rules.Given as goal

abbrev pub decreases-stmt : goal.decreases-stmt
decreases-stmt l = 16 * l.room + 0

abbrev pub decreases-governed : goal.decreases-governed
decreases-governed l = 16 * l.inner + 1

abbrev pub decreases-other_part : goal.decreases-other_part
decreases-other_part l = 16 * l.inner + 1

abbrev pub decreases-if_from : goal.decreases-if_from
decreases-if_from l = 16 * l.inner + 2

abbrev pub decreases-while_from : goal.decreases-while_from
decreases-while_from l = 16 * l.inner + 2

abbrev pub decreases-do_from : goal.decreases-do_from
decreases-do_from l = 16 * l.inner + 2

abbrev pub decreases-for_from : goal.decreases-for_from
decreases-for_from l = 16 * l.inner + 2

abbrev pub decreases-block_part : goal.decreases-block_part
decreases-block_part l = 16 * l.inner + 1

abbrev pub decreases-parts : goal.decreases-parts
decreases-parts l = 16 * l.inner + 2

abbrev pub decreases-block : goal.decreases-block
decreases-block l = 16 * l.inner + 3

abbrev pub decreases-governing : goal.decreases-governing
decreases-governing l = 16 * l.inner + 4

abbrev pub decreases-statement : goal.decreases-statement
decreases-statement l = 16 * l.inner + 5

abbrev pub invariant-parts-turns : goal.invariant-parts-turns
invariant-parts-turns l = spec.parts l.inner (spec.levels l.inner) l.fn.tokens.left.now ≡ prepend l.all (spec.parts l.inner (spec.levels l.inner) l.tokens.left.now)

abbrev pub decreases-parts-turns : goal.decreases-parts-turns
decreases-parts-turns l = length l.tokens.left.now
