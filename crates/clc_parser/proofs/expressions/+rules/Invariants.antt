use Rattle.std.proofs.Common.{◌≡◌, ◌+◌, ◌*◌, length}
use Rattle.clc_tree.specs.ExpressionRules as spec
use Rattle.clc_reading.specs.Reading.{Got}
use Rattle.clc_reading.proofs.Exact.{prepend}
use Rattle.clc_parser.proofs.expressions.+rules.Given as goal

abbrev pub decreases-expr : goal.decreases-expr
decreases-expr l = 128 * l.room + 0

abbrev pub decreases-lower_assign : goal.decreases-lower_assign
decreases-lower_assign l = 128 * l.room + 0

abbrev pub decreases-lower_cond : goal.decreases-lower_cond
decreases-lower_cond l = 128 * l.room + 0

abbrev pub decreases-lower_cast : goal.decreases-lower_cast
decreases-lower_cast l = 128 * l.room + 0

abbrev pub decreases-lower_unary : goal.decreases-lower_unary
decreases-lower_unary l = 128 * l.room + 0

abbrev pub decreases-paren_from : goal.decreases-paren_from
decreases-paren_from l = 128 * l.inner + 1

abbrev pub decreases-arguments : goal.decreases-arguments
decreases-arguments l = 128 * l.inner + 1

abbrev pub decreases-named : goal.decreases-named
decreases-named l = 128 * l.inner + 2

abbrev pub decreases-primary : goal.decreases-primary
decreases-primary l = 128 * l.inner + 3

abbrev pub decreases-post_step : goal.decreases-post_step
decreases-post_step l = 128 * l.inner + 1

abbrev pub decreases-post_steps : goal.decreases-post_steps
decreases-post_steps l = 128 * l.inner + 2

abbrev pub decreases-post_from : goal.decreases-post_from
decreases-post_from l = 128 * l.inner + 3

abbrev pub decreases-post : goal.decreases-post
decreases-post l = 128 * l.inner + 4

abbrev pub decreases-unary : goal.decreases-unary
decreases-unary l = 128 * l.inner + 5

abbrev pub decreases-cast_from : goal.decreases-cast_from
decreases-cast_from l = 128 * l.inner + 4

abbrev pub decreases-cast : goal.decreases-cast
decreases-cast l = 128 * l.inner + 6

abbrev pub decreases-operand : goal.decreases-operand
decreases-operand l = 128 * l.inner + 7

abbrev pub decreases-chain : goal.decreases-chain
decreases-chain l = 128 * l.inner + 8 + 4 * l.levels

abbrev pub decreases-chain_step : goal.decreases-chain_step
decreases-chain_step l = 128 * l.inner + 9 + 4 * l.rank

abbrev pub decreases-chain_steps : goal.decreases-chain_steps
decreases-chain_steps l = 128 * l.inner + 10 + 4 * l.rank

abbrev pub decreases-choice_from : goal.decreases-choice_from
decreases-choice_from l = 128 * l.inner + 1

abbrev pub decreases-conditional : goal.decreases-conditional
decreases-conditional l = 128 * l.inner + 60

abbrev pub decreases-assign : goal.decreases-assign
decreases-assign l = 128 * l.inner + 61

abbrev pub decreases-comma_step : goal.decreases-comma_step
decreases-comma_step l = 128 * l.inner + 62

abbrev pub decreases-commas : goal.decreases-commas
decreases-commas l = 128 * l.inner + 63

abbrev pub decreases-expression : goal.decreases-expression
decreases-expression l = 128 * l.inner + 64

abbrev pub invariant-commas-turns : goal.invariant-commas-turns
invariant-commas-turns l = spec.commas l.inner (spec.levels l.inner) l.fn.tokens.left.now ≡ prepend l.rest (spec.commas l.inner (spec.levels l.inner) l.tokens.left.now)

abbrev pub decreases-commas-turns : goal.decreases-commas-turns
decreases-commas-turns l = length l.tokens.left.now

abbrev pub invariant-post_steps-turns : goal.invariant-post_steps-turns
invariant-post_steps-turns l = spec.post_steps l.inner (spec.levels l.inner) l.fn.tokens.left.now ≡ prepend l.rest (spec.post_steps l.inner (spec.levels l.inner) l.tokens.left.now)

abbrev pub decreases-post_steps-turns : goal.decreases-post_steps-turns
decreases-post_steps-turns l = length l.tokens.left.now

abbrev pub invariant-chain_steps-turns : goal.invariant-chain_steps-turns
invariant-chain_steps-turns l = spec.chain_steps l.inner (spec.levels l.inner) l.rank l.fn.tokens.left.now ≡ prepend l.rest (spec.chain_steps l.inner (spec.levels l.inner) l.rank l.tokens.left.now)

abbrev pub decreases-chain_steps-turns : goal.decreases-chain_steps-turns
decreases-chain_steps-turns l = length l.tokens.left.now

abbrev pub invariant-chain-levels : goal.invariant-chain-levels
invariant-chain-levels l = spec.chain l.inner (spec.levels l.inner) l.rank l.fn.tokens.left.now ≡ Got l.chain l.tokens.left.now
