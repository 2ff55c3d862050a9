use Rattle.std.proofs.Common.{◌≡◌, suc, ◌+◌, ◌-◌, sym, ap, ◌∙◌, subst, arith}
use Rattle.clc_reading.specs.Reading.{Got}
use Rattle.clc_parser.specs.Reads.{Reads}
use Rattle.clc_tree.specs.ExpressionRules as spec
use Rattle.clc_grammar_laws.proofs.ExpressionLevels.{commas_loop, posts_loop, steps_loop}
use Rattle.clc_parser.proofs.Handing.{handed_on}
use Rattle.clc_parser.proofs.Chains.{level_read, looser_stops, steps_stop}
use Rattle.clc_parser.proofs.expressions.+rules.Goals as goal

pub expr-returns : goal.expr-returns
expr-returns t c =
    let e : c.args.room ≡ suc (c.args.room - 1) = omega arith in
    subst (λ n. Reads ((spec.levels n).expr c.args.tokens.now.left.now) c.expression.result c.expression.new.tokens.left.now) (sym e) c.expression.ensures

pub lower_assign-returns : goal.lower_assign-returns
lower_assign-returns t c =
    let e : c.args.room ≡ suc (c.args.room - 1) = omega arith in
    subst (λ n. Reads ((spec.levels n).assign c.args.tokens.now.left.now) c.assign.result c.assign.new.tokens.left.now) (sym e) c.assign.ensures

pub lower_cast-returns : goal.lower_cast-returns
lower_cast-returns t c =
    let e : c.args.room ≡ suc (c.args.room - 1) = omega arith in
    subst (λ n. Reads ((spec.levels n).cast c.args.tokens.now.left.now) c.cast.result c.cast.new.tokens.left.now) (sym e) c.cast.ensures

pub lower_cond-returns : goal.lower_cond-returns
lower_cond-returns t c =
    let e : c.args.room ≡ suc (c.args.room - 1) = omega arith in
    subst (λ n. Reads ((spec.levels n).cond c.args.tokens.now.left.now) c.conditional.result c.conditional.new.tokens.left.now) (sym e) c.conditional.ensures

pub lower_unary-returns : goal.lower_unary-returns
lower_unary-returns t c =
    let e : c.args.room ≡ suc (c.args.room - 1) = omega arith in
    subst (λ n. Reads ((spec.levels n).unary c.args.tokens.now.left.now) c.unary.result c.unary.new.tokens.left.now) (sym e) c.unary.ensures

pub commas-turns-smaller : goal.commas-turns-smaller
commas-turns-smaller t c = (commas_loop c.args.inner).falls c.turns.tokens.left.now c.in_ok-comma_step.field-0 c.comma_step.new.tokens.left.now c.in_ok-comma_step.ensures

pub commas-turns-preserved : goal.commas-turns-preserved
commas-turns-preserved t c =
    rw c.in_ok-push.ensures.ok ((commas_loop c.args.inner).more _ c.turns.rest c.turns.tokens.left.now c.in_ok-comma_step.field-0 c.comma_step.new.tokens.left.now c.turns.invariant (sym c.turns-test.ensures) c.in_ok-comma_step.ensures)

pub post_steps-turns-smaller : goal.post_steps-turns-smaller
post_steps-turns-smaller t c = (posts_loop c.args.inner).falls c.turns.tokens.left.now c.in_ok-post_step.field-0 c.post_step.new.tokens.left.now c.in_ok-post_step.ensures

pub post_steps-turns-preserved : goal.post_steps-turns-preserved
post_steps-turns-preserved t c =
    rw c.in_ok-push.ensures.ok ((posts_loop c.args.inner).more _ c.turns.rest c.turns.tokens.left.now c.in_ok-post_step.field-0 c.post_step.new.tokens.left.now c.turns.invariant (sym c.turns-test.ensures) c.in_ok-post_step.ensures)

pub chain_steps-turns-smaller : goal.chain_steps-turns-smaller
chain_steps-turns-smaller t c = (steps_loop c.args.inner c.args.rank c.requires).falls c.turns.tokens.left.now c.in_ok-chain_step.field-0 c.chain_step.new.tokens.left.now c.in_ok-chain_step.ensures

pub chain_steps-turns-preserved : goal.chain_steps-turns-preserved
chain_steps-turns-preserved t c =
    rw c.in_ok-push.ensures.ok ((steps_loop c.args.inner c.args.rank c.requires).more _ c.turns.rest c.turns.tokens.left.now c.in_ok-chain_step.field-0 c.chain_step.new.tokens.left.now c.turns.invariant (sym c.turns-test.ensures) c.in_ok-chain_step.ensures)

pub chain-returns-in_err-chain : goal.chain-returns-in_err-chain
chain-returns-in_err-chain t c =
    handed_on (spec.chain c.args.inner (spec.levels c.args.inner) c.args.levels c.args.tokens.now.left.now) c.from_residual.result c.in_err-chain.field-0.0 c.operand.new.tokens.left.now c.from_residual.ensures.1
    (looser_stops c.args.inner (spec.levels c.args.inner) 0 c.args.levels c.args.tokens.now.left.now _ c.operand.new.tokens.left.now (omega arith) c.in_err-chain.ensures)

pub chain-returns-in_err-rest : goal.chain-returns-in_err-rest
chain-returns-in_err-rest t c =
    handed_on (spec.chain c.args.inner (spec.levels c.args.inner) c.args.levels c.args.tokens.now.left.now) c.from_residual-in_err-rest.result c.in_err-rest.field-0.0 c.chain_steps.new.tokens.left.now c.from_residual-in_err-rest.ensures.1
    (steps_stop c.args.inner (spec.levels c.args.inner) c.levels.rank c.args.levels c.args.tokens.now.left.now c.levels.chain c.levels.tokens.left.now _ c.chain_steps.new.tokens.left.now (omega arith) c.levels.invariant c.in_err-rest.ensures)

pub chain-levels-preserved : goal.chain-levels-preserved
chain-levels-preserved t c =
    let e : suc c.levels.rank ≡ c.levels.rank + 1 = omega arith in
    let h = level_read c.args.inner (spec.levels c.args.inner) c.levels.rank c.args.tokens.now.left.now c.levels.chain c.levels.tokens.left.now c.in_ok-rest.rest c.chain_steps.new.tokens.left.now c.levels.invariant c.in_ok-rest.ensures in
    subst (λ i. spec.chain c.args.inner (spec.levels c.args.inner) i c.args.tokens.now.left.now ≡ Got c.in_ok-chain-2.chain c.chain_steps.new.tokens.left.now) e
    (h ∙ ap (λ x. Got x c.chain_steps.new.tokens.left.now) (sym c.in_ok-chain-2.ensures.ok))
