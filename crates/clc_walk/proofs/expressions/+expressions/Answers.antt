use Rattle.std.proofs.Common.{arith, ◌<◌, ◌≤◌, ◌*◌, suc, ◌+◌, List, Ok, Err, drop, refl, sym, ap, ◌∙◌, subst}
use Rattle.std.proofs.lemmas.List.{at_drop_all}
use Rattle.std.proofs.lemmas.Grind.{common_steps}
use denote.Param.Weighed.{most}
use Rattle.clc_tree.proofs.expressions.Chain.TheLaws.{the_size as chain_size}
use Rattle.clc_tree.proofs.expressions.Expr.TheLaws.{the_size as expr_size}
use Rattle.clc_tree.proofs.expressions.ChainStep.TheLaws.{the_size as step_size}
use Rattle.clc_tree.proofs.expressions.CommaStep.TheLaws.{the_size as comma_size}
use Rattle.clc_tree.specs.declared.expressions.Chain.{Chain, the_lemmas as chain_lemmas}
use Rattle.clc_tree.specs.declared.expressions.Expr.{Expr, out-Expr, size_is-Expr}
use Rattle.clc_tree.specs.declared.expressions.Chain.TheVariants as chain
use Rattle.std.specs.Prelude.{map}
use Rattle.clc_tree.specs.declared.expressions.ChainStep.{ChainStep}
use Rattle.clc_tree.specs.declared.expressions.CommaStep.{CommaStep}
use Rattle.clc_tree.specs.declared.expressions.PostStep.{PostStep}
use Rattle.clc_types.specs.InternalScope.{knows}
use Rattle.clc_types.specs.InternalAnswers.{Walks}
use Rattle.clc_types.specs.InternalWalk.{chain_start, comma, walk_operators, walk_further, walk_suffixes, walk_chain_step, walk_comma_step, walk_post_step}
use Rattle.clc_walk.proofs.WalkRules.{handed, handed_items, item_at, operators_fail, operators_go, suffixes_fail, suffixes_go, arguments_fail, arguments_go, set_fails, set_goes, level_fails, level_goes, cond_stops, cond_fails, cond_goes, expr_fails, commas_fail, commas_go, operand_fails, post_fails, post_goes, paren_fails, paren_goes, index_fails, index_goes, suffixes_done, arguments_done, first_argument_fails, arguments_goes}
use Rattle.clc_walk.proofs.expressions.+expressions.Goals as goal

pub assign-returns-in_err-y-in-Set : goal.assign-returns-in_err-y-in-Set
assign-returns-in_err-y-in-Set t c =
    handed _ c.from_residual-in_err-y-in-Set.result c.in_err-y-in-Set.field-0.0 c.assign.new.at c.from_residual-in_err-y-in-Set.ensures.1
    (set_fails (knows c.args.scope.now) c.args.e.now c.in-Set.place c.in-Set.operator c.in-Set.value c.get.result.now c.args.at.now c.unary.new.at c.skip.new.at c.assign.new.at c.in_ok-x-in-Set.x c.in_err-y-in-Set.field-0.0
    c.in-Set.is c.in_ok-x-in-Set.ensures c.skip.ensures c.get.ensures c.in_err-y-in-Set.ensures)

pub assign-returns-in_ok-y-in-Set : goal.assign-returns-in_ok-y-in-Set
assign-returns-in_ok-y-in-Set t c =
    set_goes (knows c.args.scope.now) c.args.e.now c.in-Set.place c.in-Set.operator c.in-Set.value c.get.result.now c.mark_of.result c.args.at.now c.unary.new.at c.skip.new.at c.assign.new.at c.assign.new.at c.in_ok-x-in-Set.x c.in_ok-y-in-Set.y c.assign_end.result
    c.in-Set.is c.in_ok-x-in-Set.ensures c.skip.ensures c.get.ensures c.in_ok-y-in-Set.ensures c.mark_of.ensures c.assign_end.ensures

pub chain-returns-in_err-all-in-Level : goal.chain-returns-in_err-all-in-Level
chain-returns-in_err-all-in-Level t c =
    handed _ c.from_residual-in_err-all-in-Level.result c.in_err-all-in-Level.field-0.0 c.operators.new.at c.from_residual-in_err-all-in-Level.ensures.1
    (level_fails (knows c.args.scope.now) c.args.e.now c.in-Level.first c.get.result.now c.in-Level.rest c.as_slice.result.now c.args.at.now c.chain.new.at c.operators.new.at c.in_ok-x-in-Level.x (chain_start c.in_ok-x-in-Level.x) c.in_err-all-in-Level.field-0.0
    c.in-Level.is c.get.ensures c.as_slice.ensures c.in_ok-x-in-Level.ensures refl c.in_err-all-in-Level.ensures)

pub chain-returns-in_ok-all-in-Level : goal.chain-returns-in_ok-all-in-Level
chain-returns-in_ok-all-in-Level t c =
    level_goes (knows c.args.scope.now) c.args.e.now c.in-Level.first c.get.result.now c.in-Level.rest c.as_slice.result.now c.args.at.now c.chain.new.at c.operators.new.at c.operators.new.at c.in_ok-x-in-Level.x (chain_start c.in_ok-x-in-Level.x) c.in_ok-all-in-Level.all c.chain_end.result
    c.in-Level.is c.get.ensures c.as_slice.ensures c.in_ok-x-in-Level.ensures refl c.in_ok-all-in-Level.ensures c.chain_end.ensures

pub commas-loop-step-preserved : goal.commas-loop-step-preserved
commas-loop-step-preserved t c =
    operators_go c.args.p c.loop-step.at c.comma.new.at c.loop-step.sofar c.in_ok-sofar.sofar (comma (walk_comma_step (knows c.args.scope.now) c.step-item.result))
    (map comma (map (walk_comma_step (knows c.args.scope.now)) (drop (c.loop-step.step-index + 1) c.args.rest.now)))
    (walk_operators c.args.p c.chain_start-sofar.result c.args.at.now (map comma (map (walk_comma_step (knows c.args.scope.now)) c.args.rest.now)))
    (ap (λ (z : List CommaStep). walk_operators c.args.p c.loop-step.sofar c.loop-step.at (map comma (map (walk_comma_step (knows c.args.scope.now)) z))) (sym (item_at c.args.rest.now c.loop-step.step-index c.step-item.result c.step-item.is c.loop-step-test.true)) ∙ c.loop-step.invariant) c.in_ok-sofar.ensures

pub commas-returns-in_err-sofar : goal.commas-returns-in_err-sofar
commas-returns-in_err-sofar t c =
    handed _ c.from_residual.result c.in_err-sofar.field-0.0 c.comma.new.at c.from_residual.ensures.1
    (subst (λ z. Walks (walk_operators c.args.p z c.args.at.now (map comma (map (walk_comma_step (knows c.args.scope.now)) c.args.rest.now))) (Err c.in_err-sofar.field-0.0) c.comma.new.at) c.chain_start-sofar.ensures
    (operators_fail c.args.p c.loop-step.at c.comma.new.at c.loop-step.sofar (comma (walk_comma_step (knows c.args.scope.now) c.step-item.result))
    (map comma (map (walk_comma_step (knows c.args.scope.now)) (drop (c.loop-step.step-index + 1) c.args.rest.now))) c.in_err-sofar.field-0.0
    (walk_operators c.args.p c.chain_start-sofar.result c.args.at.now (map comma (map (walk_comma_step (knows c.args.scope.now)) c.args.rest.now)))
    (ap (λ (z : List CommaStep). walk_operators c.args.p c.loop-step.sofar c.loop-step.at (map comma (map (walk_comma_step (knows c.args.scope.now)) z))) (sym (item_at c.args.rest.now c.loop-step.step-index c.step-item.result c.step-item.is c.loop-step-test.true)) ∙ c.loop-step.invariant) c.in_err-sofar.ensures))

pub commas-returns : goal.commas-returns
commas-returns t c =
    subst (λ z. Walks (walk_operators c.args.p z c.args.at.now (map comma (map (walk_comma_step (knows c.args.scope.now)) c.args.rest.now))) (Ok c.loop-step.sofar) c.loop-step.at) c.chain_start-sofar.ensures
    (subst (λ w. Walks w (Ok c.loop-step.sofar) c.loop-step.at)
    (sym (at_drop_all (λ (z : List CommaStep). walk_operators c.args.p c.loop-step.sofar c.loop-step.at (map comma (map (walk_comma_step (knows c.args.scope.now)) z))) c.args.rest.now c.loop-step.step-index c.loop-step-test.false) ∙ c.loop-step.invariant) (refl, refl))

pub cond-returns-in_err-y-in-Some : goal.cond-returns-in_err-y-in-Some
cond-returns-in_err-y-in-Some t c =
    handed _ c.from_residual-in_err-y-in-Some.result c.in_err-y-in-Some.field-0.0 c.expr.new.at c.from_residual-in_err-y-in-Some.ensures.1
    (cond_stops (knows c.args.scope.now) c.args.e.now c.in-Some.choice c.get-choice.result.now c.args.at.now c.chain.new.at c.skip.new.at c.expr.new.at c.in_ok-x.x c.in_err-y-in-Some.field-0.0
    c.in-Some.is c.in_ok-x.ensures c.get-choice.ensures c.skip.ensures c.in_err-y-in-Some.ensures)

pub cond-returns-in_err-z-in-Some : goal.cond-returns-in_err-z-in-Some
cond-returns-in_err-z-in-Some t c =
    handed _ c.from_residual-in_err-z-in-Some.result c.in_err-z-in-Some.field-0.0 c.cond.new.at c.from_residual-in_err-z-in-Some.ensures.1
    (cond_fails (knows c.args.scope.now) c.args.e.now c.in-Some.choice c.get-choice.result.now c.args.at.now c.chain.new.at c.skip.new.at c.expr.new.at c.skip-in-Some.new.at c.cond.new.at c.in_ok-x.x c.in_ok-y-in-Some.y c.in_err-z-in-Some.field-0.0
    c.in-Some.is c.in_ok-x.ensures c.get-choice.ensures c.skip.ensures c.in_ok-y-in-Some.ensures c.skip-in-Some.ensures c.in_err-z-in-Some.ensures)

pub cond-returns-in_ok-z-in-Some : goal.cond-returns-in_ok-z-in-Some
cond-returns-in_ok-z-in-Some t c =
    cond_goes (knows c.args.scope.now) c.args.e.now c.in-Some.choice c.get-choice.result.now c.args.at.now c.chain.new.at c.skip.new.at c.expr.new.at c.skip-in-Some.new.at c.cond.new.at c.cond.new.at c.in_ok-x.x c.in_ok-y-in-Some.y c.in_ok-z-in-Some.z c.conditional_end.result
    c.in-Some.is c.in_ok-x.ensures c.get-choice.ensures c.skip.ensures c.in_ok-y-in-Some.ensures c.skip-in-Some.ensures c.in_ok-z-in-Some.ensures c.conditional_end.ensures

pub expr-returns : goal.expr-returns
expr-returns t c =
    commas_go (knows c.args.scope.now) c.args.e.now c.as_slice.result.now c.is_empty.result c.args.at.now c.assign.new.at c.commas.new.at c.commas.new.at c.in_ok-x.x (chain_start c.in_ok-x.x) c.in_ok-all.all c.chain_end.result
    c.in_ok-x.ensures c.is_empty.ensures.1 c.if-is_empty.false c.as_slice.ensures refl c.in_ok-all.ensures c.chain_end.ensures

pub expr-returns-in_err-all : goal.expr-returns-in_err-all
expr-returns-in_err-all t c =
    handed _ c.from_residual-in_err-all.result c.in_err-all.field-0.0 c.commas.new.at c.from_residual-in_err-all.ensures.1
    (commas_fail (knows c.args.scope.now) c.args.e.now c.as_slice.result.now c.is_empty.result c.args.at.now c.assign.new.at c.commas.new.at c.in_ok-x.x (chain_start c.in_ok-x.x) c.in_err-all.field-0.0
    c.in_ok-x.ensures c.is_empty.ensures.1 c.if-is_empty.false c.as_slice.ensures refl c.in_err-all.ensures)

pub expr-returns-in_err-x : goal.expr-returns-in_err-x
expr-returns-in_err-x t c =
    handed _ c.from_residual.result c.in_err-x.field-0.0 c.assign.new.at c.from_residual.ensures.1
    (expr_fails (knows c.args.scope.now) c.args.e.now c.args.at.now c.assign.new.at c.in_err-x.field-0.0 c.in_err-x.ensures)

pub operator-returns-in_err-y : goal.operator-returns-in_err-y
operator-returns-in_err-y t c =
    handed _ c.from_residual.result c.in_err-y.field-0.0 c.chain.new.at c.from_residual.ensures.1
    (operand_fails (knows c.args.scope.now) c.args.step.now c.args.p c.args.at.now c.skip.new.at c.chain.new.at c.args.sofar c.in_err-y.field-0.0 c.skip.ensures c.in_err-y.ensures)

pub operators-loop-step-preserved : goal.operators-loop-step-preserved
operators-loop-step-preserved t c =
    operators_go c.args.p c.loop-step.at c.operator.new.at c.loop-step.sofar c.in_ok-sofar.sofar (walk_chain_step (knows c.args.scope.now) c.step-item.result)
    (map (walk_chain_step (knows c.args.scope.now)) (drop (c.loop-step.step-index + 1) c.args.rest.now))
    (walk_operators c.args.p c.chain_start-sofar.result c.args.at.now (map (walk_chain_step (knows c.args.scope.now)) c.args.rest.now))
    (ap (λ (z : List ChainStep). walk_operators c.args.p c.loop-step.sofar c.loop-step.at (map (walk_chain_step (knows c.args.scope.now)) z)) (sym (item_at c.args.rest.now c.loop-step.step-index c.step-item.result c.step-item.is c.loop-step-test.true)) ∙ c.loop-step.invariant) c.in_ok-sofar.ensures

pub operators-returns-in_err-sofar : goal.operators-returns-in_err-sofar
operators-returns-in_err-sofar t c =
    handed _ c.from_residual.result c.in_err-sofar.field-0.0 c.operator.new.at c.from_residual.ensures.1
    (subst (λ z. Walks (walk_operators c.args.p z c.args.at.now (map (walk_chain_step (knows c.args.scope.now)) c.args.rest.now)) (Err c.in_err-sofar.field-0.0) c.operator.new.at) c.chain_start-sofar.ensures
    (operators_fail c.args.p c.loop-step.at c.operator.new.at c.loop-step.sofar (walk_chain_step (knows c.args.scope.now) c.step-item.result)
    (map (walk_chain_step (knows c.args.scope.now)) (drop (c.loop-step.step-index + 1) c.args.rest.now)) c.in_err-sofar.field-0.0
    (walk_operators c.args.p c.chain_start-sofar.result c.args.at.now (map (walk_chain_step (knows c.args.scope.now)) c.args.rest.now))
    (ap (λ (z : List ChainStep). walk_operators c.args.p c.loop-step.sofar c.loop-step.at (map (walk_chain_step (knows c.args.scope.now)) z)) (sym (item_at c.args.rest.now c.loop-step.step-index c.step-item.result c.step-item.is c.loop-step-test.true)) ∙ c.loop-step.invariant) c.in_err-sofar.ensures))

pub operators-returns : goal.operators-returns
operators-returns t c =
    subst (λ z. Walks (walk_operators c.args.p z c.args.at.now (map (walk_chain_step (knows c.args.scope.now)) c.args.rest.now)) (Ok c.loop-step.sofar) c.loop-step.at) c.chain_start-sofar.ensures
    (subst (λ w. Walks w (Ok c.loop-step.sofar) c.loop-step.at)
    (sym (at_drop_all (λ (z : List ChainStep). walk_operators c.args.p c.loop-step.sofar c.loop-step.at (map (walk_chain_step (knows c.args.scope.now)) z)) c.args.rest.now c.loop-step.step-index c.loop-step-test.false) ∙ c.loop-step.invariant) (refl, refl))

pub primary-returns-in_err-x-in-Paren : goal.primary-returns-in_err-x-in-Paren
primary-returns-in_err-x-in-Paren t c =
    handed _ c.from_residual.result c.in_err-x-in-Paren.field-0.0 c.expr.new.at c.from_residual.ensures.1
    (paren_fails (knows c.args.scope.now) c.args.e.now c.in-Paren.opening c.in-Paren.inner c.get.result.now c.in-Paren.field-2 c.args.at.now c.skip-in-Paren.new.at c.expr.new.at c.in_err-x-in-Paren.field-0.0
    c.in-Paren.is c.skip-in-Paren.ensures c.get.ensures c.in_err-x-in-Paren.ensures)

pub primary-returns-in_ok-x-in-Paren : goal.primary-returns-in_ok-x-in-Paren
primary-returns-in_ok-x-in-Paren t c =
    paren_goes (knows c.args.scope.now) c.args.e.now c.in-Paren.opening c.in-Paren.inner c.get.result.now c.in-Paren.field-2 c.args.at.now c.skip-in-Paren.new.at c.expr.new.at c.paren_end.new.at c.in_ok-x-in-Paren.x c.paren_end.result
    c.in-Paren.is c.skip-in-Paren.ensures c.get.ensures c.in_ok-x-in-Paren.ensures c.paren_end.ensures

pub suffix-returns-in_err-y-in-Index : goal.suffix-returns-in_err-y-in-Index
suffix-returns-in_err-y-in-Index t c =
    handed _ c.from_residual.result c.in_err-y-in-Index.field-0.0 c.expr.new.at c.from_residual.ensures.1
    (index_fails (knows c.args.scope.now) c.args.step.now c.in-Index.field-0 c.in-Index.index c.get.result.now c.in-Index.field-2 c.args.p c.args.at.now c.skip.new.at c.expr.new.at c.args.x c.in_err-y-in-Index.field-0.0
    c.in-Index.is c.skip.ensures c.get.ensures c.in_err-y-in-Index.ensures)

pub suffix-returns-in_ok-y-in-Index : goal.suffix-returns-in_ok-y-in-Index
suffix-returns-in_ok-y-in-Index t c =
    index_goes (knows c.args.scope.now) c.args.step.now c.in-Index.field-0 c.in-Index.index c.get.result.now c.in-Index.field-2 c.args.p c.args.at.now c.skip.new.at c.expr.new.at c.index_end.new.at c.args.x c.in_ok-y-in-Index.y c.index_end.result
    c.in-Index.is c.skip.ensures c.get.ensures c.in_ok-y-in-Index.ensures c.index_end.ensures

pub post-returns-in_err-x : goal.post-returns-in_err-x
post-returns-in_err-x t c =
    handed _ c.from_residual.result c.in_err-x.field-0.0 c.primary.new.at c.from_residual.ensures.1
    (post_fails (knows c.args.scope.now) c.args.e.now c.args.at.now c.primary.new.at c.in_err-x.field-0.0 c.in_err-x.ensures)

pub post-returns-in_err-x-2 : goal.post-returns-in_err-x-2
post-returns-in_err-x-2 t c =
    handed _ c.from_residual-in_err-x-2.result c.in_err-x-2.field-0.0 c.suffix.new.at c.from_residual-in_err-x-2.ensures.1
    (post_goes (knows c.args.scope.now) c.args.e.now c.as_slice-step-items.result.now c.args.at.now c.primary.new.at c.suffix.new.at c.in_ok-x.x (Err c.in_err-x-2.field-0.0) c.in_ok-x.ensures c.as_slice-step-items.ensures
    (suffixes_fail c.args.at.now c.loop-step.at c.suffix.new.at c.loop-step.x (walk_post_step (knows c.args.scope.now) c.step-item.result)
    (map (walk_post_step (knows c.args.scope.now)) (drop (c.loop-step.step-index + 1) c.as_slice-step-items.result.now)) c.in_err-x-2.field-0.0
    (walk_suffixes c.args.at.now c.in_ok-x.x c.primary.new.at (map (walk_post_step (knows c.args.scope.now)) c.as_slice-step-items.result.now))
    (ap (λ (z : List PostStep). walk_suffixes c.args.at.now c.loop-step.x c.loop-step.at (map (walk_post_step (knows c.args.scope.now)) z)) (sym (item_at c.as_slice-step-items.result.now c.loop-step.step-index c.step-item.result c.step-item.is c.loop-step-test.true)) ∙ c.loop-step.invariant) c.in_err-x-2.ensures))

pub post-loop-step-preserved : goal.post-loop-step-preserved
post-loop-step-preserved t c =
    suffixes_go c.args.at.now c.loop-step.at c.suffix.new.at c.loop-step.x c.in_ok-x-2.x (walk_post_step (knows c.args.scope.now) c.step-item.result)
    (map (walk_post_step (knows c.args.scope.now)) (drop (c.loop-step.step-index + 1) c.as_slice-step-items.result.now))
    (walk_suffixes c.args.at.now c.in_ok-x.x c.primary.new.at (map (walk_post_step (knows c.args.scope.now)) c.as_slice-step-items.result.now))
    (ap (λ (z : List PostStep). walk_suffixes c.args.at.now c.loop-step.x c.loop-step.at (map (walk_post_step (knows c.args.scope.now)) z)) (sym (item_at c.as_slice-step-items.result.now c.loop-step.step-index c.step-item.result c.step-item.is c.loop-step-test.true)) ∙ c.loop-step.invariant) c.in_ok-x-2.ensures

pub post-returns : goal.post-returns
post-returns t c =
    post_goes (knows c.args.scope.now) c.args.e.now c.as_slice-step-items.result.now c.args.at.now c.primary.new.at c.loop-step.at c.in_ok-x.x (Ok c.loop-step.x) c.in_ok-x.ensures c.as_slice-step-items.ensures
    (suffixes_done (walk_post_step (knows c.args.scope.now)) c.args.at.now c.loop-step.at c.loop-step.x c.as_slice-step-items.result.now c.loop-step.step-index
    (walk_suffixes c.args.at.now c.in_ok-x.x c.primary.new.at (map (walk_post_step (knows c.args.scope.now)) c.as_slice-step-items.result.now)) c.loop-step-test.false c.loop-step.invariant)

pub arguments_in-returns-in_err-list : goal.arguments_in-returns-in_err-list
arguments_in-returns-in_err-list t c =
    handed_items _ c.from_residual.result c.in_err-list.field-0.0 c.argument_of.new.at c.from_residual.ensures.1
    (first_argument_fails (knows c.args.scope.now) c.args.e.now c.args.at.now c.argument_of.new.at c.new.result.items c.in_err-list.field-0.0 c.new.ensures.items c.in_err-list.ensures)

pub arguments_in-returns-in_err-list-2 : goal.arguments_in-returns-in_err-list-2
arguments_in-returns-in_err-list-2 t c =
    handed_items _ c.from_residual-in_err-list-2.result c.in_err-list-2.field-0.0 c.argument_after.new.at c.from_residual-in_err-list-2.ensures.1
    (arguments_goes (knows c.args.scope.now) c.args.e.now c.as_slice-step-items.result.now c.args.at.now c.argument_of.new.at c.argument_after.new.at c.new.result.items c.in_ok-list.list.items (Err c.in_err-list-2.field-0.0) c.new.ensures.items c.in_ok-list.ensures c.as_slice-step-items.ensures
    (arguments_fail c.loop-step.at c.argument_after.new.at c.loop-step.list.items (walk_comma_step (knows c.args.scope.now) c.step-item.result)
    (map (walk_comma_step (knows c.args.scope.now)) (drop (c.loop-step.step-index + 1) c.as_slice-step-items.result.now)) c.in_err-list-2.field-0.0
    (walk_further c.in_ok-list.list.items c.argument_of.new.at (map (walk_comma_step (knows c.args.scope.now)) c.as_slice-step-items.result.now))
    (ap (λ (z : List CommaStep). walk_further c.loop-step.list.items c.loop-step.at (map (walk_comma_step (knows c.args.scope.now)) z)) (sym (item_at c.as_slice-step-items.result.now c.loop-step.step-index c.step-item.result c.step-item.is c.loop-step-test.true)) ∙ c.loop-step.invariant) c.in_err-list-2.ensures))

pub arguments_in-loop-step-preserved : goal.arguments_in-loop-step-preserved
arguments_in-loop-step-preserved t c =
    arguments_go c.loop-step.at c.argument_after.new.at c.loop-step.list.items c.in_ok-list-2.list.items (walk_comma_step (knows c.args.scope.now) c.step-item.result)
    (map (walk_comma_step (knows c.args.scope.now)) (drop (c.loop-step.step-index + 1) c.as_slice-step-items.result.now))
    (walk_further c.in_ok-list.list.items c.argument_of.new.at (map (walk_comma_step (knows c.args.scope.now)) c.as_slice-step-items.result.now))
    (ap (λ (z : List CommaStep). walk_further c.loop-step.list.items c.loop-step.at (map (walk_comma_step (knows c.args.scope.now)) z)) (sym (item_at c.as_slice-step-items.result.now c.loop-step.step-index c.step-item.result c.step-item.is c.loop-step-test.true)) ∙ c.loop-step.invariant) c.in_ok-list-2.ensures

pub arguments_in-returns : goal.arguments_in-returns
arguments_in-returns t c =
    arguments_goes (knows c.args.scope.now) c.args.e.now c.as_slice-step-items.result.now c.args.at.now c.argument_of.new.at c.loop-step.at c.new.result.items c.in_ok-list.list.items (Ok c.loop-step.list.items) c.new.ensures.items c.in_ok-list.ensures c.as_slice-step-items.ensures
    (arguments_done (walk_comma_step (knows c.args.scope.now)) c.loop-step.at c.loop-step.list.items c.as_slice-step-items.result.now c.loop-step.step-index
    (walk_further c.in_ok-list.list.items c.argument_of.new.at (map (walk_comma_step (knows c.args.scope.now)) c.as_slice-step-items.result.now)) c.loop-step-test.false c.loop-step.invariant)

-- the operands after the first are less deep than their chain
steps_fall : (first : Chain) (rest : List ChainStep) → most (λ x. step_size x) rest < chain_size (chain.Level first rest)
steps_fall first rest = grind (arith, common_steps, chain_lemmas)

commas_fall : (e : Expr) → most (λ x. comma_size x) (out-Expr e).rest < expr_size e
commas_fall e = omega (arith, size_is-Expr e)

pub chain-operators-requires : goal.chain-operators-requires
chain-operators-requires t c =
    let f = subst (λ z. most (λ x. step_size x) c.in-Level.rest < chain_size z) (sym c.in-Level.is) (steps_fall c.in-Level.first c.in-Level.rest) in
    let h : suc (2 * most (λ x. step_size x) c.in-Level.rest + 1) ≤ t = omega (arith, f, c.decreases) in
    (subst (λ (l : List ChainStep). suc (2 * most (λ x. step_size x) l + 1) ≤ t) (sym c.as_slice.ensures) h, tt)

pub expr-commas-requires : goal.expr-commas-requires
expr-commas-requires t c =
    let f = subst (λ (l : List CommaStep). most (λ x. comma_size x) l < expr_size c.args.e.now) (sym c.as_slice.ensures) (commas_fall c.args.e.now) in
    (omega (arith, f, c.decreases), tt)
