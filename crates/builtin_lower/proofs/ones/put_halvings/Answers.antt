use Rattle.std.proofs.Common.{◌≡◌, suc, ◌+◌, ◌-◌, List, [], ◌∷◌, ◌++◌, sym, ap, ◌∙◌, arith, append_assoc}
use Rattle.lane_ir.specs.declared.form.LaneStmt.{LaneStmt}
use Rattle.lane_ir.specs.declared.recipe.Step.{Step}
use Rattle.lane_ir.specs.Recipe.{statements}
use Rattle.builtin_lower.specs.Lower.{halvings}
use Rattle.builtin_lower.proofs.ones.put_halvings.Goals as goal

pub loop-preserved : goal.loop-preserved
loop-preserved c =
    let n = c.args.times - (c.loop.counter + 1) in
    let made : List Step → List LaneStmt = statements c.args.first c.args.args.now in
    let left : c.args.times - c.loop.counter ≡ suc n = omega (arith, c.loop-test.true) in
    (λ i. c.in_ok-put_steps.ensures i ++ made (halvings n))
    ∙ append_assoc c.loop.out.items (made (c.step_to.result ∷ c.step_to-2.result ∷ [])) (made (halvings n))
    ∙ (λ i. c.loop.out.items ++ made (c.step_to.ensures i ∷ c.step_to-2.ensures i ∷ halvings n))
    ∙ ap (λ z. c.loop.out.items ++ made (halvings z)) (sym left)
    ∙ c.loop.invariant
