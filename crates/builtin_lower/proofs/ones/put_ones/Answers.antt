use Rattle.std.proofs.Common.{◌≡◌, List, [], ◌∷◌, ◌++◌, ap, ◌∙◌}
use Rattle.lane_ir.specs.declared.recipe.Act.TheVariants.{Const}
use Rattle.lane_ir.specs.declared.recipe.Source.TheVariants.{Temp}
use Rattle.lane_ir.specs.declared.recipe.Step.{Step}
use Rattle.lane_ir.specs.Recipe.{statements, defining}
use Rattle.builtin_lower.specs.Lower.{step, copy, halvings}
use Rattle.builtin_lower.proofs.Pieces.{then_last, then_more}
use Rattle.builtin_lower.proofs.ones.put_ones.Goals as goal

pub returns : goal.returns
returns c =
    let k = c.args.first in
    let args = c.args.args.now in
    let v = c.args.value.0 in
    let old = c.args.out.now.items in
    let one : c.step_to.result ≡ step 4 (copy c.args.a) = c.step_to.ensures ∙ ap (step 4) c.copy_of.ensures in
    let two : c.step_to-2.result ≡ step 5 (copy c.args.a) = c.step_to-2.ensures ∙ ap (step 5) c.copy_of-2.ensures in
    let opening : List Step = step 4 (copy c.args.a) ∷ step 5 (copy c.args.a) ∷ step 6 (Const 1) ∷ [] in
    let opened : c.put_steps.new.out.items ≡ old ++ statements k args opening = c.in_ok-put_steps.ensures ∙ (λ i. old ++ statements k args (one i ∷ two i ∷ c.step_to-3.ensures i ∷ [])) in
    c.in_ok-put_defining.ensures
    ∙ (λ i. c.in_ok-put_halvings.ensures i ++ defining k args [] (c.copy_of-3.ensures i) v)
    ∙ (λ i. opened i ++ statements k args (halvings 31) ++ defining k args [] (copy (Temp 5)) v)
    ∙ ap (λ z. z ++ defining k args [] (copy (Temp 5)) v) (then_more k args old opening (halvings 31))
    ∙ then_last k args old (opening ++ halvings 31) (copy (Temp 5)) v
