use Rattle.std.proofs.Common.{◌≡◌, ◌-◌, List, [], ◌∷◌, ◌++◌, ap, ◌∙◌}
use Rattle.q_lane.specs.Numbers.{width}
use Rattle.q_lane.specs.declared.operations.BinOp.TheVariants.{Add, Sub, And, Shl, Shr}
use Rattle.lane_ir.specs.declared.recipe.Act.TheVariants.{Const, Two}
use Rattle.lane_ir.specs.declared.recipe.Source.TheVariants.{Temp}
use Rattle.lane_ir.specs.declared.recipe.Step.{Step}
use Rattle.lane_ir.specs.Recipe.{statements, defining}
use Rattle.builtin_lower.specs.Lower.{step, copy, low_into, narrow_into}
use Rattle.builtin_lower.proofs.Pieces.{then_last, then_more}
use Rattle.builtin_lower.proofs.bits.put_rotate.Goals as goal

pub returns : goal.returns
returns c =
    let k = c.args.first in
    let args = c.args.args.now in
    let v = c.args.value.0 in
    let t = c.args.t in
    let old = c.args.out.now.items in
    let low : List Step = low_into t 4 (Temp 0) in
    let mid : List Step = step 5 (Const (width t - 1)) ∷ step 6 (Two And (Temp 1) (Temp 5)) ∷ step 7 (Two Shl (Temp 4) (Temp 6)) ∷ step 8 (Two Sub (Temp 5) (Temp 6))
    ∷ step 8 (Two Shr (Temp 4) (Temp 8)) ∷ step 9 (Const 1) ∷ step 8 (Two Shr (Temp 8) (Temp 9)) ∷ step 7 (Two Add (Temp 7) (Temp 8)) ∷ [] in
    let narrow : List Step = narrow_into t 0 (Temp 7) in
    let most : c.step_to.result ≡ step 5 (Const (width t - 1)) = c.step_to.ensures ∙ ap (λ z. step 5 (Const (z - 1))) c.width.ensures.value in
    let mids : c.put_steps.new.out.items ≡ c.put_low.new.out.items ++ statements k args mid =
    c.in_ok-put_steps.ensures
    ∙ (λ i. c.put_low.new.out.items ++ statements k args (most i ∷ c.step_to-2.ensures i ∷ c.step_to-3.ensures i ∷ c.step_to-4.ensures i ∷ c.step_to-5.ensures i ∷ c.step_to-6.ensures i ∷ c.step_to-7.ensures i ∷ c.step_to-8.ensures i ∷ [])) in
    c.in_ok-put_defining.ensures
    ∙ (λ i. c.in_ok-put_narrow.ensures i ++ defining k args [] (c.copy_of.ensures i) v)
    ∙ (λ i. mids i ++ statements k args narrow ++ defining k args [] (copy (Temp 0)) v)
    ∙ (λ i. c.in_ok-put_low.ensures i ++ statements k args mid ++ statements k args narrow ++ defining k args [] (copy (Temp 0)) v)
    ∙ ap (λ z. z ++ statements k args narrow ++ defining k args [] (copy (Temp 0)) v) (then_more k args old low mid)
    ∙ ap (λ z. z ++ defining k args [] (copy (Temp 0)) v) (then_more k args old (low ++ mid) narrow)
    ∙ then_last k args old (low ++ mid ++ narrow) (copy (Temp 0)) v
