use Rattle.std.proofs.Common.{◌≡◌, ◌++◌, length, ap, ◌∙◌}
use Rattle.std.specs.List.{each_same}
use Rattle.lane_ir.specs.Valid.{counted, is_body}
use Rattle.mask_flow.specs.Masked.{masked_item}
use Rattle.mask_flow.specs.Heights.{height_all, vals_after, vars_after}
use Rattle.mask_flow.proofs.Names.{batch_named}
use Rattle.mask_flow.proofs.pass.mask.Goals as goal

pub invariant_of-result : goal.invariant_of-result
invariant_of-result c =
    let ir = c.args.ir.now in
    let p = c.args.prolog.now in
    let high : c.in_ok-height.height ≡ height_all ir.body.items = c.in_ok-height.ensures ∙ ap height_all c.deref.ensures.value in
    let vals : c.in_ok-vals.vals ≡ vals_after p.vals (height_all ir.body.items) = c.in_ok-vals.ensures ∙ ap (vals_after p.vals) high in
    let vars : c.in_ok-vars.vars ≡ vars_after ir.vars (height_all ir.body.items) = c.in_ok-vars.ensures ∙ ap (vars_after ir.vars) high in
    let arrays : c.in_ok-arrays.arrays.items ≡ ir.arrays.items = each_same _ _ c.in_ok-arrays.ensures.cases.0 in
    let kinds : c.in_ok-kinds.kinds.items ≡ ir.kinds.items = each_same _ _ c.in_ok-kinds.ensures.cases.0 in
    let prolog : c.put_definitions.new.out.items ≡ p.body.items = c.in_ok-put_definitions.ensures ∙ (λ i. c.new-body.ensures.items i ++ c.deref-2.ensures.value i) in
    let body : c.put_item.new.out.items ≡ p.body.items ++ masked_item p.ids.items p.live p.vals ir.vars ir.body.items =
    c.in_ok-put_item.ensures ∙ ap (λ l. l ++ masked_item p.ids.items p.live p.vals ir.vars ir.body.items) prolog in
    record {
      valid =
          (λ i. is_body (counted (vals i) (vars i) (length (arrays i)) (length (kinds i))) (body i))
          ∙ batch_named ir.vals ir.vars (length ir.arrays.items) (length ir.kinds.items) p.vals p.body.items p.live p.ids.items ir.body.items c.requires p.definitions p.named p.below ir.valid;
    }
