-- The item of what `inline` gives.
use Rattle.std.proofs.Common.{◌≡◌, Option, sym, ap, ◌∙◌, subst, arith}
use Rattle.clc_types.specs.declared.typed.TFunction.{TFunction}
use Rattle.clc_counts.specs.Counts.{tally_of}
use Rattle.clc_inline.specs.declared.body.TStmt.{TStmt}
use Rattle.clc_inline.specs.Inlining.{Made, inlined, params_in}
use Rattle.ir_weights.specs.Weights.{IsAtMost}
use Rattle.item_weights.specs.Law.{weight_of_built, limit, elements_of}
use Rattle.item_weights.specs.Bodies.{BodiesAreWithinLimit}
use Rattle.item_weights.proofs.Arrays.{arrays_are_those}
use Rattle.item_weights.proofs.Functions.{nodes_are_counted}
use Rattle.item_weights.proofs.VarsOfFunctions.{elements_are_counted}
use Rattle.item_weights.proofs.Whole.{one_at_least}
use Rattle.item_weights.proofs.Kernels.{kernels_are_within_limit}

pub bodies_are_within_limit : BodiesAreWithinLimit
bodies_are_within_limit fs k f body h w e i =
    let n = i.nodes in
    let t = i.within in let t0 = t.0 in let t1 = t.1 in
    let p : body.params ≡ f.params = i.params ∙ ap (λ (o : Option TFunction). params_in o) e in
    let a = arrays_are_those body.vars.items in
    let b = elements_are_counted fs k f h w e in
    let c : elements_of body.vars.items ≡ elements_of (inlined fs k).vars = ap (λ (m : Made TStmt). elements_of m.vars) i.made in
    let one = one_at_least (inlined fs k).made in
    let m = nodes_are_counted fs k f h e in
    record {
      some = omega (arith, n, m, one);
      few = omega (arith, n, t0);
      weight =
          subst (λ x. IsAtMost (weight_of_built body.vars.items body.params body.body) (limit x)) (sym n)
          (subst (λ x. IsAtMost (weight_of_built body.vars.items x body.body) (limit (tally_of fs k).nodes)) (sym p)
          (subst (λ (m : Made TStmt). IsAtMost (weight_of_built m.vars f.params m.made) (limit (tally_of fs k).nodes)) (sym i.made) (kernels_are_within_limit fs k f h w e)));
      elements = omega (arith, a, b, c, t1);
    }
