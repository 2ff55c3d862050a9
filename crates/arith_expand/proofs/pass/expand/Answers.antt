use Rattle.std.proofs.Common.{◌≡◌, length, ap, sym, ◌∙◌, subst}
use Rattle.std.specs.List.{each_same}
use Rattle.lane_ir.specs.LaneMeaning.{run_all}
use Rattle.lane_ir.specs.Batch.{counts_of}
use Rattle.lane_ir.specs.Valid.{counted, is_body}
use Rattle.lane_ir.specs.Kept.{EndsAs, each_def_all, rewritten_all}
use Rattle.lane_ir.proofs.Bodies.{bodies}
use Rattle.arith_expand.specs.Expand.{expanded, is_free}
use Rattle.arith_expand.proofs.AllDefs.{defs_kept}
use Rattle.arith_expand.proofs.Free.{none_left}
use Rattle.arith_expand.proofs.ValidExpanded.{expanded_valid}
use Rattle.arith_expand.proofs.pass.expand.Goals as goal

pub returns-clause-arrays : goal.returns-clause-arrays
returns-clause-arrays c = each_same _ _ c.in_ok-arrays.ensures.cases.0

pub returns-clause-kinds : goal.returns-clause-kinds
returns-clause-kinds c = each_same _ _ c.in_ok-kinds.ensures.cases.0

pub returns-clause-undivided : goal.returns-clause-undivided
returns-clause-undivided c =
    let vals = c.args.ir.now.vals in
    let body : c.in_ok-body.body.items ≡ rewritten_all (expanded vals) c.args.ir.now.body.items = c.in_ok-body.ensures ∙ ap (rewritten_all (expanded vals)) c.deref.ensures.value in
    ap (each_def_all is_free) body ∙ none_left vals c.args.ir.now.body.items

pub invariant_of-result : goal.invariant_of-result
invariant_of-result c =
    let vals = c.args.ir.now.vals in
    let arrays : c.in_ok-arrays.arrays.items ≡ c.args.ir.now.arrays.items = each_same _ _ c.in_ok-arrays.ensures.cases.0 in
    let kinds : c.in_ok-kinds.kinds.items ≡ c.args.ir.now.kinds.items = each_same _ _ c.in_ok-kinds.ensures.cases.0 in
    let body : c.in_ok-body.body.items ≡ rewritten_all (expanded vals) c.args.ir.now.body.items = c.in_ok-body.ensures ∙ ap (rewritten_all (expanded vals)) c.deref.ensures.value in
    record {
      valid =
          (λ i. is_body (counted (c.in_ok-vals.ensures.0 i) c.args.ir.now.vars (length (arrays i)) (length (kinds i))) (body i))
          ∙ expanded_valid (counts_of c.args.ir.now) c.args.ir.now.body.items c.args.ir.now.valid;
    }

pub returns-clause-same : goal.returns-clause-same
returns-clause-same c w n i j s t o le at m =
    let vals = c.args.ir.now.vals in
    let counts = counts_of c.args.ir.now in
    let body : c.in_ok-body.body.items ≡ rewritten_all (expanded vals) c.args.ir.now.body.items = c.in_ok-body.ensures ∙ ap (rewritten_all (expanded vals)) c.deref.ensures.value in
    subst (λ b. EndsAs vals (run_all w n i c.args.ir.now.body.items s) (run_all w n j b t)) (sym body)
    ((bodies (expanded counts.vals) counts w n 33 o (λ u g. defs_kept counts w n u o g)) i j c.args.ir.now.body.items s t le at c.args.ir.now.valid m)
