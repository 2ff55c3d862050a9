use Rattle.std.proofs.Common.{◌≡◌, ◌+◌, ◌++◌, ◌∷◌, [], refl, sym, ap, ◌∙◌, map, append_assoc, arith}
use Rattle.std.specs.List.{range_with_len}
use Rattle.std.proofs.lemmas.List.FromFn.{map-range_with_len_more}
use Rattle.qpu_select.specs.Whole.{takes, work_regs}
use Rattle.qpu_select.proofs.whole.put_uniforms.Goals as goal

pub loop-p-preserved : goal.loop-p-preserved
loop-p-preserved c =
    let first = c.params-first.result in
    let p = c.loop-p.p in
    let work = c.put_work.new.ops.items in
    c.in_ok-push.ensures.items
    ∙ (λ i. c.loop-p.invariant i ++ c.takes.ensures i ∷ [])
    ∙ append_assoc work (map takes (range_with_len first p)) (takes (first + p) ∷ [])
    ∙ ap (λ ops. work ++ ops) (sym (map-range_with_len_more takes first p (first + p) refl))

pub returns : goal.returns
returns c =
    let h = c.args.h in
    let first : c.params-first.result ≡ h.vals + 13 = omega (arith, c.params-first.ensures) in
    let count : c.loop-p.p ≡ h.params = omega (arith, c.loop-p-test.false, c.loop-p.auto.p-end) in
    c.loop-p.invariant
    ∙ (λ i. c.in_ok-put_work.ensures i ++ map takes (range_with_len (first i) (count i)))
    ∙ append_assoc c.args.ops.now.items (map takes (work_regs h)) (map takes (range_with_len (h.vals + 13) h.params))
