use Rattle.std.proofs.Common.{◌≡◌, ◌+◌, ◌++◌, ◌∷◌, [], IfOk, ap, ◌∙◌, subst}
use Rattle.qpu_select.specs.Whole.{takes}
use Rattle.qpu_select.proofs.whole.put_work.Goals as goal

pub returns : goal.returns
returns c =
    let global = c.global-global.ensures.value in
    let local = c.local-local.ensures.value in
    let first = c.takes.ensures in
    let batch = c.takes-2.ensures ∙ ap takes c.batch.ensures in
    let step = c.takes-3.ensures ∙ ap takes c.step.ensures in
    let batches = c.takes-4.ensures ∙ ap takes c.batches.ensures in
    let items = c.takes-5.ensures ∙ ap takes c.items.ensures in
    let dims = c.takes-6.ensures ∙ ap takes c.dims.ensures in
    let global_0 = c.takes-7.ensures ∙ ap takes global in
    let global_1 = c.takes-8.ensures ∙ ap (λ r. takes (r + 1)) global in
    let global_2 = c.takes-9.ensures ∙ ap (λ r. takes (r + 2)) global in
    let local_0 = c.takes-10.ensures ∙ ap takes local in
    let local_1 = c.takes-11.ensures ∙ ap (λ r. takes (r + 1)) local in
    let local_2 = c.takes-12.ensures ∙ ap (λ r. takes (r + 2)) local in
    subst
    (λ ops. IfOk c.put.result (λ _. c.put.new.ops.items ≡ c.args.ops.now.items ++ ops))
    (λ i.
    first i
    ∷ batch i
    ∷ step i
    ∷ batches i
    ∷ items i
    ∷ dims i
    ∷ global_0 i
    ∷ global_1 i
    ∷ global_2 i
    ∷ local_0 i
    ∷ local_1 i
    ∷ local_2 i
    ∷ [])
    c.put.ensures
