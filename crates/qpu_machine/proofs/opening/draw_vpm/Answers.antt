use Rattle.std.proofs.Common.{◌+◌, ◌*◌, [], arith, refl, sym, ◌∙◌, ap}
use Rattle.std.proofs.lemmas.List.{length-set}
use Rattle.std.proofs.lemmas.List.FromFn.{fill_by_all}
use Rattle.q_lane.specs.Vectors.{lanes}
use Rattle.qpu_machine.specs.Schedules.{seed_after, draw}
use Rattle.qpu_machine.specs.Opening.{drawn_vpm}
use Rattle.qpu_machine.proofs.Seeds.{seed_after-none, seed_after-add, drawn_words-next, filled-more}
use Rattle.qpu_machine.proofs.opening.draw_vpm.Goals as goal

pub loop-y-init : goal.loop-y-init
loop-y-init c = (sym (seed_after-none c.args.generator.now.state), refl, λ k h. absurd (omega (arith, h)))

pub loop-y-preserved : goal.loop-y-preserved
loop-y-preserved c =
    let x = c.args.generator.now.state in
    let y = c.loop-y.y in
    let done = c.loop-y.invariant in (
      c.draw_words.ensures.state ∙ ap (λ s. seed_after s 16) done.0 ∙ seed_after-add x (16 * y) 16 (16 * (y + 1)) (omega arith),
      length-set c.loop-y.rows y c.draw_words.result ∙ done.1,
      filled-more (λ k. lanes 16 (λ i. draw x (0 + 16 * k + i))) c.loop-y.rows y c.draw_words.result [] (omega (arith, done.1, c.loop-y-test.true)) done.2
          (c.draw_words.ensures.words ∙ ap (λ s. lanes 16 (λ i. draw s i)) done.0 ∙ drawn_words-next x (16 * y) (0 + 16 * y) (omega arith)),
    )

pub returns : goal.returns
unfolding drawn_vpm
returns c =
    let x = c.args.generator.now.state in
    fill_by_all (λ y. lanes 16 (λ i. draw x (0 + 16 * y + i))) c.loop-y.rows 64 [] c.loop-y.invariant.1
    (λ i h. c.loop-y.invariant.2 i (omega (arith, h, c.loop-y-test.false)))
