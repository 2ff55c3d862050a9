use Rattle.std.proofs.Common.{arith, refl, sym, ◌∙◌, ap}
use Rattle.std.proofs.lemmas.List.{length-set}
use Rattle.q_lane.proofs.VectorLaws.{lanes-is}
use Rattle.qpu_machine.specs.Schedules.{next_seed, drawn, draw}
use Rattle.qpu_machine.proofs.Seeds.{seed_after-none, seed_after-more, draw-next, filled-more}
use Rattle.qpu_machine.proofs.opening.draw_words.Goals as goal

pub loop-i-init : goal.loop-i-init
loop-i-init c = (sym (seed_after-none c.args.generator.now.state), refl, λ k h. absurd (omega (arith, h)))

pub loop-i-preserved : goal.loop-i-preserved
loop-i-preserved c =
    let x = c.args.generator.now.state in
    let state = ap next_seed c.loop-i.invariant.0 in (
      c.draw.ensures.state ∙ state ∙ seed_after-more x c.loop-i.i,
      length-set c.loop-i.words c.loop-i.i c.draw.result ∙ c.loop-i.invariant.1,
      filled-more (draw x) c.loop-i.words c.loop-i.i c.draw.result 0 (omega (arith, c.loop-i.invariant.1, c.loop-i-test.true)) c.loop-i.invariant.2
          (c.draw.ensures.value ∙ ap (λ y. drawn y) state ∙ draw-next x c.loop-i.i),
    )

pub returns-clause-words : goal.returns-clause-words
returns-clause-words c =
    lanes-is 16 (λ i. draw c.args.generator.now.state i) c.loop-i.words 0 c.loop-i.invariant.1 (λ i h. c.loop-i.invariant.2 i (omega arith))
