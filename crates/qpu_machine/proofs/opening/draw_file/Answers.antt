use Rattle.std.proofs.Common.{◌≡◌, ◌+◌, ◌*◌, arith, sym, ◌∙◌, ap}
use Rattle.std.proofs.lemmas.List.{length-set, length-replicate}
use Rattle.std.proofs.lemmas.List.FromFn.{fill_by_all}
use Rattle.qpu_machine.specs.Schedules.{seed_after}
use Rattle.qpu_machine.specs.Opening.{zeros, drawn_lanes}
use Rattle.qpu_machine.proofs.Seeds.{seed_after-none, seed_after-add, drawn_lanes-after, filled-more}
use Rattle.qpu_machine.proofs.opening.draw_file.Goals as goal

pub loop-r-init : goal.loop-r-init
loop-r-init g c = (sym (seed_after-none c.args.generator.now.state), length-replicate g.row.N zeros, λ k h. absurd (omega (arith, h)))

pub loop-r-preserved : goal.loop-r-preserved
loop-r-preserved g c =
    let x = c.args.generator.now.state in
    let r = c.loop-r.r in
    let done = c.loop-r.invariant in (
      c.draw_lanes.ensures.state ∙ ap (λ y. seed_after y 16) done.0 ∙ seed_after-add x (16 * r) 16 (16 * (r + 1)) (omega arith),
      length-set c.loop-r.file r c.draw_lanes.result ∙ done.1,
      filled-more (λ k. drawn_lanes x (0 + 16 * k)) c.loop-r.file r c.draw_lanes.result zeros (omega (arith, done.1, c.loop-r-test.true)) done.2
          (c.draw_lanes.ensures.lanes ∙ ap (λ y. drawn_lanes y 0) done.0 ∙ drawn_lanes-after x (16 * r) 0 (0 + 16 * r) (omega arith)),
    )

pub returns-clause-file : goal.returns-clause-file
returns-clause-file g c =
    let x = c.args.generator.now.state in
    fill_by_all (λ r. drawn_lanes x (0 + 16 * r)) c.loop-r.file g.row.N zeros c.loop-r.invariant.1
    (λ i h. c.loop-r.invariant.2 i (omega (arith, h, c.loop-r-test.false)))

pub returns-clause-state : goal.returns-clause-state
returns-clause-state g c =
    let all : c.loop-r.r ≡ g.row.N = omega (arith, c.loop-r-test.false, c.loop-r.auto.r-end) in
    c.loop-r.invariant.0 ∙ ap (λ n. seed_after c.args.generator.now.state (16 * n)) all
