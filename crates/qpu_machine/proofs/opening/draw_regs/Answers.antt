use Rattle.std.proofs.Common.{◌≡◌, ◌∙◌, ap, refl}
use Rattle.qpu_machine.specs.Schedules.{seed_after, draw}
use Rattle.qpu_machine.specs.Opening.{drawn_lanes, drawn_file, drawn_regs, flags_in}
use Rattle.qpu_machine.proofs.Seeds.{seed_after-add, draw-after, drawn_lanes-after, drawn_file-after}
use Rattle.qpu_machine.proofs.opening.draw_regs.Goals as goal

pub returns-clause-regs : goal.returns-clause-regs
unfolding drawn_regs
returns-clause-regs c =
    let x = c.args.generator.now.state in
    let a : c.draw_file-a.new.generator.state ≡ seed_after x 512 = c.draw_file-a.ensures.state in
    let b : c.draw_file-b.new.generator.state ≡ seed_after x 1024 =
    c.draw_file-b.ensures.state ∙ ap (λ s. seed_after s 512) a ∙ seed_after-add x 512 512 1024 refl
    in
    let acc : c.draw_file-acc.new.generator.state ≡ seed_after x 1088 =
    c.draw_file-acc.ensures.state ∙ ap (λ s. seed_after s 64) b ∙ seed_after-add x 1024 64 1088 refl
    in
    let five : c.draw_lanes-five.new.generator.state ≡ seed_after x 1104 =
    c.draw_lanes-five.ensures.state ∙ ap (λ s. seed_after s 16) acc ∙ seed_after-add x 1088 16 1104 refl
    in
    let zero : c.draw_flags-zero.new.generator.state ≡ seed_after x 1105 =
    c.draw_flags-zero.ensures.state ∙ ap (λ s. seed_after s 1) five ∙ seed_after-add x 1104 1 1105 refl
    in
    rw (
      c.draw_file-a.ensures.file,
      c.draw_file-b.ensures.file ∙ ap (λ s. drawn_file s 0 32) a ∙ drawn_file-after x 512 0 512 32 refl,
      c.draw_file-acc.ensures.file ∙ ap (λ s. drawn_file s 0 4) b ∙ drawn_file-after x 1024 0 1024 4 refl,
      c.draw_lanes-five.ensures.lanes ∙ ap (λ s. drawn_lanes s 0) acc ∙ drawn_lanes-after x 1088 0 1088 refl,
      c.draw_flags-zero.ensures.flags ∙ ap (λ s. flags_in (draw s 0)) five ∙ ap flags_in (draw-after x 1104 0 1104 refl),
      c.draw_flags-neg.ensures.flags ∙ ap (λ s. flags_in (draw s 0)) zero ∙ ap flags_in (draw-after x 1105 0 1105 refl),
    ) refl

pub returns-clause-state : goal.returns-clause-state
returns-clause-state c =
    let x = c.args.generator.now.state in
    c.draw_flags-neg.ensures.state
    ∙ ap (λ s. seed_after s 1) (
    c.draw_flags-zero.ensures.state
    ∙ ap (λ s. seed_after s 1) (
    c.draw_lanes-five.ensures.state
    ∙ ap (λ s. seed_after s 16) (
    c.draw_file-acc.ensures.state
    ∙ ap (λ s. seed_after s 64) (c.draw_file-b.ensures.state ∙ ap (λ s. seed_after s 512) c.draw_file-a.ensures.state ∙ seed_after-add x 512 512 1024 refl)
    ∙ seed_after-add x 1024 64 1088 refl
    )
    ∙ seed_after-add x 1088 16 1104 refl
    )
    ∙ seed_after-add x 1104 1 1105 refl
    )
    ∙ seed_after-add x 1105 1 1106 refl
