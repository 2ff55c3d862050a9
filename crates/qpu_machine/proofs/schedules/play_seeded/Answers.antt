use Rattle.std.proofs.Common.{◌∙◌, sym, ap, arith, ◌≡◌, ◌-◌, ◌+◌, ◌∷◌, [], suc, ℕ}
use Rattle.qpu_machine.specs.MachineRun.{machine_run}
use Rattle.qpu_machine.specs.Schedules.{seeded_of, next_seed, step_at}
use Rattle.qpu_machine.proofs.Runs.{stopped_stays}
use Rattle.qpu_machine.proofs.ScheduleRuns.{seeded_next, no_seeded}
use Rattle.qpu_machine.proofs.schedules.play_seeded.Goals as goal

pub returns-then-stops_at : goal.returns-then-stops_at
returns-then-stops_at c =
    let qpus = c.count-qpus.result in
    let seed = c.loop-step.generator.state in
    let left = c.args.steps - c.loop-step._step in
    let rest = c.args.steps - (c.loop-step._step + 1) in
    let e : left ≡ suc rest = omega arith in
    sym (stopped_stays (seeded_of (next_seed seed) rest qpus) c.stops_at.new.machine (c.stops_at.ensures.stopped c.if-stops_at.true))
    ∙ ap (machine_run (seeded_of (next_seed seed) rest qpus)) (
    c.stops_at.ensures.state ∙ ap (λ step. machine_run (step ∷ []) c.loop-step.machine) (c.step_of_number-step.ensures ∙ ap (step_at qpus) c.draw.ensures.value)
    )
    ∙ sym (seeded_next seed left rest qpus c.loop-step.machine e)
    ∙ c.loop-step.invariant
    ∙ ap (λ n. machine_run (seeded_of c.args.seed c.args.steps n) c.args.machine.now) c.count-qpus.ensures

pub loop-step-preserved : goal.loop-step-preserved
loop-step-preserved c =
    let qpus = c.count-qpus.result in
    let seed = c.loop-step.generator.state in
    let left = c.args.steps - c.loop-step._step in
    let rest = c.args.steps - (c.loop-step._step + 1) in
    let e : left ≡ suc rest = omega arith in
    ap (λ s. machine_run (seeded_of s rest qpus) c.stops_at.new.machine) c.draw.ensures.state
    ∙ ap (machine_run (seeded_of (next_seed seed) rest qpus)) (
    c.stops_at.ensures.state ∙ ap (λ step. machine_run (step ∷ []) c.loop-step.machine) (c.step_of_number-step.ensures ∙ ap (step_at qpus) c.draw.ensures.value)
    )
    ∙ sym (seeded_next seed left rest qpus c.loop-step.machine e)
    ∙ c.loop-step.invariant

pub returns : goal.returns
returns c =
    let none : c.args.steps - c.loop-step._step ≡ 0 = omega arith in
    sym (no_seeded c.loop-step.generator.state c.count-qpus.result c.loop-step.machine)
    ∙ ap (λ (n : ℕ). machine_run (seeded_of c.loop-step.generator.state n c.count-qpus.result) c.loop-step.machine) (sym none)
    ∙ c.loop-step.invariant
    ∙ ap (λ n. machine_run (seeded_of c.args.seed c.args.steps n) c.args.machine.now) c.count-qpus.ensures
