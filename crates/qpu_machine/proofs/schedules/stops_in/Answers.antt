use Rattle.std.proofs.Common.{◌∙◌, sym, ap, refl, ◌+◌, ◌∷◌, [], map, drop}
use Rattle.qpu_machine.specs.MachineRun.{machine_run}
use Rattle.qpu_machine.specs.Schedules.{byte_step}
use Rattle.qpu_machine.proofs.Runs.{stopped_stays}
use Rattle.qpu_machine.proofs.ScheduleRuns.{bytes_next, no_bytes}
use Rattle.qpu_machine.proofs.schedules.stops_in.Goals as goal

pub loop-byte-init : goal.loop-byte-init
loop-byte-init c = refl

pub returns-then-stops_at-clause-state : goal.returns-then-stops_at-clause-state
returns-then-stops_at-clause-state c =
    let rest = map byte_step (drop (c.loop-byte.byte-index + 1) c.args.bytes.now) in
    sym (stopped_stays rest c.stops_at.new.machine (c.stops_at.ensures.stopped c.if-stops_at.true))
    ∙ ap (machine_run rest) (c.stops_at.ensures.state ∙ ap (λ step. machine_run (step ∷ []) c.loop-byte.machine) c.step_of_byte.ensures)
    ∙ sym (bytes_next c.args.bytes.now c.loop-byte.byte-index c.loop-byte.machine c.loop-byte-test.true)
    ∙ c.loop-byte.invariant

pub loop-byte-preserved : goal.loop-byte-preserved
loop-byte-preserved c =
    let rest = map byte_step (drop (c.loop-byte.byte-index + 1) c.args.bytes.now) in
    ap (machine_run rest) (c.stops_at.ensures.state ∙ ap (λ step. machine_run (step ∷ []) c.loop-byte.machine) c.step_of_byte.ensures)
    ∙ sym (bytes_next c.args.bytes.now c.loop-byte.byte-index c.loop-byte.machine c.loop-byte-test.true)
    ∙ c.loop-byte.invariant

pub returns-clause-state : goal.returns-clause-state
returns-clause-state c =
    sym (no_bytes c.args.bytes.now c.loop-byte.byte-index c.loop-byte.machine c.loop-byte-test.false) ∙ c.loop-byte.invariant
