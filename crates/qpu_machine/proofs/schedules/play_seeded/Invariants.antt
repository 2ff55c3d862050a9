use Rattle.std.proofs.Common.{◌≡◌, ◌-◌}
use Rattle.qpu_machine.specs.MachineRun.{machine_run}
use Rattle.qpu_machine.specs.Schedules.{seeded_of}
use Rattle.qpu_machine.proofs.schedules.play_seeded.Given as goal

abbrev pub invariant-loop-step : goal.invariant-loop-step
invariant-loop-step l =
    machine_run (seeded_of l.generator.state (l.steps - l._step) l.qpus) l.machine ≡ machine_run (seeded_of l.seed l.steps l.qpus) l.initial.machine
