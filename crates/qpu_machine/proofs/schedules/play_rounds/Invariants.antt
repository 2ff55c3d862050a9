use Rattle.std.proofs.Common.{◌≡◌, ◌-◌}
use Rattle.qpu_machine.specs.MachineRun.{machine_run}
use Rattle.qpu_machine.specs.Schedules.{rounds_of}
use Rattle.qpu_machine.proofs.schedules.play_rounds.Given as goal

abbrev pub invariant-loop-round : goal.invariant-loop-round
invariant-loop-round l = machine_run (rounds_of (l.rounds - l._round) l.qpus) l.machine ≡ machine_run (rounds_of l.rounds l.qpus) l.initial.machine
