use Rattle.std.proofs.Common.{◌≡◌, ◌-◌}
use Rattle.qpu_machine.specs.MachineRun.{machine_run}
use Rattle.qpu_machine.specs.Schedules.{listed_of}
use Rattle.qpu_machine.proofs.schedules.play_listed.Given as goal

abbrev pub invariant-loop-time : goal.invariant-loop-time
invariant-loop-time l = machine_run (listed_of l.bytes (l.times - l._time)) l.machine ≡ machine_run (listed_of l.bytes l.times) l.initial.machine
