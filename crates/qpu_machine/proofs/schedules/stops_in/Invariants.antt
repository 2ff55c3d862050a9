use Rattle.std.proofs.Common.{◌≡◌, map, drop}
use Rattle.qpu_machine.specs.MachineRun.{machine_run}
use Rattle.qpu_machine.specs.Schedules.{byte_step}
use Rattle.qpu_machine.proofs.schedules.stops_in.Given as goal

abbrev pub invariant-loop-byte : goal.invariant-loop-byte
invariant-loop-byte l = machine_run (map byte_step (drop l.byte-index l.bytes)) l.machine ≡ machine_run (map byte_step l.bytes) l.initial.machine
