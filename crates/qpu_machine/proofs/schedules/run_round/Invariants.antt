use Rattle.std.proofs.Common.{◌≡◌, map}
use Rattle.std.specs.List.{range_with_len}
use Rattle.qpu_machine.specs.declared.state.Step.TheVariants.{Issue}
use Rattle.qpu_machine.specs.MachineRun.{machine_run}
use Rattle.qpu_machine.proofs.schedules.run_round.Given as goal

abbrev pub invariant-loop-k : goal.invariant-loop-k
invariant-loop-k l = machine_run (map Issue (range_with_len 0 l.k)) l.initial.machine ≡ l.machine
