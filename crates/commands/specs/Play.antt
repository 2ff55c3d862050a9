-- The run of a machine by a launch's schedule, with the writes and the report after it.
use Rattle.std.specs.Prelude.{ℕ, List, length}
use Rattle.launch_file.specs.declared.launch.Schedule.{Schedule}
use Rattle.launch_file.specs.declared.launch.Schedule.TheVariants.{Rounds, Seed, File}
use Rattle.launch_file.specs.Launches.{LaunchOf}
use Rattle.qpu_machine.specs.declared.state.Step.{Step}
use Rattle.qpu_machine.specs.MachineState.{MachineState}
use Rattle.qpu_machine.specs.MachineRun.{machine_run}
use Rattle.qpu_machine.specs.Schedules.{rounds_of, seeded_of, listed_of}
use Rattle.qpu_machine.specs.MachineState.{stop_of}
use Rattle.qpu_machine.specs.declared.state.Stop.{Stop}
use Rattle.qpu_machine.specs.declared.state.Stop.TheVariants as stop
use Rattle.commands.specs.Plan.{Plan, Answer, answers, done, broken, unfinished}
use Rattle.commands.specs.Report.{report}
use Rattle.promise.specs.Faithful.{buffers_of}
use Rattle.commands.specs.Buffers.{write_buffers}

abbrev pub answer_of : Stop → Answer
answer_of stop.Finished = done
answer_of stop.Going = unfinished
answer_of (stop.Broken rule k place) = broken

-- the report of a machine that has stopped or done its schedule
unfoldable pub report_plan : MachineState → Plan
report_plan s = answers (answer_of (stop_of s)) (report s)

-- the steps of a schedule for so many QPUs; a schedule by file has those of the file's bytes
abbrev pub steps_of : Schedule → List ℕ → ℕ → List Step
steps_of (Rounds rounds) file qpus = rounds_of rounds qpus
steps_of (Seed seed steps) file qpus = seeded_of seed steps qpus
steps_of (File name times) file qpus = listed_of file times

-- the machine after the whole schedule
unfoldable pub ran : MachineState → Schedule → List ℕ → MachineState
ran s schedule file = machine_run (steps_of schedule file (length s.qpus)) s

-- what a machine that has run has still to do: the writes of the buffers with an output name, and the report
abbrev pub stored_plan : MachineState → LaunchOf → Plan
stored_plan s launch = write_buffers launch.buffers (buffers_of s) (report_plan s)

-- from the machine's first step on
unfoldable pub play_plan : MachineState → LaunchOf → List ℕ → Plan
play_plan s launch file = stored_plan (ran s launch.schedule file) launch
