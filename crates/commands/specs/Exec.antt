-- The command `exec`: its places.
use Rattle.std.specs.Prelude.{ℕ, List, [], ◌∷◌}
use Rattle.launch_file.specs.declared.launch.Schedule.{Schedule}
use Rattle.launch_file.specs.declared.launch.Schedule.TheVariants.{Rounds, Seed, File}
use Rattle.launch_file.specs.Launches.{LaunchOf}
use Rattle.vc4q_module.specs.ModuleBytes.{ModuleOf}
use Rattle.commands.specs.Plan.{Plan, reads, commits}
use Rattle.commands.specs.Loading.{module_plan}
use Rattle.commands.specs.Launching.{launch_plan}
use Rattle.commands.specs.Buffers.{read_buffers}
use Rattle.commands.specs.Openings.{opening_for}
use Rattle.commands.specs.Play.{play_plan}

abbrev pub schedule_limit : ℕ
schedule_limit = 16777216

-- the bytes of the schedule's file, of none where the schedule has no file
abbrev pub read_schedule : Schedule → (List ℕ → Plan) → Plan
read_schedule (Rounds rounds) next = next []
read_schedule (Seed seed steps) next = next []
read_schedule (File name times) next = reads name schedule_limit next

-- all memory is taken, and then the machine runs
abbrev pub ready_plan : ModuleOf → LaunchOf → List ℕ → List (List ℕ) → Plan
ready_plan code launch file buffers = commits (play_plan (opening_for code launch buffers) launch file)

-- from the buffers of a launch on
unfoldable pub buffers_plan : ModuleOf → LaunchOf → List ℕ → Plan
buffers_plan code launch file = read_buffers launch.buffers [] (ready_plan code launch file)

-- from the schedule's file of a launch that fits on
unfoldable pub schedule_plan : ModuleOf → LaunchOf → Plan
schedule_plan code launch = read_schedule launch.schedule (buffers_plan code launch)

-- from the read of the launch on; `taken` are the files that the command names
abbrev pub exec_launch_plan : List (List ℕ) → ModuleOf → List ℕ → Plan
exec_launch_plan taken code launch_name = launch_plan taken code.kinds launch_name (schedule_plan code)

unfoldable pub exec_plan : List ℕ → List ℕ → Plan
exec_plan module_name launch_name = module_plan module_name (λ code. exec_launch_plan (module_name ∷ launch_name ∷ []) code launch_name)
