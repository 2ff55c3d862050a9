-- The opening of a module and a launch in a run of the program.
use Rattle.std.specs.Prelude.{ℕ, ◌*◌, List, replicate}
use Rattle.launch_file.specs.Launches.{LaunchOf}
use Rattle.vc4q_module.specs.ModuleBytes.{ModuleOf}
use Rattle.promise.specs.Openings.{Setting, opening_of}
use Rattle.qpu_machine.specs.Opening.{contents_of}
use Rattle.qpu_machine.specs.MachineState.{MachineState}
use Rattle.qpu_machine.specs.declared.plan.Fill.TheVariants.{Zero}

-- a scratch of so many rows of 64 bytes, all zero
unfoldable pub empty_scratch : ℕ → List ℕ
empty_scratch rows = replicate (64 * rows) 0

-- a launch whose buffers have these bytes; the scratches, the registers and the VPM are zero
abbrev pub zero_setting : ModuleOf → LaunchOf → List (List ℕ) → Setting
zero_setting code launch buffers = record {
  launch = launch;
  buffers = buffers;
  scratch = replicate launch.qpus (empty_scratch code.rows);
  contents = contents_of Zero launch.qpus;
}

-- the machine before its first step
unfoldable pub opening_for : ModuleOf → LaunchOf → List (List ℕ) → MachineState
opening_for code launch buffers = opening_of code (zero_setting code launch buffers)
