-- That launches of the kernels of sources can be safe.
use Rattle.std.specs.Prelude.{◌≡◌, ℕ, ◌≤◌, List}
use Rattle.launch_file.specs.Launches.{LaunchOf, items_of}
use Rattle.launch_meaning.specs.declared.ends.Ended.{Ended}
use Rattle.launch_meaning.specs.LaunchMeaning.{left_by, turns_of, IsSafe}
use Rattle.promise.specs.Kernel.{Kernel}
use Rattle.compile_pipe.specs.Kernels.{IsKernel}

-- each launch of a kernel that does nothing is safe within one turn for each item, uses one turn for each item, and leaves the buffers
abbrev pub KernelLaunchesAreSafe : Type 0
KernelLaunchesAreSafe =
    (source name : List ℕ) (k : Kernel) → IsKernel source name k → (launch : LaunchOf) (buffers : List (List ℕ)) (turns : ℕ) → 1 ≤ turns
    → (ended : List Ended) × IsSafe (k.item launch) (items_of launch.global) buffers turns ended
    × (turns_of ended ≡ items_of launch.global) × (left_by buffers ended ≡ buffers)
