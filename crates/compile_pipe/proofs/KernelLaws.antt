-- A source has one kernel of a name, and it does nothing.
use Rattle.std.proofs.Common.{sym, ◌∙◌, subst}
use Rattle.launch_file.specs.Launches.{items_of}
use Rattle.launch_meaning.specs.LaunchMeaning.{IsSafe}
use Rattle.promise.specs.Kernel.{Kernel, idle_kernel}
use Rattle.promise.specs.Laws.{KernelsAreOne}
use Rattle.promise.specs.WrongModules.{OnlyIdle}
use Rattle.promise.proofs.IdleLaunches.{idle_launches as idle_kernel_launches}
use Rattle.compile_pipe.specs.Kernels.{opencl}
use Rattle.compile_pipe.specs.Laws.{KernelLaunchesAreSafe}
use Rattle.compile_pipe.proofs.IdleItems.{is_idle, idle_is_kernel}

pub kernels_are_one : KernelsAreOne opencl
kernels_are_one =
    record {
      one = λ source name k other is also. is_idle source name k is ∙ sym (is_idle source name other also);
      some = λ source name lawful. (idle_kernel, idle_is_kernel source name lawful);
      lawful = λ source name k is. is.lawful;
    }

pub only_idle : OnlyIdle opencl
only_idle source name k is = is_idle source name k is

pub idle_launches : KernelLaunchesAreSafe
idle_launches source name k is launch buffers turns enough =
    let safe = idle_kernel_launches launch buffers turns enough in
    (safe.0, subst (λ (j : Kernel). IsSafe (j.item launch) (items_of launch.global) buffers turns safe.0) (sym (is_idle source name k is)) safe.1, safe.2, safe.3)
