-- As many rounds as the bound of the steps finish a run of a faithful module.
use Rattle.std.proofs.Common.{◌≡◌, sym, subst}
use Rattle.launch_file.specs.Launches.{items_of}
use Rattle.qpu_machine.specs.declared.state.Stop.TheVariants as stop
use Rattle.qpu_machine.specs.MachineState.{stop_of}
use Rattle.qpu_machine.specs.MachineRun.{machine_run}
use Rattle.qpu_machine.specs.Schedules.{rounds_of}
use Rattle.solo_law.proofs.Rounds.{rounds_finish}
use Rattle.launch_meaning.specs.LaunchMeaning.{turns_of, IsSafe}
use Rattle.promise.specs.Kernel.{Kernel}
use Rattle.promise.specs.Language.{Language}
use Rattle.promise.specs.Openings.{opening_of}
use Rattle.promise.specs.Faithful.{most_steps, KeepsAll}
use Rattle.promise.specs.Laws.{KernelsAreOne, SafeRunsFinish}
use Rattle.promise.proofs.OpeningBytes.{opened_qpus}

pub safe_runs_finish : (l : Language) → KernelsAreOne l → SafeRunsFinish l
safe_runs_finish l kernels source name code k faithful is s good turns ended safe rounds enough =
    let same : faithful.kernel ≡ k = kernels.one source name faithful.kernel k faithful.is_kernel is in
    let keeps : KeepsAll k code s ended =
    subst (λ (j : Kernel). KeepsAll j code s ended) same
    (faithful.keeps s good tt turns ended
    (subst (λ (j : Kernel). IsSafe (j.item s.launch) (items_of s.launch.global) s.buffers turns ended) (sym same) safe)) in
    let finished : stop_of (machine_run (rounds_of rounds s.launch.qpus) (opening_of code s)) ≡ stop.Finished =
    subst (λ n. stop_of (machine_run (rounds_of rounds n) (opening_of code s)) ≡ stop.Finished) (opened_qpus code s good)
    (rounds_finish (opening_of code s) (most_steps k s.launch (turns_of ended)) keeps.not_broken keeps.never_stuck keeps.bounded rounds enough) in
    (finished, keeps.exact (rounds_of rounds s.launch.qpus) finished)
