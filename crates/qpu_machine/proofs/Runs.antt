-- Whole runs.
use Rattle.std.specs.Prelude.{◌≡◌, ◌≢◌, [], ◌∷◌, refl}
use Rattle.std.proofs.Common.{ap, sym, ◌∙◌, subst}
use Rattle.qpu_machine.specs.declared.state.Stop.TheVariants as stop
use Rattle.qpu_machine.specs.declared.state.Step.{Step}
use Rattle.qpu_machine.specs.MachineState.{MachineState, stop_of}
use Rattle.qpu_machine.specs.MachineRun.{IsIdle, happens, machine_run, RunsCompose, StoppedStays, RunsKeep}
use Rattle.qpu_machine.proofs.Steps.{happens_idle, happens_stopped, happens_count, happens_fixed, happens_size}

-- one list of steps after another
pub runs_compose : RunsCompose
unfolding machine_run
runs_compose [] second s = refl
runs_compose (step ∷ steps) second s = runs_compose steps second (happens s step).state

-- a stopped machine stays as it is
pub happens_stays : (s : MachineState) (step : Step) → stop_of s ≢ stop.Going → (happens s step).state ≡ s
happens_stays s step h = happens_idle s step (subst IsIdle (sym (happens_stopped s step h)) tt)

pub stopped_stays : StoppedStays
unfolding machine_run
stopped_stays [] s h = refl
stopped_stays (step ∷ steps) s h = ap (machine_run steps) (happens_stays s step h) ∙ stopped_stays steps s h

pub runs_keep : RunsKeep
unfolding machine_run
runs_keep [] s = (refl, refl, refl)
runs_keep (step ∷ steps) s =
    let rest = runs_keep steps (happens s step).state in
    (rest.0 ∙ happens_fixed s step, rest.1 ∙ happens_count s step, rest.2 ∙ happens_size s step)
