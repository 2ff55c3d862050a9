-- Steps and runs of the whole machine. Steps are atomic, so that every interleaving of the QPUs and of the engines' elements is a list of
-- steps. They are this project's own.
use Rattle.std.specs.Prelude.{◌≡◌, ◌≢◌, ℕ, ◌+◌, List, [], ◌∷◌, ◌++◌, length, Bool, true, false, if◌then◌else◌, slice_get, slice_set, is_some, ⊤}
use Rattle.std.specs.declared.option.Option.{Option}
use Rattle.std.specs.declared.option.Option.TheVariants.{Some, None}
use Rattle.vpm_words.specs.declared.state.Shared.{Shared}
use Rattle.qpu_machine.specs.declared.state.Effect.{Effect}
use Rattle.qpu_machine.specs.declared.state.Effect.TheVariants as effect
use Rattle.qpu_machine.specs.declared.state.Stop.TheVariants as stop
use Rattle.qpu_machine.specs.declared.state.Step.{Step}
use Rattle.qpu_machine.specs.declared.state.Step.TheVariants.{Issue, Load, Store}
use Rattle.qpu_machine.specs.declared.state.Qpu.{Qpu}
use Rattle.qpu_machine.specs.declared.state.Counts.{Counts}
use Rattle.qpu_machine.specs.declared.state.Fault.{Fault}
use Rattle.qpu_machine.specs.Planned.{Fixed, site_of}
use Rattle.qpu_machine.specs.IssueStep.{local}
use Rattle.qpu_machine.specs.MoveStep.{Moved, load_move, store_move}
use Rattle.qpu_machine.specs.MachineState.{MachineState, stop_of}

-- a state, and what the step to it did
pub record Next : Type 0 where
  pub state : MachineState
  pub effect : Effect

-- the restriction that stops the run, after a step that answered this
abbrev pub fault_after : Effect → Option Fault → Option Fault
fault_after (effect.Broken rule k place) old = Some (record { rule = rule; qpu = k; place = place })
fault_after effect.Did old = old
fault_after effect.Moved old = old
fault_after effect.Stalled old = old
fault_after effect.Nothing old = old

-- what an issue leaves of all QPUs, of what they share and of the counts, and what it did
pub record Turn : Type 0 where
  pub qpus : List Qpu
  pub shared : Shared
  pub counts : Counts
  pub effect : Effect

-- an issue of QPU k, which is this one: it touches no other, and one that isn't there does nothing
abbrev pub turn_at : Fixed → List Qpu → Shared → Counts → ℕ → Option Qpu → Turn
turn_at g qpus s c k None = record { qpus = qpus; shared = s; counts = c; effect = effect.Nothing }
turn_at g qpus s c k (Some q) =
    record {
      qpus = slice_set qpus k (local g.code (site_of g k) q s c).qpu;
      shared = (local g.code (site_of g k) q s c).shared;
      counts = (local g.code (site_of g k) q s c).counts;
      effect = (local g.code (site_of g k) q s c).effect;
    }

unfoldable pub turn : Fixed → List Qpu → Shared → Counts → ℕ → Turn
turn g qpus s c k = turn_at g qpus s c k (slice_get qpus k)

-- the state after an issue
abbrev pub turned : MachineState → Turn → Next
turned s t =
    record { state = record s { qpus = t.qpus; shared = t.shared; counts = t.counts; broken = fault_after t.effect s.broken }; effect = t.effect }

-- the state after a move
abbrev pub shifted : MachineState → Moved → Next
shifted s m = record { state = record s { shared = m.shared; counts = m.counts; memory = m.memory }; effect = m.effect }

-- one step of a machine that goes on
unfoldable pub step_of : MachineState → Step → Next
step_of s (Issue k) = turned s (turn s.fixed s.qpus s.shared s.counts k)
step_of s (Load i) = shifted s (load_move s.shared s.counts s.memory i)
step_of s (Store i) = shifted s (store_move s.shared s.counts s.memory i)

-- one step of the system: nothing happens after a broken restriction. Where the run is finished nothing happens either, by the steps
-- themselves
unfoldable pub happens : MachineState → Step → Next
happens s step = if is_some s.broken then record { state = s; effect = effect.Nothing } else step_of s step

-- a run of a list of steps, in their order. Where it stops, the steps that are left change nothing
unfoldable pub machine_run : List Step → MachineState → MachineState
machine_run [] s = s
machine_run (step ∷ steps) s = machine_run steps (happens s step).state

-- ---- effective steps

-- the step did a word or moved an element
abbrev pub is_effective : Effect → Bool
is_effective effect.Did = true
is_effective effect.Moved = true
is_effective effect.Stalled = false
is_effective effect.Nothing = false
is_effective (effect.Broken rule k place) = false

-- how many steps of a run are effective
unfoldable pub effective_steps : List Step → MachineState → ℕ
effective_steps [] s = 0
effective_steps (step ∷ steps) s =
    (if is_effective (happens s step).effect then 1 else 0) + effective_steps steps (happens s step).state

-- ---- what steps and runs keep

-- the answers after which all is as before
abbrev pub IsIdle : Effect → Type 0
IsIdle effect.Nothing = ⊤
IsIdle effect.Stalled = ⊤
IsIdle effect.Did = ⊥
IsIdle effect.Moved = ⊥
IsIdle (effect.Broken rule k place) = ⊥

-- the QPU isn't there or has ended
abbrev pub IsGone : Option Qpu → Type 0
IsGone None = ⊤
IsGone (Some q) = q.flow.ended ≡ true

-- the step finds nothing to do: its QPU isn't there or has ended, or its engine has no element left
abbrev pub HasNothing : MachineState → Step → Type 0
HasNothing s (Issue k) = IsGone (slice_get s.qpus k)
HasNothing s (Load i) = s.shared.loads ≡ []
HasNothing s (Store i) = s.shared.stores ≡ []

-- a run of one list and then of another is the run of both
abbrev pub RunsCompose : Type 0
RunsCompose = (first second : List Step) (s : MachineState) → machine_run (first ++ second) s ≡ machine_run second (machine_run first s)

-- a machine that has stopped stays as it is
abbrev pub StoppedStays : Type 0
StoppedStays = (steps : List Step) (s : MachineState) → stop_of s ≢ stop.Going → machine_run steps s ≡ s

-- what no run changes: the code, the uniforms, the regions, how many QPUs there are, and how long the memory is
abbrev pub RunsKeep : Type 0
RunsKeep =
    (steps : List Step) (s : MachineState)
    → ((machine_run steps s).fixed ≡ s.fixed) × (length (machine_run steps s).qpus ≡ length s.qpus) × (length (machine_run steps s).memory ≡ length s.memory)
