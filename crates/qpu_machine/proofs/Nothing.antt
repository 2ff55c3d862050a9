-- Steps that do nothing.
use Rattle.std.specs.Prelude.{◌≡◌, ◌≢◌, ◌⊎◌, ◌&&◌, ◌%◌, ℕ, List, [], ◌∷◌, Bool, true, false, length, slice_get, is_some, if◌then◌else◌, refl, get_or}
use Rattle.std.specs.declared.option.Option.{Option}
use Rattle.std.specs.declared.option.Option.TheVariants.{Some, None}
use Rattle.std.proofs.Common.{ap, inl, inr}
use Rattle.qpu_encode.specs.declared.form.Form.{Form}
use Rattle.vpm_words.specs.Access.{Site, is_busy}
use Rattle.vpm_words.specs.declared.state.Element.{Element}
use Rattle.vpm_words.specs.declared.state.Rule.{Rule}
use Rattle.vpm_words.specs.declared.state.Shared.{Shared}
use Rattle.qpu_machine.specs.declared.state.Effect.TheVariants as effect
use Rattle.qpu_machine.specs.declared.state.Stop.TheVariants as stop
use Rattle.qpu_machine.specs.declared.state.Step.{Step}
use Rattle.qpu_machine.specs.declared.state.Step.TheVariants.{Issue, Load, Store}
use Rattle.qpu_machine.specs.declared.state.Qpu.{Qpu}
use Rattle.qpu_machine.specs.declared.state.Counts.{Counts}
use Rattle.qpu_machine.specs.declared.state.Fault.{Fault}
use Rattle.qpu_machine.specs.Planned.{site_of}
use Rattle.qpu_machine.specs.IssueStep.{Local, local, judged, idle, done, tried, attempted, fetched}
use Rattle.qpu_machine.specs.MoveStep.{unmoved, loaded, load_move, stored, store_move}
use Rattle.qpu_machine.specs.MachineState.{MachineState, stop_of, stop_at, all_ended, are_idle}
use Rattle.qpu_machine.specs.MachineRun.{IsGone, HasNothing, turn, turn_at, step_of, happens}
use Rattle.qpu_machine.proofs.Steps.{local_ended, load_none, store_none, chosen, happens_stopped}

-- ---- an issue

-- a word of a QPU that has not ended is done, waits or breaks a restriction
judged_does : (rule : Option Rule) (waits : Bool) (k : ℕ) (q : Qpu) (s : Shared) (c : Counts) (after : Local) → after.effect ≡ effect.Did → (judged rule waits k q s c after).effect ≢ effect.Nothing
judged_does (Some rule) waits k q s c after e h = cc
judged_does None true k q s c after e h = cc
judged_does None false k q s c after e h = cc

attempted_does : (g : Site) (o : Option Form) (q : Qpu) (s : Shared) (c : Counts) → (attempted g o q s c).effect ≢ effect.Nothing
unfolding attempted tried done
attempted_does g None q s c h = cc
attempted_does g (Some f) q s c h = judged_does _ _ g.number q s c _ refl h

pub local_nothing : (code : List ℕ) (g : Site) (q : Qpu) (s : Shared) (c : Counts) → (local code g q s c).effect ≡ effect.Nothing → q.flow.ended ≡ true
unfolding local
local_nothing code g q s c =
    let other : Local = attempted g (fetched code q.flow.place) q s c in
    elim q.flow.ended as (λ b. (if b then idle q s c effect.Nothing else other).effect ≡ effect.Nothing → b ≡ true) [
      | true ↦ λ e. refl
      | false ↦ λ e. absurd (attempted_does g (fetched code q.flow.place) q s c e)
    ]

turn_nothing : (s : MachineState) (k : ℕ) (o : Option Qpu) → (turn_at s.fixed s.qpus s.shared s.counts k o).effect ≡ effect.Nothing → IsGone o
turn_nothing s k None e = tt
turn_nothing s k (Some q) e = local_nothing s.fixed.code (site_of s.fixed k) q s.shared s.counts e

turn_gone : (s : MachineState) (k : ℕ) (o : Option Qpu) → IsGone o → (turn_at s.fixed s.qpus s.shared s.counts k o).effect ≡ effect.Nothing
turn_gone s k None h = refl
turn_gone s k (Some q) h = local_ended s.fixed.code (site_of s.fixed k) q s.shared s.counts h

-- ---- a move

load_nothing : (s : Shared) (c : Counts) (memory : List ℕ) (i : ℕ) → (load_move s c memory i).effect ≡ effect.Nothing → s.loads ≡ []
unfolding load_move
load_nothing s c memory i e = go s.loads e
  where
    does : (j : ℕ) (o : Option Element) (x : Element) → o ≡ Some x → (loaded s c memory j o).effect ≢ effect.Nothing
    does j None x h n = cc
    does j (Some y) x h n = cc

    go : (es : List Element) → (if is_busy es then loaded s c memory (i % length es) (slice_get es (i % length es)) else unmoved s c memory).effect ≡ effect.Nothing → es ≡ []
    go [] n = refl
    go (x ∷ es) n = absurd (does (i % length (x ∷ es)) (slice_get (x ∷ es) (i % length (x ∷ es))) (get_or (x ∷ es) (i % length (x ∷ es)) x) (chosen x es i) n)

store_nothing : (s : Shared) (c : Counts) (memory : List ℕ) (i : ℕ) → (store_move s c memory i).effect ≡ effect.Nothing → s.stores ≡ []
unfolding store_move
store_nothing s c memory i e = go s.stores e
  where
    does : (j : ℕ) (o : Option Element) (x : Element) → o ≡ Some x → (stored s c memory j o).effect ≢ effect.Nothing
    does j None x h n = cc
    does j (Some y) x h n = cc

    go : (es : List Element) → (if is_busy es then stored s c memory (i % length es) (slice_get es (i % length es)) else unmoved s c memory).effect ≡ effect.Nothing → es ≡ []
    go [] n = refl
    go (x ∷ es) n = absurd (does (i % length (x ∷ es)) (slice_get (x ∷ es) (i % length (x ∷ es))) (get_or (x ∷ es) (i % length (x ∷ es)) x) (chosen x es i) n)

-- ---- a step

step_nothing : (s : MachineState) (step : Step) → (step_of s step).effect ≡ effect.Nothing → HasNothing s step
unfolding step_of turn
step_nothing s (Issue k) e = turn_nothing s k (slice_get s.qpus k) e
step_nothing s (Load i) e = load_nothing s.shared s.counts s.memory i e
step_nothing s (Store i) e = store_nothing s.shared s.counts s.memory i e

nothing_at : (s : MachineState) (step : Step) (broken : Option Fault) (over : Bool)
    → (if is_some broken then record { state = s; effect = effect.Nothing } else step_of s step).effect ≡ effect.Nothing
    → (stop_at broken over ≢ stop.Going) ⊎ HasNothing s step
nothing_at s step (Some fault) over e = inl (λ h. cc)
nothing_at s step None over e = inr (step_nothing s step e)

step_gone : (s : MachineState) (step : Step) → HasNothing s step → (step_of s step).effect ≡ effect.Nothing
unfolding step_of turn
step_gone s (Issue k) h = turn_gone s k (slice_get s.qpus k) h
step_gone s (Load i) h = load_none s.shared s.counts s.memory i (ap is_busy h)
step_gone s (Store i) h = store_none s.shared s.counts s.memory i (ap is_busy h)

happens_gone : (s : MachineState) (step : Step) → HasNothing s step → (happens s step).effect ≡ effect.Nothing
unfolding happens
happens_gone s step h =
    elim (is_some s.broken) as (λ b. (if b then record { state = s; effect = effect.Nothing } else step_of s step).effect ≡ effect.Nothing) [
      | true ↦ refl
      | false ↦ step_gone s step h
    ]

-- a step does nothing only where the machine has stopped or the step finds nothing to do
pub nothing_only : (s : MachineState) (step : Step) → (happens s step).effect ≡ effect.Nothing → (stop_of s ≢ stop.Going) ⊎ HasNothing s step
unfolding happens stop_of
nothing_only s step e = nothing_at s step s.broken (are_idle s.shared && all_ended s.qpus) e

-- and there it does nothing
pub nothing_where : (s : MachineState) (step : Step) → (stop_of s ≢ stop.Going) ⊎ HasNothing s step → (happens s step).effect ≡ effect.Nothing
nothing_where s step (inl h) = happens_stopped s step h
nothing_where s step (inr h) = happens_gone s step h
