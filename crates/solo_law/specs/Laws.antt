-- The laws that carry runs of one QPU alone to every interleaving of one to twelve QPUs and of the two engines. They are this project's own.
use Rattle.std.specs.Prelude.{◌≡◌, ◌≢◌, ℕ, zero, suc, ◌+◌, ◌%◌, ◌<◌, ◌≤◌, List, [], ◌++◌, length, true, false, if◌then◌else◌, slice_get, get_or}
use Rattle.std.specs.declared.option.Option.TheVariants.{Some}
use Rattle.vpm_words.specs.Access.{Given, is_busy}
use Rattle.vpm_words.specs.declared.state.Element.{Element}
use Rattle.vpm_words.specs.Moves.{number_at}
use Rattle.vpm_words.specs.declared.state.Rule.{Rule}
use Rattle.qpu_machine.specs.declared.state.Step.{Step}
use Rattle.qpu_machine.specs.declared.state.Step.TheVariants.{Issue}
use Rattle.qpu_machine.specs.declared.state.Stop.TheVariants as stop
use Rattle.qpu_machine.specs.Planned.{Planned, IsPlan}
use Rattle.qpu_machine.specs.Opening.{Contents, opening}
use Rattle.qpu_machine.specs.MachineState.{MachineState, stop_of}
use Rattle.qpu_machine.specs.MachineRun.{happens, machine_run, is_effective, effective_steps}
use Rattle.qpu_machine.specs.Schedules.{rounds_of}
use Rattle.qpu_machine.specs.Reachable.{AreWords, AreBytes, AreContents}
use Rattle.qpu_machine.specs.SoloRun.{Rests, Solo, Note, Made, AnyCovers, run_notes}
use Rattle.solo_law.specs.Sharing.{Shares, changed_by, without_numbers, IsOrder}
use Rattle.solo_law.specs.Premises.{solo_of, next_of, AreContentsFor, SetsOf, TouchesOf, IsStart, Premises}

-- with these contents the run of QPU k alone has ended
pub record Ends (x : Shares) (w : MachineState) (k : ℕ) (contents : List Given) : Type 0 where
  pub valid : AreContentsFor w contents
  pub rests : next_of w k (solo_of x w k contents) ≡ Rests

-- after a run of the machine QPU k stands where its run alone stands with some contents, and it has done the same words
pub record Follows (x : Shares) (w : MachineState) (k : ℕ) (steps : List Step) : Type 0 where
  pub contents : List Given
  pub valid : AreContentsFor w contents
  pub qpu : slice_get (machine_run steps w).qpus k ≡ Some (solo_of x w k contents).qpu
  pub notes : run_notes k steps w [] ≡ (solo_of x w k contents).notes

-- the first list, the last note first, is the second and then more
abbrev pub GoesOn : List Note → List Note → Type 0
GoesOn long short = (more : List Note) × (long ≡ more ++ short)

-- ---- law_projects

-- the elements of the transfer that an issue of QPU k starts next, none if it starts none; an engine is idle where a transfer is started
abbrev pub load_started : MachineState → ℕ → List Element
load_started s k = if is_busy s.shared.loads then [] else (happens s (Issue k)).state.shared.loads

abbrev pub store_started : MachineState → ℕ → List Element
store_started s k = if is_busy s.shared.stores then [] else (happens s (Issue k)).state.shared.stores

-- what a run of these steps is to the runs alone
pub record Projects (x : Shares) (w : MachineState) (steps : List Step) : Type 0 where
  -- no restriction is broken
  pub unbroken : (rule : Rule) (k place : ℕ) → stop_of (machine_run steps w) ≢ stop.Broken rule k place
  -- each QPU stands where its run alone stands with some contents
  pub follows : (k : ℕ) → k < length w.qpus → Follows x w k steps
  -- the places of QPU k's words and the transfers that it starts are the first ones of its run alone, whatever the contents
  pub prefix : (k : ℕ) → k < length w.qpus → (contents : List Given) → Ends x w k contents
      → GoesOn (solo_of x w k contents).notes (run_notes k steps w [])
  -- a finished run leaves of each byte that QPU k touches what its run alone leaves, but for shared words
  pub written : stop_of (machine_run steps w) ≡ stop.Finished
      → (k : ℕ) → k < length w.qpus → (contents : List Given) → Ends x w k contents
      → (a : ℕ) → TouchesOf x w k a → x.is_shared a ≡ false
      → get_or (machine_run steps w).memory a 0 ≡ get_or (solo_of x w k contents).memory a 0
  -- and of each shared word what the changes of all runs alone make of the opening's, in whatever order
  pub changed : stop_of (machine_run steps w) ≡ stop.Finished
      → (contents : ℕ → List Given) → ((k : ℕ) → k < length w.qpus → Ends x w k (contents k))
      → (ms : List (ℕ × Made)) → IsOrder (length w.qpus) (λ k. (solo_of x w k (contents k)).made) ms
      → (a : ℕ) → a % 4 ≡ 0 → x.is_shared a ≡ true
      → number_at 4 (machine_run steps w).memory a ≡ changed_by a (without_numbers ms) (number_at 4 w.memory a)
  -- a transfer that QPU k starts next lies in its footprint
  pub loads : (k a : ℕ) → AnyCovers (load_started (machine_run steps w) k) a → TouchesOf x w k a
  pub stores : (k a : ℕ) → AnyCovers (store_started (machine_run steps w) k) a → SetsOf x w k a
  -- at every moment a byte that none writes or changes is as at opening
  pub unwritten : (a : ℕ) → ((k : ℕ) → k < length w.qpus → ¬ (SetsOf x w k a)) → get_or (machine_run steps w).memory a 0 ≡ get_or w.memory a 0

abbrev pub EveryRunProjects : Type 0
EveryRunProjects = (x : Shares) (w : MachineState) → Premises x w → (steps : List Step) → Projects x w steps

-- ---- law_bound

abbrev pub sum_to : ℕ → (ℕ → ℕ) → ℕ
sum_to zero f = 0
sum_to (suc n) f = f n + sum_to n f

-- the words that a run alone issued, and the elements that it moved
abbrev pub cost : Solo → ℕ
cost s = length s.notes + s.moved

-- the effective steps of a run are at most the words and elements of all runs alone together
abbrev pub EveryRunIsBounded : Type 0
EveryRunIsBounded =
    (x : Shares) (w : MachineState) → Premises x w
    → (contents : ℕ → List Given) → ((k : ℕ) → k < length w.qpus → Ends x w k (contents k))
    → (steps : List Step) → effective_steps steps w ≤ sum_to (length w.qpus) (λ k. cost (solo_of x w k (contents k)))

-- ---- law_never_stuck

-- where a run isn't finished, some step is effective
abbrev pub NoRunIsStuck : Type 0
NoRunIsStuck =
    (x : Shares) (w : MachineState) → Premises x w
    → (steps : List Step) → stop_of (machine_run steps w) ≢ stop.Finished
    → (step : Step) × (is_effective (happens (machine_run steps w) step).effect ≡ true)

-- ---- law_rounds

-- Where no schedule breaks a restriction or is stuck, and no schedule has more effective steps than a limit, as many rounds as the limit finish the
-- run: each round has an effective step, until it is finished
abbrev pub RoundsFinish : Type 0
RoundsFinish =
    (w : MachineState) (limit : ℕ)
    → ((steps : List Step) (rule : Rule) (k place : ℕ) → stop_of (machine_run steps w) ≢ stop.Broken rule k place)
    → ((steps : List Step) → stop_of (machine_run steps w) ≢ stop.Finished → (step : Step) × (is_effective (happens (machine_run steps w) step).effect ≡ true))
    → ((steps : List Step) → effective_steps steps w ≤ limit)
    → (n : ℕ) → limit ≤ n → stop_of (machine_run (rounds_of n (length w.qpus)) w) ≡ stop.Finished

-- ---- openings

-- an opening is a start, whatever its registers, its VPM and its memory hold
abbrev pub OpeningsStart : Type 0
OpeningsStart =
    (plan : Planned) (contents : Contents) → IsPlan plan → AreContents plan.qpus contents
    → AreWords plan.uniforms → AreBytes plan.memory → IsStart (opening plan contents)
