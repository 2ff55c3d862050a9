-- Runs over the schedules that the program plays, a round or a step at a time.
use Rattle.std.specs.Prelude.{◌≡◌, ℕ, zero, suc, ◌+◌, List, [], ◌∷◌, map, refl}
use Rattle.std.specs.List.{range_with_len}
use Rattle.std.proofs.Common.{◌∙◌, ◌<◌, ◌≤◌, length, drop, get_or, ap, arith}
use Rattle.std.proofs.lemmas.List.{drop_more, drop_all}
use Rattle.std.proofs.lemmas.List.FromFn.{map-range_with_len_more}
use Rattle.qpu_machine.specs.declared.state.Step.{Step}
use Rattle.qpu_machine.specs.declared.state.Step.TheVariants.{Issue, Load, Store}
use Rattle.qpu_machine.specs.MachineState.{MachineState}
use Rattle.qpu_machine.specs.MachineRun.{happens, machine_run}
use Rattle.qpu_machine.specs.Schedules.{round, rounds_of, next_seed, drawn, step_at, seeded_of, byte_step, listed_of}
use Rattle.qpu_machine.proofs.Runs.{runs_compose}

pub run_none : (s : MachineState) → machine_run [] s ≡ s
unfolding machine_run
run_none s = refl

pub run_step : (s : MachineState) (step : Step) → machine_run (step ∷ []) s ≡ (happens s step).state
unfolding machine_run
run_step s step = refl

-- one step and then the others
pub run_first : (step : Step) (steps : List Step) (s : MachineState) → machine_run (step ∷ steps) s ≡ machine_run steps (machine_run (step ∷ []) s)
unfolding machine_run
run_first step steps s = refl

-- ---- rounds

-- an issue of one QPU more
pub run_issued : (k : ℕ) (s now : MachineState) → machine_run (map Issue (range_with_len 0 k)) s ≡ now → machine_run (map Issue (range_with_len 0 (k + 1))) s ≡ (happens now (Issue k)).state
run_issued k s now e =
    ap (λ steps. machine_run steps s) (map-range_with_len_more Issue 0 k k (omega arith))
    ∙ runs_compose (map Issue (range_with_len 0 k)) (Issue k ∷ []) s
    ∙ ap (machine_run (Issue k ∷ [])) e
    ∙ run_step now (Issue k)

-- no QPU issued yet
pub run_from : (s : MachineState) → machine_run (map Issue (range_with_len 0 0)) s ≡ s
run_from s = run_none s

run_moves : (s : MachineState) → machine_run (Load 0 ∷ Store 0 ∷ []) s ≡ (happens (happens s (Load 0)).state (Store 0)).state
unfolding machine_run
run_moves s = refl

-- all QPUs issued, and both engines moved
pub round_done : (qpus : ℕ) (s now : MachineState) → machine_run (map Issue (range_with_len 0 qpus)) s ≡ now
    → machine_run (round qpus) s ≡ (happens (happens now (Load 0)).state (Store 0)).state
unfolding round
round_done qpus s now e =
    runs_compose (map Issue (range_with_len 0 qpus)) (Load 0 ∷ Store 0 ∷ []) s
    ∙ ap (machine_run (Load 0 ∷ Store 0 ∷ [])) e
    ∙ run_moves now

-- one round of those that are left
pub rounds_next : (left rest qpus : ℕ) (s : MachineState) → left ≡ suc rest → machine_run (rounds_of left qpus) s ≡ machine_run (rounds_of rest qpus) (machine_run (round qpus) s)
unfolding rounds_of
rounds_next left rest qpus s e =
    ap (λ n. machine_run (rounds_of n qpus) s) e ∙ runs_compose (round qpus) (rounds_of rest qpus) s

pub no_rounds : (qpus : ℕ) (s : MachineState) → machine_run (rounds_of 0 qpus) s ≡ s
unfolding rounds_of
no_rounds qpus s = run_none s

-- ---- numbers from a seed

-- one step of those that are left
pub seeded_next : (seed left rest qpus : ℕ) (s : MachineState) → left ≡ suc rest
    → machine_run (seeded_of seed left qpus) s ≡ machine_run (seeded_of (next_seed seed) rest qpus) (machine_run (step_at qpus (drawn (next_seed seed)) ∷ []) s)
unfolding seeded_of
seeded_next seed left rest qpus s e =
    ap (λ n. machine_run (seeded_of seed n qpus) s) e ∙ run_first (step_at qpus (drawn (next_seed seed))) (seeded_of (next_seed seed) rest qpus) s

pub no_seeded : (seed qpus : ℕ) (s : MachineState) → machine_run (seeded_of seed 0 qpus) s ≡ s
unfolding seeded_of
no_seeded seed qpus s = run_none s

-- ---- the bytes of a file

-- one time of those that are left
pub listed_next : (bytes : List ℕ) (left rest : ℕ) (s : MachineState) → left ≡ suc rest
    → machine_run (listed_of bytes left) s ≡ machine_run (listed_of bytes rest) (machine_run (map byte_step bytes) s)
unfolding listed_of
listed_next bytes left rest s e =
    ap (λ n. machine_run (listed_of bytes n) s) e ∙ runs_compose (map byte_step bytes) (listed_of bytes rest) s

pub no_listed : (bytes : List ℕ) (s : MachineState) → machine_run (listed_of bytes 0) s ≡ s
unfolding listed_of
no_listed bytes s = run_none s

-- of no bytes there are no steps, however often
listed_none : (times : ℕ) → listed_of [] times ≡ []
unfolding listed_of
listed_none zero = refl
listed_none (suc times) = listed_none times

pub run_listed_none : (bytes : List ℕ) (times : ℕ) (s : MachineState) → length bytes ≡ 0 → machine_run (listed_of bytes times) s ≡ s
run_listed_none [] times s e = ap (λ steps. machine_run steps s) (listed_none times) ∙ run_none s
run_listed_none (byte ∷ bytes) times s e = absurd (omega (arith, e))

-- the bytes from number i on, of which one is next
pub bytes_next : (bytes : List ℕ) (i : ℕ) (s : MachineState) → i < length bytes
    → machine_run (map byte_step (drop i bytes)) s ≡ machine_run (map byte_step (drop (i + 1) bytes)) (machine_run (byte_step (get_or bytes i 0) ∷ []) s)
bytes_next bytes i s h =
    ap (λ rest. machine_run (map byte_step rest) s) (drop_more bytes i 0 h) ∙ run_first (byte_step (get_or bytes i 0)) (map byte_step (drop (i + 1) bytes)) s

pub no_bytes : (bytes : List ℕ) (i : ℕ) (s : MachineState) → length bytes ≤ i → machine_run (map byte_step (drop i bytes)) s ≡ s
no_bytes bytes i s h = ap (λ rest. machine_run (map byte_step rest) s) (drop_all i bytes h) ∙ run_none s
